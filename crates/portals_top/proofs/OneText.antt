-- The orders that `sim` writes are those of each run that the seed's words choose.
use Rattle.std.proofs.Common.{◌≡◌, ◌<◌, ℕ, List, ◌++◌, map, Option, Some, None, sym, ◌∙◌, ap, subst}
use Rattle.op_laws.proofs.OpLaws.{op_laws}
use Rattle.op_laws.proofs.Starts.{combined-starts}
use Rattle.op_laws.proofs.Swaps.{combined-swaps}
use Rattle.ptl_types.specs.declared.steps.LocalStep.{LocalStep}
use Rattle.number_lists.specs.Numbers.{from_to}
use Rattle.coll_lang.specs.Program.{Chosen, Program}
use Rattle.coll_lang.proofs.Coming.{comes}
use Rattle.coll_shape.specs.Meaning.{Lists}
use Rattle.plan_core.proofs.Flat.{flat-same}
use Rattle.cuts.specs.view.Slots.{Slots}
use Rattle.cuts.specs.histories.Plans.{system_of}
use Rattle.cuts.specs.histories.System.{Histories}
use Rattle.cuts.specs.orders.Chosen.{IsChosen}
use Rattle.cuts.specs.orders.Taking.{listed}
use Rattle.cuts.proofs.orders.Choosing.{below}
use Rattle.cuts.proofs.orders.Ends.{chosen_ends}
use Rattle.cuts.proofs.orders.OneChosen.{one_chosen}
use Rattle.schedule_compiler.specs.shapes.Drawing.{plan_of}
use Rattle.schedule_compiler.specs.shapes.Footprint.{Refused as Excessive, refusal}
use Rattle.schedule_compiler.proofs.shapes.Final.{fine-shape, inputs_fit}
use Rattle.schedule_compiler.specs.Schedules.{ScheduleOf}
use Rattle.job_laws.proofs.Cuts.{rank_of, sound_for}
use Rattle.run_text.specs.Lines.{result_text}
use Rattle.run_text.specs.Orders.{order_line, order_text}
use Rattle.worlds.specs.World.{WorldState, histories_in}
use Rattle.worlds.proofs.Ends.{given_slots, slots_given}
use Rattle.portals_top.specs.declared.ran.Ran.{Ran}
use Rattle.portals_top.specs.declared.words.Command.TheVariants.{Execute}
use Rattle.job_runs.specs.declared.modes.Mode.TheVariants.{Sim}
use Rattle.portals_top.specs.Answered.{LeavesDescribed, LeavesOf, LeavesRun, LeavesWorld, RunLeaves}
use Rattle.portals_top.specs.Due.{due, due_compiled, due_described, due_of, orders_of}
use Rattle.portals_top.specs.Headline.{ranks_of}
use Rattle.portals_top.specs.OneText.{IsPlanned, run_orders, sim_task}
use Rattle.job_runs.specs.Runs.{word}

-- the texts of orders that agree at each rank
pub same-orders : (n : ℕ) (f g : ℕ → List LocalStep) → ((r : ℕ) → r < n → f r ≡ g r) → order_text n f ≡ order_text n g
same-orders n f g same =
    flat-same (λ r. order_line r (f r)) (λ r. order_line r (g r)) (from_to 0 n) (λ r i. ap (order_line r) (same r (below n r i)))

-- a run that these words choose
pub some-run : (bytes : List ℕ) (d : Program) (slots : ℕ → Slots) (seed : ℕ) → IsPlanned bytes d
    → (run : Histories) × IsChosen (ranks_of d slots) (word seed) run
some-run bytes d slots seed planned =
    let ok = (comes bytes d planned.is).readable in
    chosen_ends combined-starts (plan_of d.shape) d.inputs (sound_for d.shape d.inputs ok.formed planned.accepted ok.given)
    (inputs_fit d.shape d.inputs ok.formed ok.given) (combined-swaps op_laws) slots (word seed)

module _ (bytes : List ℕ) (d : Program) (slots : ℕ → Slots) (seed : ℕ) (run : Histories) (planned : IsPlanned bytes d)
    (chosen : IsChosen (ranks_of d slots) (word seed) run) where
  -- the orders of a world that a run of the description leaves
  of-world : (w : Option WorldState) → LeavesRun (Sim seed) d.shape d.inputs w → orders_of w ≡ run_orders d run
  of-world None left = absurd left
  of-world (Some w) left =
      let ok = (comes bytes d planned.is).readable in
      let own = given_slots w in
      let here = left.1.1 own (slots_given w left.0.standing) in
      let as_d : IsChosen (ranks_of d own) (word seed) (histories_in w) =
      subst (λ (i : Lists). IsChosen (system_of (plan_of d.shape) i own) (word seed) (histories_in w)) left.0.inputs
      (subst (λ (s : ScheduleOf). IsChosen (system_of s.plan w.inputs own) (word seed) (histories_in w)) left.0.of_shape.schedule here) in
      ap (λ (s : ScheduleOf). order_text s.plan.ranks (λ r. map listed (histories_in w r))) left.0.of_shape.schedule
      ∙ ap (λ n. order_text n (λ r. map listed (histories_in w r))) (fine-shape d.shape ok.formed).ranks
      ∙ same-orders d.shape.ranks (λ r. map listed (histories_in w r)) (λ r. map listed (run r))
      (λ r h. one_chosen combined-starts (plan_of d.shape) d.inputs (sound_for d.shape d.inputs ok.formed planned.accepted ok.given)
      (inputs_fit d.shape d.inputs ok.formed ok.given) (combined-swaps op_laws) own slots (word seed) (histories_in w) run as_d chosen r
      (rank_of d.shape r ok.formed h))

  -- what is owed
  of-compiled : (ran : Ran) (r : Option Excessive) → r ≡ None → LeavesWorld (Execute (Sim seed)) d.shape d.inputs ran
      → (due_compiled (Execute (Sim seed)) d.shape d.inputs ran.world r).text ≡ result_text d.shape d.inputs ++ run_orders d run
  of-compiled ran None is left = ap (λ t. result_text d.shape d.inputs ++ t) (of-world ran.world left.0)
  of-compiled ran (Some r) is left = absurd (cc)

  of-described : (ran : Ran) (choices : Option Chosen) → choices ≡ None → LeavesDescribed (Execute (Sim seed)) d choices ran
      → (due_described (Execute (Sim seed)) d ran choices).text ≡ result_text d.shape d.inputs ++ run_orders d run
  of-described ran None is left = of-compiled ran (refusal d.shape) planned.accepted left
  of-described ran (Some choices) is left = absurd (cc)

  pub one-text : (ran : Ran) → RunLeaves (Some (sim_task seed)) bytes ran
      → (due (Some (sim_task seed)) bytes ran).text ≡ result_text d.shape d.inputs ++ run_orders d run
  one-text ran left =
      ap (λ r. (due_of (Execute (Sim seed)) ran r).text) planned.is
      ∙ of-described ran d.choices planned.plain (subst (λ r. LeavesOf (Execute (Sim seed)) r ran) planned.is left)

-- some slots
no_slots : ℕ → Slots
no_slots r = record { ct = λ n. n; me = λ n. n; md = 0 }

-- two runs owe one text
pub same-text : (bytes : List ℕ) (d : Program) (seed : ℕ) (one other : Ran) → IsPlanned bytes d
    → RunLeaves (Some (sim_task seed)) bytes one → RunLeaves (Some (sim_task seed)) bytes other
    → (due (Some (sim_task seed)) bytes one).text ≡ (due (Some (sim_task seed)) bytes other).text
same-text bytes d seed one other planned left right = at (some-run bytes d no_slots seed planned)
  where
    at : (run : Histories) × IsChosen (ranks_of d no_slots) (word seed) run
        → (due (Some (sim_task seed)) bytes one).text ≡ (due (Some (sim_task seed)) bytes other).text
    at x = one-text bytes d no_slots seed x.0 planned x.1 one left ∙ sym (one-text bytes d no_slots seed x.0 planned x.1 other right)
