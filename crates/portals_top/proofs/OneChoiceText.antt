-- What `sim` writes of a choice text is that of each run that the seed's words choose; so of any bytes it is one text.
use Rattle.std.proofs.Common.{◌≡◌, ◌<◌, ℕ, List, ◌++◌, map, flat_map, Option, Some, None, Result, Ok, Err, refl, sym, ◌∙◌, ap, ap₂, subst}
use Rattle.std.proofs.Common.{arith}
use Rattle.std.proofs.lemmas.List.{length-map}
use Rattle.number_lists.specs.Numbers.{from_to}
use Rattle.coll_lang.specs.declared.choices.ChoiceKind.{ChoiceKind}
use Rattle.coll_lang.specs.declared.fault.Refusal.{Refusal}
use Rattle.coll_lang.specs.Language.{read}
use Rattle.coll_lang.specs.Program.{Chosen, Program}
use Rattle.coll_lang.specs.Readable.{FitsChoices, chosen_name}
use Rattle.coll_lang.proofs.Coming.{comes}
use Rattle.plan_core.proofs.Flat.{flat-same}
use Rattle.cuts.specs.histories.System.{Histories, state_at}
use Rattle.cuts.specs.orders.Chosen.{IsChosen}
use Rattle.cuts.specs.orders.Taking.{listed}
use Rattle.cuts.proofs.orders.Choosing.{below}
use Rattle.schedule_compiler.specs.shapes.Footprint.{Refused as Excessive, refusal}
use Rattle.run_text.specs.Lines.{rest_line, value_line}
use Rattle.run_text.specs.Orders.{order_text}
use Rattle.plan_choice.specs.texts.view.Install.{Slots}
use Rattle.plan_choice.specs.texts.laws.Decided.{IsInRange, choice_system, result_of}
use Rattle.plan_choice.proofs.texts.orders.Ending.{choice_ends}
use Rattle.plan_choice.proofs.texts.orders.OneRun.{one_result, one_run}
use Rattle.plan_choice.specs.ranks.Seats.{kind_of, kinds_of, slots_in}
use Rattle.plan_choice.specs.Acts.{seat_at}
use Rattle.plan_choice.specs.World.{ChoiceState, histories_in, nic_in, value_in}
use Rattle.portals_top.specs.declared.ran.Ran.{Ran}
use Rattle.portals_top.specs.declared.words.Command.{Command}
use Rattle.portals_top.specs.declared.words.Command.TheVariants.{Execute}
use Rattle.job_runs.specs.declared.modes.Mode.TheVariants.{Sim}
use Rattle.portals_top.specs.Answered.{LeavesChoice, LeavesDescribed, LeavesOf, RunLeaves}
use Rattle.portals_top.specs.Choosing.{choice_orders_of, choice_steps, values_of, values_text}
use Rattle.portals_top.specs.Due.{due, due_compiled, due_described, due_of}
use Rattle.portals_top.specs.OneText.{IsChoosing, choosers_of, run_lines, run_orders, run_values, sim_task}
use Rattle.job_runs.specs.Runs.{word}
use Rattle.portals_top.proofs.OneText.{same-orders, same-text}

-- a choice text has as many ranks and steps as a run may have
within : (bytes : List ℕ) (d : Program) (c : Chosen) → IsChoosing bytes d c → IsInRange d.shape.ranks (kinds_of c.steps)
within bytes d c choosing =
    let ok = (comes bytes d choosing.is).readable in
    let fits : FitsChoices d.shape (Some c) = subst (FitsChoices d.shape) choosing.choices ok.choices in
    let some = ok.formed.shape.some_rank in
    let at_most = ok.formed.shape.few_ranks in
    let steps = fits.0.at_most in
    let long = length-map c.steps kind_of in
    record { some = omega (arith, some); few_ranks = omega (arith, at_most); few_steps = omega (arith, steps, long) }

-- the slots that the tables of a choice world gave
abbrev own_slots : ChoiceState → ℕ → Slots
own_slots w r = slots_in (seat_at w.seats r)

-- a run that these words choose
pub some-choice-run : (bytes : List ℕ) (d : Program) (c : Chosen) (slots : ℕ → Slots) (seed : ℕ) → IsChoosing bytes d c
    → (run : Histories) × IsChosen (choosers_of d c slots) (word seed) run
some-choice-run bytes d c slots seed choosing =
    choice_ends d.shape.ranks (kinds_of c.steps) slots (within bytes d c choosing) (word seed)

module _ (bytes : List ℕ) (d : Program) (c : Chosen) (slots : ℕ → Slots) (seed : ℕ) (run : Histories) (choosing : IsChoosing bytes d c)
    (chosen : IsChosen (choosers_of d c slots) (word seed) run) where
  -- what is written of a choice world that a run of the text leaves
  of-choice-world : (w : Option ChoiceState) → LeavesChoice (Sim seed) d.shape.ranks c w
      → values_of c w ++ choice_orders_of w ≡ run_values d c slots run ++ run_orders d run
  of-choice-world None left = absurd left
  of-choice-world (Some w) left = ap₂ (λ x y. x ++ y) values orders
    where
      as_d : IsChosen (choosers_of d c (own_slots w)) (word seed) (histories_in w)
      as_d = subst (λ (ks : List ChoiceKind). IsChosen (choice_system d.shape.ranks ks (own_slots w)) (word seed) (histories_in w))
          left.0.kinds (subst (λ n. IsChosen (choice_system n w.kinds (own_slots w)) (word seed) (histories_in w)) left.0.ranks left.1)

      -- its interfaces are those of the text's ranks
      state_is : (r : ℕ) → r < d.shape.ranks → nic_in w r ≡ state_at (choosers_of d c (own_slots w)) (histories_in w) r
      state_is r h = left.0.standing.nic r (subst (λ n. r < n) (sym left.0.ranks) h)
          ∙ ap₂ (λ n (ks : List ChoiceKind). state_at (choice_system n ks (own_slots w)) (histories_in w) r) left.0.ranks left.0.kinds

      same_value : (s r : ℕ) → r < d.shape.ranks → value_in w s r ≡ result_of s (state_at (choosers_of d c slots) run r)
      same_value s r h = ap (result_of s) (state_is r h)
          ∙ one_result d.shape.ranks (kinds_of c.steps) (own_slots w) slots (within bytes d c choosing) (word seed)
          (histories_in w) run as_d chosen s r h

      step_alike : (s : ℕ) → flat_map (λ r. value_line (chosen_name c s) r (value_in w s r)) (from_to 0 d.shape.ranks)
          ≡ run_lines d c slots run s
      step_alike s = flat-same (λ r. value_line (chosen_name c s) r (value_in w s r))
          (λ r. value_line (chosen_name c s) r (result_of s (state_at (choosers_of d c slots) run r))) (from_to 0 d.shape.ranks)
          (λ r i. ap (value_line (chosen_name c s) r) (same_value s r (below d.shape.ranks r i)))

      values : values_text c w ≡ run_values d c slots run
      values = ap (λ n. flat_map (λ s. flat_map (λ r. value_line (chosen_name c s) r (value_in w s r)) (from_to 0 n)) c.prints ++ rest_line)
          left.0.ranks
          ∙ (λ i. flat_map (λ s. step_alike s i) c.prints ++ rest_line)

      orders : order_text w.ranks (choice_steps w) ≡ run_orders d run
      orders = ap (λ n. order_text n (choice_steps w)) left.0.ranks
          ∙ same-orders d.shape.ranks (choice_steps w) (λ r. map listed (run r))
          (λ r h. one_run d.shape.ranks (kinds_of c.steps) (own_slots w) slots (within bytes d c choosing) (word seed)
          (histories_in w) run as_d chosen r h)

  of-choices : (ran : Ran) (choices : Option Chosen) → choices ≡ Some c → LeavesDescribed (Execute (Sim seed)) d choices ran
      → (due_described (Execute (Sim seed)) d ran choices).text ≡ run_values d c slots run ++ run_orders d run
  of-choices ran None is left = absurd (cc)
  of-choices ran (Some x) is left =
      let same : x ≡ c = cc in
      ap (λ v. values_of v ran.choice ++ choice_orders_of ran.choice) same
      ∙ of-choice-world ran.choice (subst (λ v. LeavesChoice (Sim seed) d.shape.ranks v ran.choice) same left.0)

  pub one-choice-text : (ran : Ran) → RunLeaves (Some (sim_task seed)) bytes ran
      → (due (Some (sim_task seed)) bytes ran).text ≡ run_values d c slots run ++ run_orders d run
  one-choice-text ran left =
      ap (λ r. (due_of (Execute (Sim seed)) ran r).text) choosing.is
      ∙ of-choices ran d.choices choosing.choices (subst (λ r. LeavesOf (Execute (Sim seed)) r ran) choosing.is left)

-- some slots
stamps : ℕ → Slots
stamps r = record { ct = λ n. n; me = λ n. n; md = λ n. n }

-- two runs owe one text
pub same-choice-text : (bytes : List ℕ) (d : Program) (c : Chosen) (seed : ℕ) (one other : Ran) → IsChoosing bytes d c
    → RunLeaves (Some (sim_task seed)) bytes one → RunLeaves (Some (sim_task seed)) bytes other
    → (due (Some (sim_task seed)) bytes one).text ≡ (due (Some (sim_task seed)) bytes other).text
same-choice-text bytes d c seed one other choosing left right = at (some-choice-run bytes d c stamps seed choosing)
  where
    at : (run : Histories) × IsChosen (choosers_of d c stamps) (word seed) run
        → (due (Some (sim_task seed)) bytes one).text ≡ (due (Some (sim_task seed)) bytes other).text
    at x = one-choice-text bytes d c stamps seed x.0 choosing x.1 one left
        ∙ sym (one-choice-text bytes d c stamps seed x.0 choosing x.1 other right)

-- so do two runs of any bytes: what is refused is told by the bytes
module _ (bytes : List ℕ) (seed : ℕ) (one other : Ran) (left : RunLeaves (Some (sim_task seed)) bytes one)
    (right : RunLeaves (Some (sim_task seed)) bytes other) where
  -- what is asked for
  abbrev asked : Command
  asked = Execute (Sim seed)

  abbrev AreSame : Type 0
  AreSame = (due (Some (sim_task seed)) bytes one).text ≡ (due (Some (sim_task seed)) bytes other).text

  of-size : (d : Program) → read bytes ≡ Ok d → d.choices ≡ None → (r : Option Excessive) → refusal d.shape ≡ r → AreSame
  of-size d is plain None accepted = same-text bytes d seed one other (record { is = is; plain = plain; accepted = accepted }) left right
  of-size d is plain (Some r) excess = text_is one ∙ sym (text_is other)
    where
      text_is : (ran : Ran) → (due (Some (sim_task seed)) bytes ran).text ≡ (due_compiled asked d.shape d.inputs ran.world (Some r)).text
      text_is ran =
          ap (λ v. (due_of asked ran v).text) is
          ∙ ap (λ v. (due_described asked d ran v).text) plain
          ∙ ap (λ v. (due_compiled asked d.shape d.inputs ran.world v).text) excess

  of-program : (d : Program) → read bytes ≡ Ok d → (choices : Option Chosen) → d.choices ≡ choices → AreSame
  of-program d is None plain = of-size d is plain (refusal d.shape) refl
  of-program d is (Some c) choices = same-choice-text bytes d c seed one other (record { is = is; choices = choices }) left right

  of-read : (r : Result Program (ℕ × Refusal)) → read bytes ≡ r → AreSame
  of-read (Ok d) is = of-program d is d.choices refl
  of-read (Err fault) is = ap (λ v. (due_of asked one v).text) is ∙ sym (ap (λ v. (due_of asked other v).text) is)

  pub same-of-any : AreSame
  same-of-any = of-read (read bytes) refl
