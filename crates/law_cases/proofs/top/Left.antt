-- What a run leaves: of no world that lacks one of these is it said that it ran. And verdicts and statuses that may not be answered.
use Rattle.std.proofs.Common.{ℕ, ◌≡◌, ◌<◌, List, [], ◌∷◌, ◌++◌, Some, None, Err, refl, ap, arith, sym, ◌∙◌, count_by, length, get_or, codes}
use Rattle.std.specs.Fmt.{digits}
use Rattle.ptl_types.specs.declared.steps.Cause.TheVariants.{NotReady}
use Rattle.cuts.specs.view.Slots.{Slots}
use Rattle.cuts.specs.histories.History.{is_start}
use Rattle.cuts.specs.histories.Plans.{system_of}
use Rattle.cuts.specs.histories.System.{state_at}
use Rattle.cuts.specs.declared.orders.Step.TheVariants.{Start}
use Rattle.cuts.specs.declared.orders.Verdict.TheVariants.{Fails, Holds}
use Rattle.coll_shape.specs.Folding.{at}
use Rattle.coll_shape.specs.Meaning.{Lists, lists_of, meaning_of}
use Rattle.coll_shape.specs.Outline.{Outline}
use Rattle.coll_lang.specs.declared.fault.Refusal.TheVariants.{BadOrder}
use Rattle.schedule_compiler.specs.shapes.Drawing.{drawing_of, plan_of}
use Rattle.schedule_compiler.proofs.shapes.Final.{fine-shape}
use Rattle.cuts.specs.cells.Cells.{result_in}
use Rattle.schedule_compiler.specs.Schedules.{ScheduleOf}
use Rattle.worlds.specs.World.{AreSlots, WorldState, histories_in, memory_in, ranks_in, steps_in}
use Rattle.run_text.specs.declared.status.Status.TheVariants.{Done, NoMemory, ReadFault, Refused, Usage, WriteFault}
use Rattle.run_text.specs.Ending.{MayAnswer}
use Rattle.portals_top.specs.Checked.{due_checked, due_verdict}
use Rattle.portals_top.specs.Runs.{IsRun}

module _ (o : Outline) (given : Lists) (w : WorldState) where
  of_another_shape : w.schedule.plan.ranks ≡ 3 → o.ranks ≡ 2 → IsRun o given w → ⊥
  of_another_shape a b h =
      let q = ap (λ (s : ScheduleOf). s.plan.ranks) h.of_shape.schedule ∙ (fine-shape o h.of_shape.formed).ranks in
      omega (arith, a, b, q)

  of_other_inputs : length w.inputs ≡ 2 → length given ≡ 1 → IsRun o given w → ⊥
  of_other_inputs a b h = let q = ap (λ (xs : Lists). length xs) h.inputs in omega (arith, a, b, q)

  without_a_window : w.window ≡ 0 → IsRun o given w → ⊥
  without_a_window e h = let q = h.standing.some in omega (arith, e, q)

  with_room_for_a_stray : w.spare ≡ 1 → IsRun o given w → ⊥
  with_room_for_a_stray e h = let q = h.own in omega (arith, e, q)

  with_a_step_left : (slots : ℕ → Slots) → AreSlots w slots → steps_in w slots ≡ Start 0 ∷ [] → IsRun o given w → ⊥
  with_a_step_left slots a e h = let q : Start 0 ∷ [] ≡ [] = sym e ∙ h.none slots a in cc

  with_a_rank_unstarted : (slots : ℕ → Slots) → AreSlots w slots → (r : ℕ) → r < (ranks_in w slots).count
      → count_by is_start (histories_in w r) ≡ 0 → IsRun o given w → ⊥
  with_a_rank_unstarted slots a r below e h = let q = (h.rest slots a).started r below in omega (arith, e, q)

  with_a_violation : (slots : ℕ → Slots) → AreSlots w slots → (r : ℕ) → r < w.schedule.plan.ranks
      → (state_at (system_of w.schedule.plan w.inputs slots) (histories_in w) r).violations ≡ 1 → IsRun o given w → ⊥
  with_a_violation slots a r below e h = let q = (h.complete slots a r below).violations in omega (arith, e, q)

  with_another_byte : (b r : ℕ) → b < length o.buffers → r < o.ranks
      → result_in (plan_of o) (drawing_of o).held b r (memory_in w r) ≡ 1 ∷ []
      → at (lists_of (meaning_of o given) b) r ≡ 2 ∷ [] → IsRun o given w → ⊥
  with_another_byte b r hb hr e f h =
      let q : 1 ≡ 2 = ap (λ (bytes : List ℕ). get_or bytes 0 0) (sym e ∙ h.meant b r hb hr ∙ f) in omega (arith, q)

-- ---- the text of a verdict
abbrev ends : List ℕ → List ℕ
ends bytes = bytes ++ 10 ∷ []

verdicts : (due_verdict None ≡ record { status = Done; text = [] })
    × (due_verdict (Some Holds) ≡ record { status = Done; text = ends (codes "holds") })
    × (due_verdict (Some (Fails 2 13 NotReady)) ≡ record { status = Refused; text = ends (codes "fails 2 13 NotReady") })
unfolding digits
verdicts = (refl, refl, refl)

orders_are_refused : due_checked (Some Holds) (Err (9, BadOrder)) ≡ record { status = Refused; text = ends (codes "refused 9 BadOrder") }
unfolding digits
orders_are_refused = refl

-- ---- statuses
done_for_refused : MayAnswer Done Refused → ⊥
done_for_refused e = cc

refused_for_done : MayAnswer Refused Done → ⊥
refused_for_done e = cc

usage_for_done : MayAnswer Usage Done → ⊥
usage_for_done e = cc

usage_reads_nothing : MayAnswer ReadFault Usage → ⊥
usage_reads_nothing h = h refl

usage_takes_no_memory : MayAnswer NoMemory Usage → ⊥
usage_takes_no_memory h = h refl

what_is_owed : MayAnswer Done Done × MayAnswer Usage Usage × MayAnswer Refused Refused × MayAnswer WriteFault Usage
    × MayAnswer WriteFault Done
what_is_owed = (refl, refl, refl, tt, tt)
