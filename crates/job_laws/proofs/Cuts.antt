-- From the laws of plans and of shapes.
use Rattle.std.proofs.Common.{ℕ, ◌≡◌, ◌<◌, ◌∙◌, List, Option, Some, None, refl, ap, subst, sym, length, arith}
use Rattle.coll_shape.specs.Folding.{at}
use Rattle.coll_shape.specs.Meaning.{AreInputs, lists_of, meaning_of}
use Rattle.coll_shape.specs.Outline.{Outline, group_at, step_at}
use Rattle.coll_shape.specs.declared.types.CollStep.TheVariants.{Barrier}
use Rattle.coll_shape.specs.WellFormed.{IsWellFormed}
use Rattle.plan_core.specs.Draw.{held_cell}
use Rattle.plan_core.specs.Sound.{SoundPlan}
use Rattle.plan_core.specs.Values.{Inputs}
use Rattle.cuts.specs.view.Slots.{Slots}
use Rattle.cuts.specs.histories.Barrier.{IsBarrierKept}
use Rattle.cuts.specs.histories.Cut.{IsAtRest, IsCut}
use Rattle.cuts.specs.histories.Plans.{CounterReached, IsComplete, system_of}
use Rattle.cuts.specs.histories.System.{Histories, state_at}
use Rattle.plan_steps.specs.Rounds.{rounds}
use Rattle.schedule_compiler.specs.shapes.Drawing.{drawing_of, drawn_upto, plan_of}
use Rattle.plan_steps.specs.Drawing.{site}
use Rattle.plan_steps.specs.Collectives.{end_of}
use Rattle.schedule_compiler.specs.shapes.Footprint.{refusal}
use Rattle.schedule_compiler.proofs.shapes.Final.{barrier-cells, barrier-rounds, fine-shape, inputs_fit, result-cell, sound, unheld-empty}
use Rattle.schedule_compiler.proofs.shapes.Final.{value-held}
use Rattle.job_laws.proofs.steps.Chain.{entry_in, exit_in, leads_first, leads_next, leads_through}
use Rattle.job_laws.specs.steps.Order.{IsAt, entry_cell, exit_cell}
use Rattle.cuts.specs.done.Done.{IsDone}
use Rattle.cuts.proofs.cells.Cells.{complete_at as cells_complete, complete_values, done_values, in_order as cells_in_order, rest_values}
use Rattle.cuts.proofs.cells.Cells.{rounds_kept}
use Rattle.cuts.specs.cells.Cells.{AreCellsInOrder, AreValues, AreValuesAt, cell_part}
use Rattle.job_laws.specs.Barriers.{AreBarriersKept, AreStepsInOrder, barrier_cell}
use Rattle.job_laws.specs.Results.{AreMeant, AreMeantAt}

-- the plan is sound for these inputs
pub sound_for : (o : Outline) (inputs : Inputs) → IsWellFormed o → refusal o ≡ None → AreInputs o inputs
    → SoundPlan (plan_of o) (length inputs)
sound_for o inputs formed accepted given = subst (SoundPlan (plan_of o)) (sym given.many) (sound o formed accepted)

-- and has the shape's ranks
pub rank_of : (o : Outline) (r : ℕ) → IsWellFormed o → r < o.ranks → r < (plan_of o).ranks
rank_of o r formed h = subst (λ n. r < n) (sym (fine-shape o formed).ranks) h

-- ---- meanings
-- where a rank's cells hold their values its part of a cell is the list of the buffer that the cell holds
value_part : (o : Outline) (inputs : Inputs) (memory : List ℕ) → IsWellFormed o → AreInputs o inputs
    → (b r : ℕ) → b < length o.buffers → r < o.ranks → AreValuesAt (plan_of o) inputs r memory
    → (h : Option ℕ) → held_cell (drawing_of o).held b r ≡ h → cell_part (plan_of o) memory h ≡ at (lists_of (meaning_of o inputs) b) r
value_part o inputs memory formed given b r hb hr values None e = sym (unheld-empty o inputs formed given b r hb hr e)
value_part o inputs memory formed given b r hb hr values (Some c) e =
    let is = result-cell o formed b r c hb hr e in
    values c is.in_plan is.rank ∙ value-held o inputs formed given b r c hb hr e

pub meant_at_rank : (o : Outline) (inputs : Inputs) (r : ℕ) (memory : List ℕ) → IsWellFormed o → AreInputs o inputs → r < o.ranks
    → AreValuesAt (plan_of o) inputs r memory → AreMeantAt o inputs r memory
meant_at_rank o inputs r memory formed given hr values b hb =
    value_part o inputs memory formed given b r hb hr values (held_cell (drawing_of o).held b r) refl

pub meant_by_values : (o : Outline) (inputs : Inputs) (memory : ℕ → List ℕ) → IsWellFormed o → AreInputs o inputs
    → AreValues (plan_of o) inputs memory → AreMeant o inputs memory
meant_by_values o inputs memory formed given values b r hb hr =
    meant_at_rank o inputs r (memory r) formed given hr (values r (rank_of o r formed hr)) b hb

-- ---- in cuts
pub meant_where_complete : (o : Outline) (inputs : Inputs) (slots : ℕ → Slots) (w : Histories) → IsWellFormed o → AreInputs o inputs
    → ((r : ℕ) → r < o.ranks → IsComplete (plan_of o) inputs slots w r)
    → AreMeant o inputs (λ r. (state_at (system_of (plan_of o) inputs slots) w r).memory)
meant_where_complete o inputs slots w formed given done b r hb hr =
    meant_at_rank o inputs r (state_at (system_of (plan_of o) inputs slots) w r).memory formed given hr
    (complete_values (plan_of o) inputs slots w r (done r hr)) b hb

module _ (o : Outline) (inputs : Inputs) (slots : ℕ → Slots) (w : Histories) (formed : IsWellFormed o) (accepted : refusal o ≡ None)
    (given : AreInputs o inputs) (cut : IsCut (system_of (plan_of o) inputs slots) w) where
  fits : SoundPlan (plan_of o) (length inputs)
  fits = sound_for o inputs formed accepted given

  pub complete_at : IsAtRest (system_of (plan_of o) inputs slots) w → (r : ℕ) → r < o.ranks → IsComplete (plan_of o) inputs slots w r
  complete_at rest r h = cells_complete (plan_of o) inputs fits (inputs_fit o inputs formed given) slots w cut rest r (rank_of o r formed h)

  pub meant_at_rest : IsAtRest (system_of (plan_of o) inputs slots) w
      → AreMeant o inputs (λ r. (state_at (system_of (plan_of o) inputs slots) w r).memory)
  meant_at_rest rest =
      meant_by_values o inputs (λ r. (state_at (system_of (plan_of o) inputs slots) w r).memory) formed given
      (rest_values (plan_of o) inputs fits (inputs_fit o inputs formed given) slots w cut rest)

  pub meant_where_done : (r : ℕ) → r < o.ranks → IsDone (plan_of o) inputs slots w r
      → AreMeantAt o inputs r (state_at (system_of (plan_of o) inputs slots) w r).memory
  meant_where_done r hr done =
      meant_at_rank o inputs r (state_at (system_of (plan_of o) inputs slots) w r).memory formed given hr
      (done_values (plan_of o) inputs fits (inputs_fit o inputs formed given) slots w cut r (rank_of o r formed hr) done)

  pub ordered : AreCellsInOrder (plan_of o) inputs slots w
  ordered = cells_in_order (plan_of o) inputs fits (inputs_fit o inputs formed given) slots w cut

-- ---- one step after the other
-- the exit of a barrier is the cell of its last round
barrier_exit : (o : Outline) (j m : ℕ) → step_at o j ≡ Barrier
    → exit_cell o j m ≡ barrier_cell o j (rounds (length (group_at o j))) m
barrier_exit o j m is = ap (λ t. (end_of (site o (drawn_upto o j) t (group_at o j)) t m).exit) is

module _ (o : Outline) (inputs : Inputs) (slots : ℕ → Slots) (w : Histories) (formed : IsWellFormed o) (accepted : refusal o ≡ None)
    (order : AreCellsInOrder (plan_of o) inputs slots w) where
  rank_at : (k i r : ℕ) → IsAt o k i r → r < (plan_of o).ranks
  rank_at k i r at = rank_of o r formed (subst (λ v. v < o.ranks) at.member ((formed.fits k at.step).members.ranks i at.place))

  go_in : (r : ℕ) → r < (plan_of o).ranks → r < length (plan_of o).cells
  go_in r h = let all = (sound o formed accepted).all_go in omega (arith, h, all)

  pub steps_by_order : AreStepsInOrder o inputs slots w
  steps_by_order = record {
    begun = λ k i r at reached. order r (entry_cell o k i) (go_in r (rank_at k i r at)) (entry_in o formed k i r at)
        (leads_first o formed k i r at) reached;
    through = λ k i r at reached. order (entry_cell o k i) (exit_cell o k i) (entry_in o formed k i r at) (exit_in o formed k i r at)
        (leads_through o formed k i r at) reached;
    next = λ j k i m r before from to reached. order (exit_cell o j i) (entry_cell o k m) (exit_in o formed j i r from)
        (entry_in o formed k m r to) (leads_next o formed j k i m r before from to) reached;
  }

  kept : (j : ℕ) → j < length o.steps → step_at o j ≡ Barrier
      → IsBarrierKept (plan_of o) inputs slots w (length (group_at o j)) (barrier_cell o j) (rounds (length (group_at o j)))
  kept j hj is = rounds_kept (plan_of o) inputs slots w order (length (group_at o j)) (rounds (length (group_at o j))) (barrier_cell o j)
      (barrier-rounds o formed j hj is) (barrier-cells o formed j hj is)

  pub barriers_by_order : AreBarriersKept o inputs slots w
  barriers_by_order j hj is = (
    kept j hj is,
    (λ k i m r a before from to ha reached. kept j hj is a m ha from.place
        (subst (CounterReached (plan_of o) inputs slots w) (barrier_exit o j m is)
        (steps_by_order.next j k m i r before from to reached))),
  )
