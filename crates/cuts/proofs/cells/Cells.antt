-- From the laws of plans.
use Rattle.std.proofs.Common.{ℕ, ◌+◌, ◌≡◌, ◌<◌, ◌≤◌, ◌∙◌, ap, sym, length, length-append, flat_map, arith}
use Rattle.op_laws.proofs.OpLaws.{op_laws}
use Rattle.op_laws.proofs.Starts.{combined-starts}
use Rattle.op_laws.proofs.Swaps.{combined-swaps}
use Rattle.ptl_types.specs.Elements.{part}
use Rattle.plan_core.proofs.Flat.{within_flat}
use Rattle.plan_core.proofs.Links.{In-own, own-In}
use Rattle.plan_core.specs.Places.{cell_length, start_in}
use Rattle.plan_core.specs.Plan.{Plan, cell, own}
use Rattle.plan_core.specs.Sound.{AreInputsOf, SoundPlan}
use Rattle.plan_core.specs.Values.{Inputs, initial}
use Rattle.cuts.specs.view.Slots.{Slots}
use Rattle.plan_core.specs.calls.Calls.{cell_start}
use Rattle.cuts.proofs.histories.FromCut.{moves_at, simulation}
use Rattle.cuts.proofs.histories.Shape.{shape}
use Rattle.cuts.specs.histories.Cut.{IsAtRest, IsCut}
use Rattle.cuts.specs.histories.Plans.{IsComplete, system_of}
use Rattle.cuts.specs.histories.System.{Histories, state_at}
use Rattle.cuts.proofs.machine.Rounds.{entries_lead}
use Rattle.cuts.specs.machine.Machine.{all_seen}
use Rattle.cuts.specs.machine.Seen.{content}
use Rattle.cuts.proofs.rest.FromRest.{completes}
use Rattle.cuts.proofs.rest.Laws.{ancestor_reached}
use Rattle.cuts.proofs.done.Counted.{holds_values}
use Rattle.cuts.specs.done.Done.{IsDone}
use Rattle.cuts.specs.cells.Cells.{AreCellsInOrder, AreRoundsKept, AreValues, AreValuesAt}

-- where a rank is complete its cells hold their values
pub complete_values : (p : Plan) (inputs : Inputs) (slots : ℕ → Slots) (w : Histories) (r : ℕ) → IsComplete p inputs slots w r
    → AreValuesAt p inputs r (state_at (system_of p inputs slots) w r).memory
complete_values p inputs slots w r done c hc is =
    ap (λ q. part (start_in p (own p q) c) (cell p c).length (state_at (system_of p inputs slots) w r).memory) is ∙ done.cells c hc is

-- where one disseminates the entries lead to the exits
pub rounds_kept : (p : Plan) (inputs : Inputs) (slots : ℕ → Slots) (w : Histories) → AreCellsInOrder p inputs slots w
    → AreRoundsKept p inputs slots w
rounds_kept p inputs slots w order places rounds round is cells a m ha hm passed =
    order (round 0 a) (round rounds m) (cells 0 a (omega arith) ha) (cells rounds m (omega arith) hm)
    (entries_lead p places rounds round is a m ha hm) passed

module _ (p : Plan) (inputs : Inputs) (sound : SoundPlan p (length inputs)) (fit : AreInputsOf p inputs) (slots : ℕ → Slots)
    (w : Histories) (cut : IsCut (system_of p inputs slots) w) where
  pub complete_at : IsAtRest (system_of p inputs slots) w → (r : ℕ) → r < p.ranks → IsComplete p inputs slots w r
  complete_at rest r h = completes combined-starts p inputs sound fit (combined-swaps op_laws) slots w cut rest r h

  pub rest_values : IsAtRest (system_of p inputs slots) w → AreValues p inputs (λ r. (state_at (system_of p inputs slots) w r).memory)
  rest_values rest r h = complete_values p inputs slots w r (complete_at rest r h)

  pub done_values : (r : ℕ) → r < p.ranks → IsDone p inputs slots w r
      → AreValuesAt p inputs r (state_at (system_of p inputs slots) w r).memory
  done_values r h done c hc is =
      ap (λ q. part (cell_start p c) (cell p c).length (state_at (system_of p inputs slots) w q).memory) (sym is)
      ∙ holds_values combined-starts p inputs sound fit (combined-swaps op_laws) slots w cut r h done c hc is

  pub in_order : AreCellsInOrder p inputs slots w
  in_order b c hb hc path reached = ancestor_reached combined-starts p inputs sound fit slots w cut b c hb hc path reached

  -- a cell lies in its rank's memory
  pub cell_lies : (r c : ℕ) → r < p.ranks → c < length p.cells → (cell p c).rank ≡ r
      → start_in p (own p r) c + (cell p c).length ≤ length (state_at (system_of p inputs slots) w r).memory
  cell_lies r c hr h is =
      let sh = shape combined-starts p inputs sound fit slots w cut r hr in
      let sim = simulation combined-starts p inputs sound fit slots w cut r hr in
      let cells = flat_map (λ d. content p (all_seen p (moves_at p w) r).came d (initial p inputs d)) (own p r) in
      let a = within_flat (cell_length p) (λ d. content p (all_seen p (moves_at p w) r).came d (initial p inputs d)) (own p r)
      (λ d j. sim.sized d (own-In p r d j).0) c (In-own p r c h is) in
      let b = ap length sh.memory ∙ length-append cells sh.annex.tail in
      omega (arith, a, b)
