-- What holds of every world, and where no step is possible.
use Rattle.std.proofs.Common.{ℕ, ◌+◌, ◌<◌, ◌≤◌, ◌≡◌, List, [], ◌∷◌, refl, ap, subst, sym, arith, length}
use Rattle.plan_core.specs.Places.{start_in}
use Rattle.plan_core.specs.Plan.{cell, own}
use Rattle.cuts.specs.view.Slots.{Slots}
use Rattle.cuts.specs.histories.Cut.{IsAtRest, IsCut}
use Rattle.cuts.specs.histories.Plans.{IsComplete}
use Rattle.ni_model.specs.State.{State}
use Rattle.cuts.proofs.rest.Moments.{still_rest, stuck_still}
use Rattle.cuts.proofs.windows.Stuck.{none_stuck}
use Rattle.rank_node.proofs.Nodes.{agrees}
use Rattle.rank_node.specs.Handles.{slots_of}
use Rattle.schedule_compiler.specs.Answers.{place_of}
use Rattle.cuts.specs.cells.Cells.{AreCellsInOrder, AreRoundsKept, AreValues, AreValuesAt}
use Rattle.cuts.proofs.cells.Cells.{cell_lies, complete_at, complete_values, in_order, rounds_kept}
use Rattle.worlds.specs.parts.Layout.{node_at}
use Rattle.worlds.specs.Standing.{IsStanding}
use Rattle.worlds.specs.World.{AreSlots, WorldState, histories_in, memory_in, ranks_in, scene_in, steps_in}

-- the slots that were given
pub given_slots : WorldState → ℕ → Slots
given_slots w r = slots_of (node_at w.nodes r).kept

pub slots_given : (w : WorldState) → IsStanding w → AreSlots w (given_slots w)
unfolding given_slots
slots_given w is r h = agrees (node_at w.nodes r).kept (is.node r h).descriptors

pub cut_in : (w : WorldState) (slots : ℕ → Slots) → IsStanding w → AreSlots w slots → IsCut (ranks_in w slots) (histories_in w)
cut_in w slots is agree = (is.moment slots agree).cut

pub order_in : (w : WorldState) (slots : ℕ → Slots) → IsStanding w → AreSlots w slots
    → AreCellsInOrder w.schedule.plan w.inputs slots (histories_in w)
order_in w slots is agree = in_order w.schedule.plan w.inputs is.sound is.fit slots (histories_in w) (cut_in w slots is agree)

pub barriers_in : (w : WorldState) (slots : ℕ → Slots) → IsStanding w → AreSlots w slots
    → AreRoundsKept w.schedule.plan w.inputs slots (histories_in w)
barriers_in w slots is agree = rounds_kept w.schedule.plan w.inputs slots (histories_in w) (order_in w slots is agree)

-- a list of no length
pub none_in : {X : Type 0} (xs : List X) → length xs ≤ 0 → xs ≡ []
none_in [] h = refl
none_in (x ∷ xs) h = absurd (omega arith)

-- ---- where no step is possible
module _ (w : WorldState) (slots : ℕ → Slots) (is : IsStanding w) (agree : AreSlots w slots) (none : steps_in w slots ≡ []) where
  pub rests : IsAtRest (ranks_in w slots) (histories_in w)
  rests =
      still_rest w.schedule.plan w.inputs slots (scene_in w).world (scene_in w).held (is.moment slots agree)
      (stuck_still w.schedule.plan w.inputs is.sound slots (scene_in w).world
      (scene_in w).held w.window is.some
      (none_stuck (ranks_in w slots) w.window (scene_in w) none))

  pub complete : (r : ℕ) → r < w.schedule.plan.ranks → IsComplete w.schedule.plan w.inputs slots (histories_in w) r
  complete r h = complete_at w.schedule.plan w.inputs is.sound is.fit slots (histories_in w) (cut_in w slots is agree) rests r h

  values_by : AreValues w.schedule.plan w.inputs (memory_in w)
  values_by r hr =
      subst (λ (s : State). AreValuesAt w.schedule.plan w.inputs r s.memory) (sym (is.nic slots agree r hr))
      (complete_values w.schedule.plan w.inputs slots (histories_in w) r (complete r hr))

pub all_values : (w : WorldState) → IsStanding w → steps_in w (given_slots w) ≡ [] → AreValues w.schedule.plan w.inputs (memory_in w)
all_values w is none = values_by w (given_slots w) is (slots_given w is) none

-- the cell that holds a buffer lies in its rank's memory
pub result_lies : (w : WorldState) → IsStanding w → (r c : ℕ) → r < w.schedule.plan.ranks → c < length w.schedule.plan.cells
    → (cell w.schedule.plan c).rank ≡ r
    → (place_of w.schedule.plan c).start + (place_of w.schedule.plan c).length ≤ length (memory_in w r)
result_lies w is r c hr hc on =
    let slots = given_slots w in
    let agree = slots_given w is in
    let lies = cell_lies w.schedule.plan w.inputs is.sound is.fit slots (histories_in w) (cut_in w slots is agree) r c hr hc on in
    let memory = ap (λ (s : State). length s.memory) (is.nic slots agree r hr) in
    let starts_at = ap (λ q. start_in w.schedule.plan (own w.schedule.plan q) c) on in
    omega (arith, lies, memory, starts_at)
