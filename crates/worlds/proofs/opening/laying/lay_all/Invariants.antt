use Rattle.std.proofs.Common.{ℕ, [], ◌*◌, ◌<◌, ◌≡◌, length}
use Rattle.pair_wires.specs.Lanes.{plain}
use Rattle.worlds.specs.opening.Laying.{laid_lane}
use Rattle.worlds.proofs.opening.Laid.{IsLaid}
use Rattle.worlds.proofs.opening.laying.lay_all.Given as goal

abbrev pub invariant-loop-pair : goal.invariant-loop-pair
invariant-loop-pair l = record {
  size : length l.lanes.items ≡ 2 * l.pair;
  laid : (k : ℕ) → k < l.pair → IsLaid (laid_lane l.schedule.plan l.room) l.schedule.plan.ranks l.lanes.items (plain [] 0) k;
}
