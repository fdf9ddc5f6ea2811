use Rattle.std.proofs.Common.{ℕ, [], ◌*◌, ◌<◌, ◌≡◌, length}
use Rattle.pair_wires.specs.Lanes.{plain}
use Rattle.worlds.proofs.Opened.{IsLaid}
use Rattle.plan_choice.specs.Laying.{laid_lane}
use Rattle.plan_choice.proofs.laying.lay_all.Given as goal

abbrev pub invariant-loop-pair : goal.invariant-loop-pair
invariant-loop-pair l = record {
  size : length l.lanes.items ≡ 2 * l.pair;
  laid : (k : ℕ) → k < l.pair → IsLaid (laid_lane l.steps) l.ranks l.lanes.items (plain [] 0) k;
}
