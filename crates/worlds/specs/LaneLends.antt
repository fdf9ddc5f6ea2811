-- What a table of lanes ends as, where a `&mut` to one of its lanes is returned.
use Rattle.std.specs.Prelude.{ℕ, List, slice_set}
use Rattle.std.specs.Borrow.{Fml, Lends, MutBor}
use Rattle.pair_wires.specs.Lanes.{Plain}
use Rattle.pair_wires.specs.contracts.lane.PlainLane.{the_row as lane_row}
use Rattle.worlds.specs.contracts.parts.lanes.LaneTable.{the_row}

-- once the borrow ends, the lane is what was last left there
abbrev pub LendsLaneAt : MutBor (List Plain) → ℕ → MutBor Plain → Fml
LendsLaneAt t index r = Lends the_row lane_row t r (slice_set t.now index)
