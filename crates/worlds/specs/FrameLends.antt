-- What a frame ends as, where a `&mut` to one of its lanes is returned.
use Rattle.std.specs.Prelude.{ℕ, slice_set}
use Rattle.std.specs.Borrow.{Fml, Lends, MutBor}
use Rattle.ptl_types.specs.declared.headers.Lane.{Lane}
use Rattle.pair_wires.specs.Lanes.{Plain}
use Rattle.pair_wires.specs.contracts.lane.PlainLane.{the_row as lane_row}
use Rattle.cuts.specs.windows.Places.{lane_place}
use Rattle.worlds.specs.FrameState.{FrameState}
use Rattle.worlds.specs.contracts.frame.Frame.{the_row}

-- a frame with another lane at a place
abbrev pub with_lane : FrameState → ℕ → Plain → FrameState
with_lane f at lane = record f { lanes = slice_set f.lanes at lane }

-- once the borrow ends, the lane is what was last left there
abbrev pub LendsLane : MutBor FrameState → ℕ → ℕ → Lane → MutBor Plain → Fml
LendsLane f s d lane r = Lends the_row lane_row f r (with_lane f.now (lane_place f.now.schedule.plan.ranks s d lane))
