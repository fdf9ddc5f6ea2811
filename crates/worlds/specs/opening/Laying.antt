-- The lanes of a world before its first step.
use Rattle.std.specs.Prelude.{ℕ, ◌+◌, ◌^◌, ◌<◌, [], length, min}
use Rattle.ptl_types.specs.declared.headers.Lane.{Lane}
use Rattle.pair_wires.specs.Lanes.{Plain, plain}
use Rattle.plan_core.specs.calls.Lanes.{lane_messages}
use Rattle.plan_core.specs.Plan.{Plan}
use Rattle.worlds.specs.parts.Keeps.{spare_on}
use Rattle.worlds.specs.declared.opening.laying.Room.{Room}
use Rattle.worlds.specs.declared.opening.laying.Room.TheVariants.{Whole, Window}

-- for how many messages there is room on a lane of this kind on which the plan sends so many
abbrev pub room_of : Room → ℕ → Lane → ℕ
room_of (Whole strays) messages lane = messages + spare_on lane strays
room_of (Window at_most) messages lane = min at_most messages

-- the plan's messages and the strays on any lane are fewer than 2^32, as there are no more messages than links
abbrev pub FitLanes : Plan → ℕ → Type 0
FitLanes p strays = length p.links + strays < 2 ^ 32

-- how many strays lanes have room for
abbrev pub strays_of : Room → ℕ
strays_of (Whole strays) = strays
strays_of (Window at_most) = 0

-- a lane on which nothing was sent
abbrev pub laid_lane : Plan → Room → ℕ → ℕ → Lane → Plain
laid_lane p room s d lane = plain [] (room_of room (lane_messages p s d lane) lane)
