-- What is left of a fabric: on each lane what was sent is what was received, and then what its wire held.
use Rattle.std.specs.Prelude.{ℕ, ◌≡◌, ◌<◌, ◌≤◌, ◌^◌, ◌++◌, All, List, length, min}
use mathlib.Core.Option.{some}
use lib.ListN.{get_elem?}
use Rattle.pair_wires.specs.declared.bounds.Bounds.{Bounds}
use Rattle.pair_wires.specs.Lanes.{Plain}
use Rattle.cuts.specs.histories.History.{got}
use Rattle.cuts.specs.view.Slots.{Slots}
use Rattle.rank_node.specs.Handles.{Agrees}
use Rattle.turn_table.specs.Hands.{Left, parts_of}
use Rattle.turn_table.specs.Rules.{Follows}
use Rattle.turn_table.specs.States.{HandState}
use Rattle.worlds.specs.World.{AreSlots, WorldState, histories_in}
use Rattle.rank_slots.specs.declared.turn_rank.TurnRank.{TurnRank}
use Rattle.rank_threads.specs.Fabrics.{FabricState, HasSwept}
use Rattle.rank_slots.specs.Chronicles.{chronicle}
use Rattle.rank_slots.specs.Names.{history, plate}
use Rattle.rank_slots.specs.Slots.{HasSent}

-- ---- the lanes
-- the lane holds what was sent on it and not received, in the slots of its ranks
abbrev pub IsHeldOn : Bounds → List TurnRank → Plain → Type 0
IsHeldOn b slots l = (x y : TurnRank) → get_elem? slots b.source ≡ some x → get_elem? slots b.target ≡ some y →
    HasSent x.job.schedule.plan x.job.inputs x.node.value b.target b.lane (got (history y) b.source b.lane ++ l.messages)

-- and no more than four messages; it has room for four, or for all that may ever be sent on it where these are fewer
pub record IsLifted (b : Bounds) (slots : List TurnRank) (l : Plain) : Type 0 where
  pub held : IsHeldOn b slots l
  pub at_most : length l.messages ≤ 4
  pub room : l.capacity ≡ min 4 b.messages

-- ---- the ranks
-- what is left of rank r: a history that begins with what each hand saw there, and whose places are those of the hands, each once
pub record IsLeft (start : List TurnRank) (hands : List (HandState TurnRank)) (r : ℕ) (w : WorldState) : Type 0 where
  pub slot : TurnRank
  pub history_is : histories_in w r ≡ history slot
  pub left : Left history plate start hands r slot
  -- no handle was given after a start that a hand saw, and the world has those that were given
  pub dated : All (λ (h : HandState TurnRank). Follows chronicle plate h.knows.slots r slot) hands
  pub slots : (k : ℕ → Slots) → AreSlots w k → Agrees (k r) slot.node.value.kept

-- a world of the fabric's job, under a window of four messages on a lane and without strays, with what is left of each rank
pub record IsWorldOf (f : FabricState) (hands : List (HandState TurnRank)) (w : WorldState) : Type 0 where
  pub schedule : w.schedule ≡ f.job.schedule
  pub inputs : w.inputs ≡ f.job.inputs
  pub window : w.window ≡ 4
  pub strays : w.strays ≡ 0
  pub spare : w.spare ≡ 0
  pub ranks : (r : ℕ) → r < f.job.schedule.plan.ranks → IsLeft f.turns.start hands r w

-- such a world, where so many hands, that are together all of the fabric's, swept all ranks
pub record IsWorked (f : FabricState) (workers : ℕ) (w : WorldState) : Type 0 where
  pub hands : List (HandState TurnRank)
  pub count : length hands ≡ workers
  pub swept : All (λ h. HasSwept f h) hands
  pub all : parts_of hands ≡ 2 ^ 32
  pub world : IsWorldOf f hands w
