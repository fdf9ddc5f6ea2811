-- What a fabric stands for, and what it keeps.
use Rattle.std.specs.Prelude.{ℕ, ◌≡◌, ◌<◌, ◌≤◌, List, [], length}
use mathlib.Core.Option.{some}
use lib.ListN.{get_elem?}
use Rattle.pair_wires.specs.Wires.{WireState}
use Rattle.schedule_compiler.specs.Jobs.{JobOf}
use Rattle.turn_table.specs.declared.table.Turn.{Turn}
use Rattle.turn_table.specs.Hands.{IsHandOf, Took}
use Rattle.turn_table.specs.States.{HandState, TableState}
use Rattle.rank_node.specs.Node.{IsNode, NodeState}
use Rattle.worlds.specs.FrameState.{FrameState}
use Rattle.worlds.specs.Frames.{IsFrameOf}
use Rattle.rank_slots.specs.declared.turn_rank.TurnRank.{TurnRank}
use Rattle.rank_slots.specs.Lists.{Each}
use Rattle.rank_slots.specs.Lanes.{AreLanes}
use Rattle.rank_slots.specs.Chronicles.{chronicle}
use Rattle.rank_slots.specs.Names.{IsWired, Plate, plate}
use Rattle.rank_slots.specs.Sound.{IsSound}
use Rattle.rank_threads.specs.Turns.{FoundIdle}
use Rattle.rank_wiring.specs.Opening.{HasWireRoom}
use Rattle.rank_wiring.specs.Wiring.{IsLaid, bounds_of}

-- which job, the table of its ranks, and the wires
pub record FabricState : Type 0 where
  pub job : JobOf
  pub turns : TableState TurnRank
  pub wires : List WireState

-- the name of rank r of a job, whose ends are those of the wires from it and to it
pub record IsNamed (job : JobOf) (wires : List WireState) (r : ℕ) (p : Plate) : Type 0 where
  pub job_is : p.job ≡ job
  pub rank : p.task.rank ≡ r
  pub laid : IsLaid wires r p.outs p.ins

-- a slot for each rank, and a wire for each lane, with its ends in the slots
pub record IsFabric (job : JobOf) (start : List TurnRank) (wires : List WireState) : Type 0 where
  pub sound : IsSound job
  pub count : length start ≡ job.schedule.plan.ranks
  pub lanes : AreLanes job.schedule.plan (bounds_of wires)
  pub named : (r : ℕ) (x : TurnRank) → get_elem? start r ≡ some x → IsNamed job wires r (plate x)

-- beside it: how many ranks there are, a frame for the world that it ends as, and room for its nodes
pub record FabricKeeps (job : JobOf) (start : List TurnRank) (wires : List WireState) (ranks : ℕ) (frame : FrameState)
    (room : List NodeState)
    (capacity : ℕ) : Type 0 where
  pub fabric : IsFabric job start wires
  pub ranks_are : ranks ≡ job.schedule.plan.ranks
  pub rooms : Each HasWireRoom wires
  pub frame_is : IsFrameOf job frame
  pub empty : room ≡ []
  pub roomy : length start ≤ capacity

-- the hand took the turn t of rank r, after some busy tries, and what is in it is that rank's of the fabric
pub record HasTaken (f : FabricState) (old : HandState TurnRank) (r : ℕ) (t : Turn TurnRank) (new : HandState TurnRank) : Type 0 where
  pub slot : t.slot ≡ r
  pub sound : IsSound f.job
  pub lanes : AreLanes f.job.schedule.plan (bounds_of f.wires)
  pub named : IsNamed f.job f.wires r (plate t.value)
  pub wired : IsWired f.wires (plate t.value)
  pub kept : IsNode t.value.node.value
  pub hand : IsHandOf f.turns new
  pub took : Took chronicle plate old.knows r t.value new.knows

-- the hand had turns at all ranks, and its last one at each found that rank idle
unfoldable pub HasSwept : FabricState → HandState TurnRank → Type 0
HasSwept f h = (r : ℕ) → r < f.job.schedule.plan.ranks → FoundIdle f.job h.knows r
