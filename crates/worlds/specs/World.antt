-- What is seen of a world: the job, the node of each rank, and the lanes between them. The slots that the nodes' tables gave out are in
-- their handles; what will be given isn't known, so what is said of a world is said under all slots that agree with the handles.
use Rattle.std.specs.Prelude.{ℕ, List}
use Rattle.ni_model.specs.State.{State}
use Rattle.pair_wires.specs.Lanes.{Plain}
use Rattle.plan_core.specs.Values.{Inputs}
use Rattle.cuts.specs.view.Slots.{Slots}
use Rattle.cuts.specs.histories.Plans.{system_of}
use Rattle.cuts.specs.histories.System.{Histories, System}
use Rattle.cuts.specs.orders.Chosen.{Scene}
use Rattle.cuts.specs.declared.orders.Step.{Step}
use Rattle.cuts.specs.windows.Possible.{possible_steps}
use Rattle.rank_node.specs.Node.{NodeState}
use Rattle.schedule_compiler.specs.Jobs.{JobOf}
use Rattle.schedule_compiler.specs.Schedules.{ScheduleOf}
use Rattle.worlds.specs.declared.parts.traffic.Traffic.{Traffic}
use Rattle.worlds.specs.parts.Keeps.{AgreeAll}
use Rattle.worlds.specs.parts.Layout.{node_at, scene_of}

-- the schedule and its inputs; a node for each rank; the lanes by source, target, request before answer; how many messages a lane may
-- hold before a step that would put one there has to wait; how many strays may still be injected, and how many in all
pub record WorldState : Type 0 where
  pub schedule : ScheduleOf
  pub inputs : Inputs
  pub nodes : List NodeState
  pub lanes : List Plain
  pub window : ℕ
  pub strays : ℕ
  pub spare : ℕ

-- the world of a job with such parts
abbrev pub state_of : JobOf → List NodeState → Traffic → WorldState
state_of job nodes t = record {
  schedule = job.schedule;
  inputs = job.inputs;
  nodes = nodes;
  lanes = t.lanes;
  window = t.setting.window;
  strays = t.setting.strays;
  spare = t.setting.spare;
}

-- slots that agree with the handles that were given so far
abbrev pub AreSlots : WorldState → (ℕ → Slots) → Type 0
AreSlots w slots = AgreeAll w.schedule.plan.ranks slots w.nodes

-- the ranks of the plan, under such slots
abbrev pub ranks_in : WorldState → (ℕ → Slots) → System
ranks_in w slots = system_of w.schedule.plan w.inputs slots

-- the histories, and what is on its way
abbrev pub scene_in : WorldState → Scene
scene_in w = scene_of w.schedule.plan.ranks w.nodes w.lanes

-- the history of each rank
abbrev pub histories_in : WorldState → Histories
histories_in w = (scene_in w).world

-- the steps that are possible, in order: starts by rank; deliveries by source, target, request before answer; firings by rank, then
-- number
abbrev pub steps_in : WorldState → (ℕ → Slots) → List Step
steps_in w slots = possible_steps (ranks_in w slots) w.window (scene_in w)

-- the interface of a rank, and its memory
abbrev pub nic_in : WorldState → ℕ → State
nic_in w r = (node_at w.nodes r).nic

abbrev pub memory_in : WorldState → ℕ → List ℕ
memory_in w r = (nic_in w r).memory
