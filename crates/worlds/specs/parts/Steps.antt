-- What a step makes of the parts of a world.
use Rattle.std.specs.Prelude.{ℕ, ◌-◌, ◌≡◌, List, [], ◌∷◌, ◌++◌, if◌then◌else◌}
use Rattle.ptl_types.specs.Messages.{Sent}
use Rattle.plan_core.specs.Plan.{Plan}
use Rattle.plan_core.specs.Values.{Inputs}
use Rattle.cuts.specs.view.Slots.{Slots}
use Rattle.cuts.specs.histories.Moment.{is_request_lane}
use Rattle.cuts.specs.histories.Plans.{system_of}
use Rattle.cuts.specs.orders.Chosen.{Scene, step_made}
use Rattle.cuts.specs.declared.orders.Step.{Step}
use Rattle.rank_node.specs.Node.{NodeState}
use Rattle.worlds.specs.declared.parts.traffic.Traffic.{Traffic}
use Rattle.worlds.specs.parts.Keeps.{AgreeAll}
use Rattle.worlds.specs.parts.Layout.{scene_of}

-- after a step of the plan's ranks: for all slots that agree with the handles that there are then
pub record IsStepped (p : Plan) (inputs : Inputs) (step : Step) (nodes : List NodeState) (t : Traffic)
    (nexts : List NodeState) (u : Traffic) : Type 0 where
  pub setting : u.setting ≡ t.setting
  pub scene : (k : ℕ → Slots) → AgreeAll t.setting.ranks k nexts →
      scene_of t.setting.ranks nexts u.lanes ≡ step_made (system_of p inputs k) step (scene_of t.setting.ranks nodes t.lanes)
  -- what was given stays so
  pub slots : (k : ℕ → Slots) → AgreeAll t.setting.ranks k nexts → AgreeAll t.setting.ranks k nodes

-- a message at the end of the request lane from s to d
abbrev pub injected : ℕ → ℕ → Sent → Scene → Scene
injected s d m z = record z { held = λ q u lane. z.held q u lane ++ (if is_request_lane s d q u lane then m ∷ [] else []) }

-- after the injection of a stray: one fewer may still be injected
pub record IsInjected (s d : ℕ) (m : Sent) (nodes : List NodeState) (t : Traffic) (nexts : List NodeState) (u : Traffic)
    : Type 0 where
  pub setting : u.setting ≡ record t.setting { strays = t.setting.strays - 1 }
  pub scene : scene_of t.setting.ranks nexts u.lanes ≡ injected s d m (scene_of t.setting.ranks nodes t.lanes)
  pub slots : (k : ℕ → Slots) → AgreeAll t.setting.ranks k nexts → AgreeAll t.setting.ranks k nodes
