-- What holds of a world whatever was done with it.
use Rattle.std.specs.Prelude.{ℕ, ◌+◌, ◌^◌, ◌<◌, ◌≤◌, ◌≡◌, List, length}
use Rattle.cuts.specs.view.Slots.{Slots}
use Rattle.cuts.specs.histories.Moment.{IsMoment}
use Rattle.cuts.specs.histories.System.{state_at}
use Rattle.plan_core.specs.Sound.{AreInputsOf, SoundPlan}
use Rattle.schedule_compiler.specs.Jobs.{JobOf}
use Rattle.rank_node.specs.Node.{IsNode, NodeState}
use Rattle.worlds.specs.declared.parts.traffic.Traffic.{Traffic}
use Rattle.worlds.specs.parts.Keeps.{IsWorld, strays_for}
use Rattle.worlds.specs.parts.Layout.{node_at}
use Rattle.worlds.specs.World.{AreSlots, WorldState, histories_in, nic_in, ranks_in, scene_in}

-- the plan is sound for the inputs, and they fit; there is a node for each rank, whose interface is that of the end of its history; the
-- histories are a cut, and on each lane what was sent is what was received, followed by what is held; and no more strays came, lie in
-- lanes and are left than may be injected in all
pub record IsStanding (w : WorldState) : Type 0 where
  pub sound : SoundPlan w.schedule.plan (length w.inputs)
  pub fit : AreInputsOf w.schedule.plan w.inputs
  pub some : 0 < w.window
  pub size : length w.nodes ≡ w.schedule.plan.ranks
  pub node : (r : ℕ) → r < w.schedule.plan.ranks → IsNode (node_at w.nodes r)
  pub nic : (slots : ℕ → Slots) → AreSlots w slots → (r : ℕ) → r < w.schedule.plan.ranks →
      nic_in w r ≡ state_at (ranks_in w slots) (histories_in w) r
  pub moment : (slots : ℕ → Slots) → AreSlots w slots → IsMoment (ranks_in w slots) (scene_in w).world (scene_in w).held
  pub at_most : (r : ℕ) → r < w.schedule.plan.ranks → strays_for w.schedule.plan.ranks w.nodes w.lanes r + w.strays ≤ w.spare
  pub spare : w.spare < 2 ^ 32

-- what the fields of a world keep
pub record AreFields (job : JobOf) (nodes : List NodeState) (t : Traffic) : Type 0 where
  pub ranks : t.setting.ranks ≡ job.schedule.plan.ranks
  pub spare : t.setting.spare < 2 ^ 32
  pub world : IsWorld job.schedule.plan job.inputs nodes t
