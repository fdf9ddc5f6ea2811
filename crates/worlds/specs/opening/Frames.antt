-- The parts of a world whose nodes come from elsewhere: for these all room is taken before the nodes are there.
use Rattle.std.specs.Prelude.{ℕ, ◌*◌, ◌<◌, ◌≤◌, ◌≡◌, length}
use Rattle.ptl_types.specs.declared.headers.Lane.{Lane}
use Rattle.pair_wires.specs.Lanes.{Plain}
use Rattle.plan_core.specs.Plan.{Plan}
use Rattle.plan_core.specs.Sound.{SoundPlan, AreInputsOf}
use Rattle.plan_core.specs.Values.{Inputs}
use Rattle.rank_node.specs.Node.{NodeState}
use Rattle.worlds.specs.declared.opening.laying.Room.TheVariants.{Window}
use Rattle.worlds.specs.declared.parts.lanes.Setting.{Setting}
use Rattle.worlds.specs.declared.parts.traffic.Traffic.{Traffic}
use Rattle.worlds.specs.opening.Laying.{laid_lane}

-- how many messages a lane may hold
abbrev pub frame_window : ℕ
frame_window = 4

-- an empty lane, with room for so many messages, or for the plan's where these are fewer
abbrev pub frame_lane : Plan → ℕ → ℕ → Lane → Plain
frame_lane p s d lane = laid_lane p (Window frame_window) s d lane

-- n ranks under that window, without strays
abbrev pub frame_setting : ℕ → Setting
frame_setting n = record { ranks = n; window = frame_window; strays = 0; spare = 0 }

-- lanes and counts for its ranks
pub record AreSized (t : Traffic) : Type 0 where
  pub some : 0 < t.setting.ranks
  pub at_most : t.setting.ranks ≤ 256
  pub wide_lanes : length t.lanes ≡ 2 * (t.setting.ranks * t.setting.ranks)
  pub wide_starts : length t.starts ≡ t.setting.ranks
  pub wide_deliveries : length t.deliveries ≡ 2 * (t.setting.ranks * t.setting.ranks)
  pub wide_firings : length t.firings ≡ t.setting.ranks

-- of a plan and its inputs
pub record IsBare (p : Plan) (inputs : Inputs) (t : Traffic) : Type 0 where
  pub count : p.ranks ≡ t.setting.ranks
  pub sound : SoundPlan p (length inputs)
  pub fit : AreInputsOf p inputs
  pub sized : AreSized t

-- a node that was told which of its lanes have room: else it is as it was
pub record IsSameButGates (old new : NodeState) : Type 0 where
  pub same : new ≡ record old { closed = new.closed }
  pub wide : length new.closed ≡ length old.closed
