-- When a rank of a plan has ended, by what it sees of itself.
use Rattle.std.specs.Prelude.{ℕ, false, ◌<◌, ◌≡◌, length, count_by}
use Rattle.ptl_types.specs.declared.headers.Lane.{Lane}
use Rattle.ni_model.specs.Ready.{is_ready}
use Rattle.plan_core.specs.Plan.{Plan}
use Rattle.plan_core.specs.Values.{Inputs}
use Rattle.plan_core.specs.calls.Lanes.{lane_messages}
use Rattle.cuts.specs.view.Slots.{Slots}
use Rattle.cuts.specs.histories.Cut.{got_by}
use Rattle.cuts.specs.histories.History.{is_start}
use Rattle.cuts.specs.histories.Plans.{system_of}
use Rattle.cuts.specs.histories.System.{Histories, state_at}

-- rank r has started, none of its operations is ready, and all that the lanes to it carry in a whole run has come
pub record HasEnded (p : Plan) (inputs : Inputs) (slots : ℕ → Slots) (w : Histories) (r : ℕ) : Type 0 where
  pub started : 0 < count_by is_start (w r)
  pub idle : (t : ℕ) → is_ready (state_at (system_of p inputs slots) w r) t ≡ false
  pub all : (s : ℕ) (lane : Lane) → s < p.ranks → length (got_by w r s lane) ≡ lane_messages p s r lane
