-- What one rank of a plan installs.
use Rattle.std.specs.Prelude.{ℕ, ◌+◌, List}
use Rattle.ptl_types.specs.declared.calls.Limits.{Limits}
use Rattle.ptl_types.specs.declared.steps.Call.{Call}
use Rattle.plan_core.specs.Plan.{Plan, own}
use Rattle.plan_core.specs.calls.RankOps.{done_threshold}
use Rattle.plan_core.specs.calls.Areas.{areas_length, longest_to, region_length}
use Rattle.plan_core.specs.calls.Calls.{late_calls, prepare_calls}
use Rattle.plan_core.specs.calls.Limits.{limits_for}

-- a rank's own cells, the calls that prepare and start it, the limits of its interface, its done threshold, the bytes of its region,
-- and the longest message that comes to it
pub record Installed : Type 0 where
  pub cells : List ℕ
  pub calls : List Call
  pub late : List Call
  pub limits : Limits
  pub done : ℕ
  pub region : ℕ
  pub longest : ℕ

abbrev pub installed : Plan → ℕ → Installed
installed p r = record {
  cells = own p r;
  calls = prepare_calls p r;
  late = late_calls p r;
  limits = limits_for p r;
  done = done_threshold p r;
  region = region_length p r + areas_length p r;
  longest = longest_to p r;
}
