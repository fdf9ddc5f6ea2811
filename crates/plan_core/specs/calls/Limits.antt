-- The limits that the interface of a rank is opened with (Portals 4.3, network interface limits).
use Rattle.std.specs.Prelude.{ℕ, ◌+◌, length}
use Rattle.ptl_types.specs.declared.calls.Limits.{Limits}
use Rattle.plan_core.specs.Plan.{Plan, own, out_links}
use Rattle.plan_core.specs.calls.Areas.{classes, links_to, longest}

-- an entry for each area and each own cell, a header for each message that comes to the rank, a counting event for each own cell and
-- one more, an operation for each link that leaves the rank and each own cell; messages are as long as the longest of those links
abbrev pub limits_for : Plan → ℕ → Limits
limits_for p r = record {
  entries = length (classes p r) + length (own p r);
  unexpected = length (links_to p r);
  mds = 1;
  cts = length (own p r) + 1;
  eqs = 0;
  pts = 1;
  triggered = length (out_links p r) + length (own p r);
  msg = longest p (out_links p r);
  atomic = longest p (out_links p r);
  fetch_atomic = 0;
}
