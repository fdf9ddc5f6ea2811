-- Which limits an interface can be opened with (Portals 4.3, network interface limits).
use Rattle.std.specs.Prelude.{◌+◌, ◌^◌, ◌<◌, ◌≤◌}
use Rattle.ptl_types.specs.declared.calls.Limits.{Limits}

-- each place of its tables has a number of 32 bits: there is a record for each match entry and for each header, and of the operations
-- that wait there are a quarter more places than the limit, and two lists for each counting event
abbrev pub FitLimits : Limits → Type 0
FitLimits l = (l.entries + l.unexpected < 2 ^ 32) × (l.triggered ≤ 2 ^ 27) × (l.cts ≤ 2 ^ 27)
