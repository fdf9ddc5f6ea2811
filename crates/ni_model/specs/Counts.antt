-- Counting events: success and failure, together at most 2^64 - 1. Portals 4.3 has the two numbers (lightweight counting events); how
-- they are counted, and their end, is this profile's own.
use Rattle.std.specs.Prelude.{ℕ, Bool, nat_lt, ◌+◌, ◌-◌, min, Option, Some, None}
use Rattle.ptl_types.specs.declared.handles.Handle.{Handle}
use Rattle.ptl_types.specs.declared.handles.Count.{Count}
use Rattle.ptl_types.specs.Handles.{top}
use Rattle.ni_model.specs.Tables.{Table, changed}

-- n successes
abbrev pub successes : ℕ → Count
successes n = record { success = n; failure = 0 }

-- n failures
abbrev pub failures : ℕ → Count
failures n = record { success = 0; failure = n }

-- what a threshold is compared with
abbrev pub total : Count → ℕ
total c = c.success + c.failure

-- a count that the network or a firing makes: success first, then failure, each as far as the sum allows
abbrev pub bump : Count → Count → Count
bump by c =
    let s = min by.success (top - (c.success + c.failure)) in
    record { success = c.success + s; failure = c.failure + min by.failure (top - (c.success + s + c.failure)) }

-- a count of the host's passes the end of a count
abbrev pub passes_end : Count → Bool
passes_end c = nat_lt top (total c)

-- both numbers added
abbrev pub plus : Count → Count → Count
plus by c = record { success = c.success + by.success; failure = c.failure + by.failure }

-- the counting event that is named, if any, counts on
abbrev pub counted : Option Handle → Count → Table Count → Table Count
counted None by t = t
counted (Some h) by t = changed h (bump by) t
