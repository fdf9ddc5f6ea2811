-- Exclusive scan (MPI exscan): the rounds of a scan, and each member gets what the place before it has.
--
-- | Cells after the entries, in order | Incoming links of each |
-- | P(k, r), as in scan | as there |
-- | O(r), r rising from 1 on; A's length, no operation | Bump from P(K, r), Put whole from P(K, r - 1) |
--
-- Every entry has data. O(r) holds B at places from 1 on. The exit is O(r), at place 0 P(K, 0).
use Rattle.std.specs.Prelude.{ℕ, zero, suc, ◌+◌, ◌-◌, ◌*◌, List, [], ◌∷◌, ◌++◌, map}
use Rattle.ptl_types.specs.declared.elements.AtomicOp.{AtomicOp}
use Rattle.plan_core.specs.Plan.{from_to}
use Rattle.plan_core.specs.Draw.{NewCell}
use Rattle.plan_steps.specs.declared.ends.StepExit.{StepExit}
use Rattle.plan_steps.specs.Steps.{giving, passing}
use Rattle.plan_steps.specs.StepContext.{StepContext, count, rank_at, bump, put_whole, holding, entries, further}
use Rattle.plan_steps.specs.Rounds.{rounds}
use Rattle.plan_steps.specs.Collectives.Scan.{scan_rows, scan_number}

-- O(j + 1)
abbrev pub shifted : StepContext → ℕ → NewCell
shifted s j =
    holding s s.length (rank_at s (suc j))
    (bump (scan_number s (rounds (count s)) (suc j)) ∷ put_whole s.length (scan_number s (rounds (count s)) j) ∷ [])

abbrev pub exscan_cells : StepContext → AtomicOp → List NewCell
exscan_cells s o = entries s ++ (scan_rows s o ++ map (shifted s) (from_to 0 (count s - 1)))

abbrev pub exscan_end : StepContext → ℕ → StepExit
exscan_end s zero = passing (scan_number s (rounds (count s)) 0)
exscan_end s (suc j) = giving (further s (suc (rounds (count s)) * count s + j))
