-- Scan (MPI scan): in each round a place combines what it has with what the place 2 ^ k before it has.
--
-- | Cells after the entries, in order | Incoming links of each |
-- | P(k, r), k from 0 to K, in each k r rising; the operation, A's length
-- |   P(0, r): Atomic whole from E(r). P(k + 1, r): Atomic whole from P(k, r); then, where r ≥ 2 ^ k, Atomic whole from P(k, r - 2 ^ k) |
--
-- Every entry has data. P(K, r) holds B, and is the exit. K is the number of rounds.
use Rattle.std.specs.Prelude.{ℕ, zero, suc, ◌+◌, ◌-◌, ◌*◌, ◌^◌, nat_le, List, [], ◌∷◌, ◌++◌, map, if◌then◌else◌}
use Rattle.ptl_types.specs.declared.elements.AtomicOp.{AtomicOp}
use Rattle.plan_core.specs.Draw.{NewCell}
use Rattle.plan_steps.specs.declared.ends.StepExit.{StepExit}
use Rattle.plan_steps.specs.Steps.{giving}
use Rattle.plan_steps.specs.StepContext.{StepContext, count, rank_at, atomic, summing, entry, entries, further, rows}
use Rattle.plan_steps.specs.Rounds.{rounds}

-- P(k, r): the fold of the 2 ^ k places up to r
abbrev pub scan_number : StepContext → ℕ → ℕ → ℕ
scan_number s k r = further s (k * count s + r)

abbrev pub scan_sources : StepContext → ℕ → ℕ → List ℕ
scan_sources s zero r = entry s r ∷ []
scan_sources s (suc k) r = scan_number s k r ∷ (if nat_le (2 ^ k) r then scan_number s k (r - 2 ^ k) ∷ [] else [])

abbrev pub scan_cell : StepContext → AtomicOp → ℕ → ℕ → NewCell
scan_cell s o k r = summing s o (rank_at s r) (map (atomic s.length) (scan_sources s k r))

abbrev pub scan_rows : StepContext → AtomicOp → List NewCell
scan_rows s o = rows s (scan_cell s o) 0 (suc (rounds (count s)))

abbrev pub scan_cells : StepContext → AtomicOp → List NewCell
scan_cells s o = entries s ++ scan_rows s o

abbrev pub scan_end : StepContext → ℕ → StepExit
scan_end s i = giving (scan_number s (rounds (count s)) i)
