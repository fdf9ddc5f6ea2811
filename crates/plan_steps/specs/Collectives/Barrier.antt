-- Barrier (MPI barrier), by dissemination: in each round a place tells the place 2 ^ k after it.
--
-- | Cells after the entries, in order | Incoming links of each |
-- | T(k, r), k from 1 to K, in each k r rising; length 0; T(0, r) is E(r)
-- |   T(k + 1, r): Bump from T(k, r); Put of 0 bytes from T(k, r - 2 ^ k mod M) |
--
-- No entry has data. No cell holds a buffer. The exit is T(K, r). K is the number of rounds; with one member it is 0.
use Rattle.std.specs.Prelude.{ℕ, ◌+◌, ◌-◌, ◌%◌, ◌^◌, List, [], ◌∷◌, ◌++◌}
use Rattle.plan_core.specs.declared.Incoming.{Incoming}
use Rattle.plan_core.specs.Draw.{NewCell}
use Rattle.plan_steps.specs.declared.ends.StepExit.{StepExit}
use Rattle.plan_steps.specs.Steps.{passing}
use Rattle.plan_steps.specs.StepContext.{StepContext, count, rank_at, bump, put, silent, bare_entries, in_row, rows}
use Rattle.plan_steps.specs.Rounds.{rounds}

-- to T(k + 1, r)
abbrev pub round_links : StepContext → ℕ → ℕ → List Incoming
round_links s k r = bump (in_row s k r) ∷ put 0 (in_row s k ((r + (count s - 2 ^ k)) % count s)) 0 0 ∷ []

abbrev pub round_cell : StepContext → ℕ → ℕ → NewCell
round_cell s k r = silent (rank_at s r) (round_links s k r)

abbrev pub round_rows : StepContext → List NewCell
round_rows s = rows s (round_cell s) 0 (rounds (count s))

abbrev pub barrier_cells : StepContext → List NewCell
barrier_cells s = bare_entries s ++ round_rows s

abbrev pub barrier_end : StepContext → ℕ → StepExit
barrier_end s i = passing (in_row s (rounds (count s)) i)
