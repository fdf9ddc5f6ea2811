-- Gather of what is held (MPI gatherv): the root's last cell gets the lists of the members that hold one.
--
-- | Cells after the entries, in order | Incoming links of each |
-- | O at ROOT, length n times the holders | Bump from E(ROOT), then Put whole from E(q) to offset i * n for the i-th holder q, i from 0 |
--
-- The entry has data at members that hold A. O holds B, at ROOT alone. The exit is O at ROOT, else E.
use Rattle.std.specs.Prelude.{ℕ, ◌*◌, ◌==◌, List, [], ◌∷◌, ◌++◌, length, get_or, map, if◌then◌else◌}
use Rattle.plan_core.specs.declared.Incoming.{Incoming}
use Rattle.plan_core.specs.Plan.{from_to}
use Rattle.plan_core.specs.Draw.{NewCell}
use Rattle.plan_steps.specs.declared.ends.StepExit.{StepExit}
use Rattle.plan_steps.specs.Steps.{giving, passing}
use Rattle.coll_shape.specs.Collectives.{is_in}
use Rattle.plan_steps.specs.StepContext.{StepContext, places, rank_at, bump, put, holding, entry, bare_entry, full_entry, further}

abbrev pub held_entry : StepContext → ℕ → NewCell
held_entry s i = if is_in i s.holding then full_entry s i else bare_entry s i

-- from the i-th holder
abbrev pub holder_put : StepContext → ℕ → Incoming
holder_put s i = put s.length (entry s (get_or s.holding i 0)) 0 (i * s.length)

abbrev pub concatenated : StepContext → ℕ → NewCell
concatenated s root =
    holding s (length s.holding * s.length) (rank_at s root) (bump (entry s root) ∷ map (holder_put s) (from_to 0 (length s.holding)))

abbrev pub gatherv_cells : StepContext → ℕ → List NewCell
gatherv_cells s root = map (held_entry s) (places s) ++ concatenated s root ∷ []

abbrev pub gatherv_end : StepContext → ℕ → ℕ → StepExit
gatherv_end s root i = if i == root then giving (further s 0) else passing (entry s i)
