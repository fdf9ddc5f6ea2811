-- Which of a rank's request lanes have no room now, and what it can fire meanwhile.
use Rattle.std.specs.Prelude.{ℕ, Bool, true, false, not, ◌&&◌, List, Option, Some, None, filter, slice_index_or}
use Rattle.ni_model.specs.Ready.{is_ready, ready_numbers, target_at}
use Rattle.ni_model.specs.State.{State}

-- what is for this rank, if anything, finds its lane open
abbrev pub goes_out : List Bool → Option ℕ → Bool
goes_out closed None = true
goes_out closed (Some d) = not (slice_index_or closed d false)

-- the operation is ready, and its message would find its lane open
abbrev pub may_go : List Bool → State → ℕ → Bool
may_go closed s t = is_ready s t && goes_out closed (target_at s t)

-- the numbers of these, rising
abbrev pub open_numbers : List Bool → State → List ℕ
open_numbers closed s = filter (λ t. goes_out closed (target_at s t)) (ready_numbers s)
