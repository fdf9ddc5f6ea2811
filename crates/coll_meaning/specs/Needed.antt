-- Which buffers have to be there: those that are kept to the end, and those that a later step reads.
use Rattle.std.specs.Prelude.{ℕ, Bool, false, ◌==◌, ◌||◌, List, Option, Some, None}
use Rattle.std.specs.List.{list_any}
use Rattle.coll_shape.specs.Collectives.{is_in, source_of}
use Rattle.coll_shape.specs.declared.types.CollStep.{CollStep}

abbrev pub is_number : ℕ → Option ℕ → Bool
is_number b None = false
is_number b (Some a) = a == b

abbrev pub is_needed : List ℕ → List CollStep → ℕ → Bool
is_needed kept later b = is_in b kept || list_any (λ step. is_number b (source_of step)) later
