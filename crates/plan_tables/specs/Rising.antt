-- Rising numbers with a property.
use Rattle.std.specs.Prelude.{ℕ, List, [], filter, ◌==◌}
use Rattle.plan_core.specs.Plan.{from_to}

-- what each rank has at the beginning
abbrev pub no_numbers : ℕ → List ℕ
no_numbers r = []

abbrev pub nothing : ℕ → ℕ
nothing i = 0

-- the numbers below n that belong to i
abbrev pub of_key : (ℕ → ℕ) → ℕ → ℕ → List ℕ
of_key key n i = filter (λ k. key k == i) (from_to 0 n)
