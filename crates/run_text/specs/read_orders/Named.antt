-- Steps that an order line can name.
use Rattle.std.specs.Prelude.{ℕ, ◌<◌, ◌^◌, List, [], ◌∷◌}
use Rattle.ptl_types.specs.declared.steps.LocalStep.{LocalStep}
use Rattle.ptl_types.specs.declared.steps.LocalStep.TheVariants.{Start, Receive, Fire}

-- a source is a rank, and a number has 32 bits
abbrev pub IsNamed : ℕ → LocalStep → Type 0
IsNamed ranks Start = Unit {0}
IsNamed ranks (Receive s lane) = s < ranks
IsNamed ranks (Fire t) = t < 2 ^ 32

abbrev pub AreNamed : ℕ → List LocalStep → Type 0
AreNamed ranks [] = Unit {0}
AreNamed ranks (e ∷ es) = IsNamed ranks e × AreNamed ranks es
