-- The places of the cells of a plan.
use Rattle.std.specs.Prelude.{ℕ, ◌<◌, ◌≡◌, List, [], length, map, get_or, replicate}
use Rattle.plan_core.specs.Plan.{Plan, link}
use Rattle.plan_core.specs.Sound.{AreInputsOf}
use Rattle.plan_core.specs.Values.{carried_of, initial, next_value, values}
use Rattle.plan_terms.specs.terms.Terms.{IsSolution, Lists, Table}

-- places of so many zeros
abbrev pub AreZeros : Table → List ℕ → ℕ → Type 0
AreZeros t places n = (inputs : Lists) (V : ℕ → ℕ) → IsSolution t inputs V → map V places ≡ replicate n 0

-- link l comes to cell c
pub record ComesTo (p : Plan) (c l : ℕ) : Type 0 where
  pub known : l < length p.links
  pub target : (link p l).target ≡ c

-- inputs that a plan with so many of them is evaluated for, and what stands at the places then
pub record Suits (p : Plan) (count : ℕ) (t : Table) (inputs : Lists) (V : ℕ → ℕ) : Type 0 where
  pub many : length inputs ≡ count
  pub fits : AreInputsOf p inputs
  pub solution : IsSolution t inputs V

-- what the link carries, where the cells before have these bytes
abbrev pub carried_from : Plan → List (List ℕ) → ℕ → List ℕ
carried_from p before l = carried_of p (get_or before (link p l).source []) l

-- at these places stands what cell c holds at the beginning
abbrev pub AreInitial : Plan → ℕ → Table → ℕ → List ℕ → Type 0
AreInitial p count t c places = (inputs : Lists) (V : ℕ → ℕ) → Suits p count t inputs V → map V places ≡ initial p inputs c

-- at these places stands what cell c holds in the end, where the cells before it have theirs
abbrev pub IsNext : Plan → ℕ → Table → ℕ → List (List ℕ) → List ℕ → Type 0
IsNext p count t c before places = (inputs : Lists) (V : ℕ → ℕ) → Suits p count t inputs V
    → map V places ≡ next_value p inputs (map (map V) before) c

-- at these places stands what the first n cells hold in the end
abbrev pub AreCells : Plan → ℕ → Table → ℕ → List (List ℕ) → Type 0
AreCells p count t n cells = (inputs : Lists) (V : ℕ → ℕ) → Suits p count t inputs V → map (map V) cells ≡ values p inputs n
