-- What comes last so far: the cell that is reached last, and the link that is counted last at each cell.
use Rattle.std.specs.Prelude.{ℕ, nat_lt, ◌≡◌, ◌<◌, ◌≤◌, List, Option, Some, None, get_or, if◌then◌else◌, length}
use Rattle.plan_core.specs.Plan.{Plan}
use Rattle.plan_costs.specs.declared.numbers.LogGp.{LogGp}
use Rattle.plan_costs.specs.Times.{ComesTo, TimesOf, counted}

abbrev pub later_cell : TimesOf → ℕ → ℕ → ℕ
later_cell t a b = if nat_lt (get_or t.cells a 0) (get_or t.cells b 0) then b else a

-- of the cells below k the one that is reached last; of several the lowest
pub record IsLatestBelow (p : Plan) (t : TimesOf) (k c : ℕ) : Type 0 where
  pub known : c < length p.cells
  pub last : (d : ℕ) → d < k → get_or t.cells d 0 ≤ get_or t.cells c 0
  pub first : (d : ℕ) → d < c → get_or t.cells d 0 < get_or t.cells c 0

abbrev pub later_link : LogGp → Plan → TimesOf → ℕ → Option ℕ → Option ℕ
later_link n p t l None = Some l
later_link n p t l (Some m) = if nat_lt (counted n p t m) (counted n p t l) then Some l else Some m

-- of the links below k that come to cell c the one that is counted last; of several the lowest
pub record IsLastSoFar (n : LogGp) (p : Plan) (t : TimesOf) (k c l : ℕ) : Type 0 where
  pub comes : ComesTo p c l
  pub below : l < k
  pub last : (m : ℕ) → ComesTo p c m → m < k → counted n p t m ≤ counted n p t l
  pub first : (m : ℕ) → ComesTo p c m → m < l → counted n p t m < counted n p t l

abbrev pub IsLastBelow : LogGp → Plan → TimesOf → ℕ → ℕ → Option ℕ → Type 0
IsLastBelow n p t k c None = (l : ℕ) → ComesTo p c l → l < k → ⊥
IsLastBelow n p t k c (Some l) = IsLastSoFar n p t k c l

pub record AreLast (n : LogGp) (p : Plan) (t : TimesOf) (k : ℕ) (last : List (Option ℕ)) : Type 0 where
  pub count : length last ≡ length p.cells
  pub links : (c : ℕ) → c < length p.cells → IsLastBelow n p t k c (get_or last c None)
