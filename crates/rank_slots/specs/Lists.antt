-- Lists read element by element.
use Rattle.std.specs.Prelude.{ℕ, ◌≡◌, List, length}
use mathlib.Core.Option.{some}
use lib.ListN.{get_elem?}

-- each element of the list
abbrev pub Each : {A : Type 0} → (A → Type 0) → List A → Type 0
Each P xs = (i : ℕ) (x : _) → get_elem? xs i ≡ some x → P x

-- what became of each element: the lists are as long, and R holds at each place
pub record Pairwise {A : Type 0} (R : A → A → Type 0) (old new : List A) : Type 0 where
  pub many : length new ≡ length old
  pub each : (i : ℕ) (x y : A) → get_elem? old i ≡ some x → get_elem? new i ≡ some y → R x y
