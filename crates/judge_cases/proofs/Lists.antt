-- One input at two ranks.
use Rattle.std.proofs.Common.{◌≡◌, ℕ, zero, suc, ◌<◌, List, [], ◌∷◌, length, get_or, refl, arith}
use Rattle.plan_judge.specs.values.Given.{AreLists}

rows : (x y : List ℕ) (b : ℕ) → b < 1 → length (get_or ((x ∷ y ∷ []) ∷ []) b []) ≡ 2
rows x y zero h = refl
rows x y (suc b) h = absurd (omega arith)

long : (x y : List ℕ) → length x ≡ 4 → length y ≡ 4 → (b r : ℕ) → b < 1 → r < 2
    → length (get_or (get_or ((x ∷ y ∷ []) ∷ []) b []) r []) ≡ get_or (4 ∷ []) b 0
long x y e f zero zero h k = e
long x y e f zero (suc zero) h k = f
long x y e f zero (suc (suc r)) h k = absurd (omega arith)
long x y e f (suc b) r h k = absurd (omega arith)

pub two_lists : (x y : List ℕ) (inputs : List (List (List ℕ))) → inputs ≡ (x ∷ y ∷ []) ∷ [] → length x ≡ 4 → length y ≡ 4
    → AreLists 2 (4 ∷ []) inputs
two_lists x y inputs is e f = rw is record { many = refl; rows = rows x y; long = long x y e f }
