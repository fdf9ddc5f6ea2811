-- What is taken of a lane that holds one message: the last is the first.
use Rattle.std.proofs.Common.{◌≡◌, ◌-◌, List, Option, [], ◌∷◌, length, take, refl, arith}
use Rattle.std.specs.Prelude.{MatchOption}
use Rattle.circular_buffer.specs.Buffer.{last_item}

pub last_is_first : {X : Type 0} (xs rest : List X) (taken : Option X) → length xs ≡ 1 → taken ≡ last_item xs →
    rest ≡ take (length xs - 1) xs
    → MatchOption taken ((xs ≡ []) × (rest ≡ [])) (λ x. xs ≡ x ∷ rest)
last_is_first [] rest taken one t r = absurd (omega (arith, one))
last_is_first (x ∷ []) rest taken one t r = rw (t, r) refl
last_is_first (x ∷ y ∷ ys) rest taken one t r = absurd (omega (arith, one))
