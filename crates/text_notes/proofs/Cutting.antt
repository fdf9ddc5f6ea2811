-- The lines of what is left of a text.
use Rattle.std.proofs.Common.{◌≡◌, ℕ, zero, suc, ◌-◌, ◌<◌, List, [], ◌∷◌, get_or, refl, ap, ◌∙◌, arith}

-- one line further on
pub one_on : (whole : List ℕ) (xs ys : List (List ℕ)) (line : List ℕ) (n : ℕ) → whole ≡ get_or xs n [] → xs ≡ line ∷ ys → 0 < n →
    whole ≡ get_or ys (n - 1) []
one_on whole xs ys line zero is same some = absurd (omega (arith, some))
one_on whole xs ys line (suc n) is same some =
    is ∙ ap (λ (v : List (List ℕ)). get_or v (suc n) []) same ∙ ap (λ k. get_or ys k []) (let e : n ≡ suc n - 1 = omega arith in e)

-- there is no further one
pub none_on : (whole : List ℕ) (xs : List (List ℕ)) (line : List ℕ) (n : ℕ) → whole ≡ get_or xs n [] → xs ≡ line ∷ [] → 0 < n → whole ≡ []
none_on whole xs line zero is same some = absurd (omega (arith, some))
none_on whole xs line (suc n) is same some = is ∙ ap (λ (v : List (List ℕ)). get_or v (suc n) []) same

-- it is the first one
pub first : (whole : List ℕ) (xs ys : List (List ℕ)) (line : List ℕ) (n : ℕ) → whole ≡ get_or xs n [] → n ≡ 0 → xs ≡ line ∷ ys →
    whole ≡ line
first whole xs ys line n is none same = is ∙ ap (λ k. get_or xs k []) none ∙ ap (λ (v : List (List ℕ)). get_or v 0 []) same
