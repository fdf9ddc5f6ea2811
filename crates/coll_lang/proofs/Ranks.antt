-- Ranks in order.
use Rattle.std.proofs.Common.{◌≡◌, ℕ, zero, suc, ◌+◌, [], ◌∷◌, ◌++◌, ap, ◌∙◌, refl, sym, arith}
use Rattle.number_lists.specs.Numbers.{from_to}

behind : (k n : ℕ) → from_to k (suc n) ≡ from_to k n ++ (k + n) ∷ []
behind k zero = ap (λ v. v ∷ []) (let e : k ≡ k + 0 = omega arith in e)
behind k (suc n) = ap (λ v. k ∷ v)
    (behind (suc k) n ∙ ap (λ v. from_to (suc k) n ++ v ∷ []) (let e : suc k + n ≡ k + suc n = omega arith in e))

pub begins : [] ≡ from_to 0 0
begins = refl

pub one_more : (n : ℕ) → from_to 0 n ++ n ∷ [] ≡ from_to 0 (n + 1)
one_more n = ap (λ v. from_to 0 n ++ v ∷ []) (let e : n ≡ 0 + n = omega arith in e)
    ∙ (sym (behind 0 n) ∙ ap (from_to 0) (let e : suc n ≡ n + 1 = omega arith in e))
