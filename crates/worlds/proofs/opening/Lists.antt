-- Lists that are made place by place.
use Rattle.std.proofs.Common.{ℕ, ◌+◌, ◌≡◌, ◌≢◌, ◌<◌, ◌∙◌, List, [], ◌∷◌, ◌++◌, get_or, length, sym, subst, arith, below_more}
use Rattle.std.proofs.Math.ListN.{set}
use Rattle.std.proofs.lemmas.List.{get_or-set_other, get_or-set_same, get_or_append_left, get_or_push}

-- one more at the end
pub pushed : {X : Type 0} (P : ℕ → X → Type 0) (xs : List X) (y d : X) (n : ℕ) → length xs ≡ n
    → ((k : ℕ) → k < n → P k (get_or xs k d)) → P n y → (k : ℕ) → k < n + 1 → P k (get_or (xs ++ y ∷ []) k d)
pushed P xs y d n size before of_new =
    below_more (λ k. P k (get_or (xs ++ y ∷ []) k d)) n
    (λ k h. subst (P k) (sym (get_or_append_left xs (y ∷ []) d k (omega (arith, size, h)))) (before k h))
    (subst (P n) (sym (get_or_push xs y d n size)) of_new)

-- one more is written
pub written : (f : ℕ → ℕ) (xs : List ℕ) (n : ℕ) → n < length xs → ((k : ℕ) → k < n → get_or xs k 0 ≡ f k)
    → (k : ℕ) → k < n + 1 → get_or (set xs n (f n)) k 0 ≡ f k
written f xs n lt before =
    below_more (λ k. get_or (set xs n (f n)) k 0 ≡ f k) n
    (λ k h. let other : k ≢ n = omega (arith, h) in get_or-set_other xs n k (f n) 0 other ∙ before k h)
    (get_or-set_same xs n (f n) 0 lt)
