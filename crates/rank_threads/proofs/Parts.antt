-- Sums over lists whose elements have as much, place by place.
use Rattle.std.proofs.Common.{◌≡◌, ℕ, suc, ◌+◌, ◌<◌, ◌∙◌, List, [], ◌∷◌, length, get_or, sym, refl, ap₂, arith}
use Rattle.std.specs.Prelude.{sum_by}
use Rattle.std.proofs.lemmas.List.Sums.{sum_by-cons}

pub sum-each : {A : Type 0} (f : A → ℕ) (xs ys : List A) → length ys ≡ length xs →
    ((i : ℕ) (d : A) → i < length xs → f (get_or ys i d) ≡ f (get_or xs i d)) → sum_by f ys ≡ sum_by f xs
sum-each f [] [] n h = refl
sum-each f [] (y ∷ ys) n h = absurd (omega (arith, n))
sum-each f (x ∷ xs) [] n h = absurd (omega (arith, n))
sum-each f (x ∷ xs) (y ∷ ys) n h =
    sum_by-cons f y ys
    ∙ (ap₂ (λ a b. a + b) (h 0 x (omega arith)) (sum-each f xs ys (omega (arith, n)) (λ i d low. h (suc i) d (omega (arith, low))))
    ∙ sym (sum_by-cons f x xs))
