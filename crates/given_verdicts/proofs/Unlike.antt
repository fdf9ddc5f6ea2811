-- Where two lists differ, place by place.
use Rattle.std.proofs.Common.{◌≡◌, ℕ, ◌+◌, ◌<◌, ◌≤◌, List, [], ◌∷◌, length, drop, get_or, min, Some, None, cond}
use Rattle.std.proofs.Common.{refl, ap, ap₂, ◌∙◌, arith, add-one, drop-cons, inl, inr}
use Rattle.std.specs.Prelude.{◌==◌}
use Rattle.std.proofs.lemmas.Bool.{cases_lt, eq-eqb, ne_eqb}
use Rattle.std.proofs.lemmas.List.{drop_all}
use Rattle.given_verdicts.specs.Differences.{difference_from}

first : (i x y : ℕ) (xs ys : List ℕ) → difference_from i (x ∷ xs) (y ∷ ys) ≡ cond (x == y) (difference_from (i + 1) xs ys) (Some i)
unfolding difference_from
first i x y xs ys = refl

no_place : (i : ℕ) → difference_from i [] [] ≡ None
unfolding difference_from
no_place i = refl

left_ends : (i y : ℕ) (ys : List ℕ) → difference_from i [] (y ∷ ys) ≡ Some i
unfolding difference_from
left_ends i y ys = refl

right_ends : (i x : ℕ) (xs : List ℕ) → difference_from i (x ∷ xs) [] ≡ Some i
unfolding difference_from
right_ends i x xs = refl

cut_at : (a : List ℕ) (i : ℕ) → i < length a → drop i a ≡ get_or a i 0 ∷ drop (i + 1) a
cut_at a i h = rw add-one (drop-cons a i 0 h)

-- both lists go on at place i
at_both : (a b : List ℕ) (i : ℕ) → i < length a → i < length b → difference_from i (drop i a) (drop i b)
    ≡ cond (get_or a i 0 == get_or b i 0) (difference_from (i + 1) (drop (i + 1) a) (drop (i + 1) b)) (Some i)
at_both a b i ha hb =
    ap₂ (λ (u v : List ℕ). difference_from i u v) (cut_at a i ha) (cut_at b i hb)
    ∙ first i (get_or a i 0) (get_or b i 0) (drop (i + 1) a) (drop (i + 1) b)

pub same_here : (a b : List ℕ) (i : ℕ) → i < length a → i < length b → get_or a i 0 ≡ get_or b i 0
    → difference_from i (drop i a) (drop i b) ≡ difference_from (i + 1) (drop (i + 1) a) (drop (i + 1) b)
same_here a b i ha hb e =
    at_both a b i ha hb
    ∙ ap (λ t. cond t (difference_from (i + 1) (drop (i + 1) a) (drop (i + 1) b)) (Some i)) (eq-eqb (get_or a i 0) (get_or b i 0) e)

pub differs_here : (a b : List ℕ) (i : ℕ) → i < length a → i < length b → (get_or a i 0 ≡ get_or b i 0 → ⊥)
    → difference_from i (drop i a) (drop i b) ≡ Some i
differs_here a b i ha hb ne =
    at_both a b i ha hb
    ∙ ap (λ t. cond t (difference_from (i + 1) (drop (i + 1) a) (drop (i + 1) b)) (Some i)) (ne_eqb (get_or a i 0) (get_or b i 0) ne)

pub ends_alike : (a b : List ℕ) (i : ℕ) → length a ≤ i → length b ≤ i → difference_from i (drop i a) (drop i b) ≡ None
ends_alike a b i ha hb = ap₂ (λ (u v : List ℕ). difference_from i u v) (drop_all i a ha) (drop_all i b hb) ∙ no_place i

pub ends_apart : (a b : List ℕ) (i : ℕ) → (length a ≡ length b → ⊥) → i ≡ min (length a) (length b)
    → difference_from i (drop i a) (drop i b) ≡ Some i
ends_apart a b i apart e =
    elim (cases_lt (length a) (length b)) [
      | inl h ↦ ap₂ (λ (u v : List ℕ). difference_from i u v) (drop_all i a (omega arith)) (cut_at b i (omega arith))
          ∙ left_ends i (get_or b i 0) (drop (i + 1) b)
      | inr h ↦ ap₂ (λ (u v : List ℕ). difference_from i u v) (cut_at a i (omega arith)) (drop_all i b (omega arith))
          ∙ right_ends i (get_or a i 0) (drop (i + 1) a)
    ]

-- what a place tells, one after the other
pub ruleset place_by_place = (same_here, differs_here, ends_alike, ends_apart)
