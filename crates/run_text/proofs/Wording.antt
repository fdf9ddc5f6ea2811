-- Lines of words, put by put.
use Rattle.std.proofs.Common.{◌≡◌, ℕ, suc, ◌+◌, ◌-◌, ◌<◌, ◌≤◌, List, [], ◌∷◌, ◌++◌, map, ◌∙◌, ap, append_assoc, arith}
use Rattle.std.proofs.lemmas.List.Folds.{flat_map-map}
use Rattle.std.specs.Prelude.{codes}
use Rattle.std.specs.List.{flat_map}
use Rattle.std.specs.Fmt.{decimal}
use Rattle.number_lists.specs.Numbers.{from_to}
use Rattle.ptl_types.specs.declared.steps.LocalStep.{LocalStep}
use Rattle.coll_text.specs.Text.{line}
use Rattle.coll_text.proofs.Writes.{join_spaced}
use Rattle.run_text.specs.Orders.{order_line, step_word}

pub worded : {W : Type 0} (first : List ℕ) (f : W → List ℕ) (ws : List W) →
    line (first ∷ map f ws) ≡ first ++ (flat_map (λ w. 32 ∷ f w) ws ++ (10 ∷ []))
worded first f ws =
    ap (λ xs. xs ++ 10 ∷ []) (join_spaced first (map f ws))
    ∙ ap (λ xs. (first ++ xs) ++ 10 ∷ []) (flat_map-map (λ w. 32 ∷ w) f ws)
    ∙ append_assoc first (flat_map (λ w. 32 ∷ f w) ws) (10 ∷ [])

pub order_line-puts : (r : ℕ) (steps : List LocalStep) → order_line r steps ≡ (codes "order " ++ decimal r) ++
    (flat_map (λ s. 32 ∷ step_word s) steps ++ (10 ∷ []))
order_line-puts r steps =
    ap (λ xs. xs ++ 10 ∷ []) (join_spaced (codes "order") (decimal r ∷ map step_word steps))
    ∙ ap (λ xs. (codes "order" ++ ((32 ∷ decimal r) ++ xs)) ++ 10 ∷ []) (flat_map-map (λ w. 32 ∷ w) step_word steps)
    ∙ append_assoc (codes "order" ++ (32 ∷ decimal r)) (flat_map (λ s. 32 ∷ step_word s) steps) (10 ∷ [])

-- the lines of n rows from r on
abbrev pub rows_from : (ℕ → List ℕ) → ℕ → ℕ → List ℕ
rows_from f r n = flat_map f (from_to r n)

pub rows_from-next : (f : ℕ → List ℕ) (r n : ℕ) → r < n → rows_from f r (n - r) ≡ f r ++ rows_from f (r + 1) (n - (r + 1))
rows_from-next f r n in_range =
    ap (rows_from f r) (let left : n - r ≡ suc (n - (r + 1)) = omega arith in left)
    ∙ ap (λ v. f r ++ rows_from f v (n - (r + 1))) (let next : suc r ≡ r + 1 = omega arith in next)

pub rows_from-none : (f : ℕ → List ℕ) (r n : ℕ) → n ≤ r → rows_from f r (n - r) ≡ []
rows_from-none f r n past = ap (rows_from f r) (let none : n - r ≡ 0 = omega arith in none)
