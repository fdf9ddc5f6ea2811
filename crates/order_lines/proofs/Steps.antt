-- The steps of an order, word by word.
use Rattle.std.proofs.Common.{◌≡◌, ℕ, List, [], ◌∷◌, ◌++◌, Option, Some, None, refl, sym, ap, append_assoc}
use Rattle.std.specs.Prelude.{option_map}
use Rattle.std.proofs.lemmas.List.{append-nil}
use Rattle.ptl_types.specs.declared.steps.LocalStep.{LocalStep}
use Rattle.order_lines.specs.Orders.{step_of, steps_of}

-- all steps, where these stand before those of the words that are left
unfoldable pub left_over : ℕ → List LocalStep → List (List ℕ) → Option (List LocalStep)
left_over ranks done ws = option_map (λ more. done ++ more) (steps_of ranks ws)

pub begins : (ranks : ℕ) (ws : List (List ℕ)) → steps_of ranks ws ≡ left_over ranks [] ws
unfolding left_over
begins ranks ws = at (steps_of ranks ws)
  where
    at : (o : Option (List LocalStep)) → o ≡ option_map (λ more. [] ++ more) o
    at None = refl
    at (Some es) = refl

pub takes : (ranks : ℕ) (done : List LocalStep) (w : List ℕ) (ws : List (List ℕ)) (e : LocalStep) → step_of ranks w ≡ Some e
    → left_over ranks done (w ∷ ws) ≡ left_over ranks (done ++ e ∷ []) ws
unfolding left_over
takes ranks done w ws e h = rw h (at (steps_of ranks ws))
  where
    at : (o : Option (List LocalStep))
        → option_map (λ more. done ++ more) (option_map (λ es. e ∷ es) o) ≡ option_map (λ more. (done ++ e ∷ []) ++ more) o
    at None = refl
    at (Some es) = ap (λ (l : List LocalStep). Some l) (sym (append_assoc done (e ∷ []) es))

pub breaks : (ranks : ℕ) (done : List LocalStep) (w : List ℕ) (ws : List (List ℕ)) → step_of ranks w ≡ None
    → left_over ranks done (w ∷ ws) ≡ None
unfolding left_over
breaks ranks done w ws h = rw h refl

pub ends : (ranks : ℕ) (done : List LocalStep) → left_over ranks done [] ≡ Some done
unfolding left_over
ends ranks done = ap (λ (l : List LocalStep). Some l) (append-nil done)
