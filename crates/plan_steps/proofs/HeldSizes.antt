-- Members of a list of rising numbers that pass a test.
use Rattle.std.proofs.Common.{ℕ, zero, suc, Bool, true, false, cond, ◌||◌, ◌+◌, ◌≡◌, ◌<◌, ◌≤◌, ◌==◌, ◌∷◌, refl, filter, ap, ◌∙◌, sym, arith}
use Rattle.std.proofs.Common.{eq-eqb, eqb-true}
use Rattle.coll_shape.specs.Collectives.{is_in}
use Rattle.plan_core.specs.Plan.{from_to}
use Rattle.std.proofs.lemmas.Bool.{ne_eqb}

not-in : (t : ℕ → Bool) (k n i : ℕ) → i < k → is_in i (filter t (from_to k n)) ≡ false
not-in t k zero i h = refl
not-in t k (suc n) i h = at (t k) (not-in t (suc k) n i (omega arith))
  where
    at : (b : Bool) → is_in i (filter t (from_to (suc k) n)) ≡ false →
        is_in i (cond b (k ∷ filter t (from_to (suc k) n)) (filter t (from_to (suc k) n))) ≡ false
    at true e = ap (λ b. b || is_in i (filter t (from_to (suc k) n))) (ne_eqb k i (λ z. absurd (omega arith))) ∙ e
    at false e = e

pub is_in-filter : (t : ℕ → Bool) (k n i : ℕ) → k ≤ i → i < k + n → is_in i (filter t (from_to k n)) ≡ t i
is_in-filter t k zero i h l = absurd (omega arith)
is_in-filter t k (suc n) i h l = at (t k) refl (k == i) refl (λ g. is_in-filter t (suc k) n i g (let z : i < suc k + n = omega arith in z))
  where
    differ : k ≡ i → (k == i) ≡ false → ⊥
    differ w e = let v = eq-eqb k i w in clash (sym v ∙ e)
      where
        clash : true ≡ false → ⊥
        clash v = cc

    above : (k ≡ i → ⊥) → suc k ≤ i
    above w = omega (arith, w, h)

    at : (b : Bool) → t k ≡ b → (q : Bool) → (k == i) ≡ q → (suc k ≤ i → is_in i (filter t (from_to (suc k) n)) ≡ t i) →
        is_in i (cond (t k) (k ∷ filter t (from_to (suc k) n)) (filter t (from_to (suc k) n))) ≡ t i
    at true e true f rest =
        ap (λ b. is_in i (cond b (k ∷ filter t (from_to (suc k) n)) (filter t (from_to (suc k) n)))) e
        ∙ ap (λ b. b || is_in i (filter t (from_to (suc k) n))) f
        ∙ sym e ∙ ap t (eqb-true _ _ f)
    at true e false f rest =
        ap (λ b. is_in i (cond b (k ∷ filter t (from_to (suc k) n)) (filter t (from_to (suc k) n)))) e
        ∙ ap (λ b. b || is_in i (filter t (from_to (suc k) n))) f
        ∙ rest (above (λ w. differ w f))
    at false e true f rest =
        let z : k ≡ i = eqb-true _ _ f in
        ap (λ b. is_in i (cond b (k ∷ filter t (from_to (suc k) n)) (filter t (from_to (suc k) n)))) e
        ∙ not-in t (suc k) n i (omega (arith, z))
        ∙ sym e ∙ ap t z
    at false e false f rest =
        ap (λ b. is_in i (cond b (k ∷ filter t (from_to (suc k) n)) (filter t (from_to (suc k) n)))) e
        ∙ rest (above (λ w. differ w f))
