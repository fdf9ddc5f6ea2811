-- The fold of the places up to r, by doubling.
use Rattle.std.proofs.Common.{ℕ, zero, suc, Bool, true, false, cond, ◌+◌, ◌-◌, ◌%◌, ◌^◌, ◌≡◌, ◌≤◌, ◌<◌, List, ◌++◌, refl, length, map, ap}
use Rattle.std.proofs.Common.{ap₂, ◌∙◌, sym, arith, nat_le, pow-suc}
use Rattle.std.proofs.lemmas.Bool.{leb-true, leb-false}
use Rattle.std.proofs.lemmas.List.{map-append}
use Rattle.op_laws.proofs.Bytes.{length-repeated}
use Rattle.plan_core.specs.Plan.{from_to}
use Rattle.plan_core.proofs.Growth.{from_to-append}
use Rattle.plan_steps.proofs.Folds.{folded-append, folded-join, folded-swap, length-folded}
use Rattle.coll_shape.specs.Folding.{folded}
use Rattle.ptl_types.specs.Elements.{combined, starting}
use Rattle.ptl_types.specs.Operations.{bytes_of}
use Rattle.ptl_types.specs.declared.elements.AtomicOp.{AtomicOp}
use Rattle.ptl_types.specs.declared.elements.ElemType.{ElemType}

module _ (o : AtomicOp) (ty : ElemType) (n m : ℕ) (whole : n % bytes_of ty ≡ 0) (x : ℕ → List ℕ) (sum : ℕ → ℕ → List ℕ) (last : ℕ)
    (first : (r : ℕ) → r < m → sum 0 r ≡ combined o ty (starting o ty n) (x r))
    (next : (k r : ℕ) → k < last → r < m → sum (suc k) r ≡ cond (nat_le (2 ^ k) r)
    (combined o ty (combined o ty (starting o ty n) (sum k r)) (sum k (r - 2 ^ k))) (combined o ty (starting o ty n) (sum k r))) where
  -- the fold of l places from a on
  abbrev span_of : ℕ → ℕ → List ℕ → List ℕ
  span_of a l z = folded o ty (map x (from_to a l)) z

  join : (a l : ℕ) → 0 < l → (z : List ℕ) → length z ≡ n → combined o ty z (span_of a l (starting o ty n)) ≡ span_of a l z
  join a zero pos z e = absurd (omega arith)
  join a (suc l) pos z e = folded-join o ty n whole z (x a) (map x (from_to (suc a) l)) e

  start-length : length (starting o ty n) ≡ n
  start-length = length-repeated o ty n whole

  pow-pos : (k : ℕ) → 0 < 2 ^ k
  pow-pos zero = omega arith
  pow-pos (suc k) = let h = pow-pos k in let e = pow-suc 2 k in omega arith

  pub doubled : (k r : ℕ) → k ≤ last → r < m → sum k r ≡ span_of (suc r - 2 ^ k) (suc r - (suc r - 2 ^ k)) (starting o ty n)
  doubled zero r t h = first r h ∙ ap₂ (λ a l. span_of a l (starting o ty n)) (let e : r ≡ suc r - 2 ^ 0 = omega arith in e)
      (let e : 1 ≡ suc r - (suc r - 2 ^ 0) = omega arith in e)
  doubled (suc k) r t h = next k r t h ∙ at (λ s l. doubled k s (let u : k ≤ last = omega arith in u) l) (nat_le (2 ^ k) r) refl
    where
      at : ((s : ℕ) → s < m → sum k s ≡ span_of (suc s - 2 ^ k) (suc s - (suc s - 2 ^ k)) (starting o ty n)) → (b : Bool) →
          nat_le (2 ^ k) r ≡ b → cond b (combined o ty (combined o ty (starting o ty n) (sum k r)) (sum k (r - 2 ^ k)))
          (combined o ty (starting o ty n) (sum k r)) ≡ span_of (suc r - 2 ^ suc k) (suc r - (suc r - 2 ^ suc k)) (starting o ty n)
      at earlier false e =
          let i : r < 2 ^ k = leb-false _ _ e in
          let p = pow-suc 2 k in
          ap (combined o ty (starting o ty n)) (earlier r h)
          ∙ join (suc r - 2 ^ k) (suc r - (suc r - 2 ^ k)) (omega arith) (starting o ty n) start-length
          ∙ ap₂ (λ a l. span_of a l (starting o ty n)) (let q : suc r - 2 ^ k ≡ suc r - 2 ^ suc k = omega arith in q)
          (let q : suc r - (suc r - 2 ^ k) ≡ suc r - (suc r - 2 ^ suc k) = omega arith in q)
      at earlier true e =
          let i : 2 ^ k ≤ r = leb-true _ _ e in
          let p = pow-suc 2 k in
          let pos = pow-pos k in
          let a1 = suc r - 2 ^ k in
          let l1 = suc r - (suc r - 2 ^ k) in
          let a2 = suc (r - 2 ^ k) - 2 ^ k in
          let l2 = suc (r - 2 ^ k) - (suc (r - 2 ^ k) - 2 ^ k) in
          let len : length (span_of a1 l1 (starting o ty n)) ≡ n = length-folded o ty (map x (from_to a1 l1)) (starting o ty n)
          (ap (λ v. v % bytes_of ty) start-length ∙ whole) ∙ start-length in
          ap₂ (λ u v. combined o ty (combined o ty (starting o ty n) u) v) (earlier r h) (earlier (r - 2 ^ k) (omega arith))
          ∙ ap (λ u. combined o ty u (span_of a2 l2 (starting o ty n))) (join a1 l1 (omega arith) (starting o ty n) start-length)
          ∙ join a2 l2 (omega arith) (span_of a1 l1 (starting o ty n)) len
          ∙ folded-swap o ty (map x (from_to a2 l2)) (map x (from_to a1 l1)) (starting o ty n)
          ∙ sym (folded-append o ty (map x (from_to a2 l2)) (map x (from_to a1 l1)) (starting o ty n))
          ∙ ap (λ xs. folded o ty xs (starting o ty n))
          (sym (map-append x (from_to a2 l2) (from_to a1 l1))
          ∙ ap (map x) (ap₂ (λ u v. from_to a2 l2 ++ from_to u v) (let q : a1 ≡ a2 + l2 = omega arith in q)
          (let q : l1 ≡ 2 ^ k = omega arith in q) ∙ sym (from_to-append a2 l2 (2 ^ k))
          ∙ ap₂ from_to (let q : a2 ≡ suc r - 2 ^ suc k = omega arith in q) (let q : l2 + 2 ^ k ≡ suc r - (suc r - 2 ^ suc k) =
          omega arith in q)))

  pub scanned : (k r : ℕ) → k ≤ last → m ≤ 2 ^ k → r < m → sum k r ≡ span_of 0 (suc r) (starting o ty n)
  scanned k r t big h = doubled k r t h ∙ ap₂ (λ a l. span_of a l (starting o ty n)) (let e : suc r - 2 ^ k ≡ 0 = omega arith in e)
      (let e : suc r - (suc r - 2 ^ k) ≡ suc r = omega arith in e)
