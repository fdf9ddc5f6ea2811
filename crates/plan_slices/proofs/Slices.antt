-- Slices of lists: how long they are, and of what.
use Rattle.std.proofs.Common.{ℕ, zero, suc, ◌+◌, ◌-◌, ◌*◌, ◌≡◌, ◌≤◌, ◌<◌, List, ◌++◌, length, take, drop, refl, ap, ap₂}
use Rattle.std.proofs.Common.{sym, subst, ◌∙◌, arith, append_assoc, take_at, drop_at}
use Rattle.std.proofs.lemmas.List.{drop-drop, drop-take, take-take, take-append-le, length-append, length-take, length-drop}
use Rattle.std.proofs.lemmas.List.{drop_at, take_at}
use Rattle.std.proofs.Math.Nat.{mul-le-mul_right}
use Rattle.ptl_types.specs.Elements.{part, written}
use Rattle.op_laws.proofs.Bytes.{length-part}
use Rattle.plan_slices.specs.declared.cut.Cut.{Cut}
use Rattle.plan_slices.specs.Slices.{block, slice}

module _ (k : Cut) (j : ℕ) (within : j < k.count) where
  -- a piece lies in its block
  pub in-block : j * k.width + k.width ≤ block k
  in-block =
      let a : suc j * k.width ≤ k.count * k.width = mul-le-mul_right k.width (let z : suc j ≤ k.count = omega (arith, within) in z) in
      let b : suc j * k.width ≡ j * k.width + k.width = grind arith in
      omega (arith, a, b)

  pub next-blocks : (n : ℕ) → suc n * block k ≡ block k + n * block k
  next-blocks n = grind arith

  pub length-slice : (n : ℕ) (xs : List ℕ) → n * block k ≤ length xs → length (slice k j n xs) ≡ n * k.width
  length-slice zero xs h = (let z : 0 ≡ 0 * k.width = grind arith in z)
  length-slice (suc n) xs h =
      let e = next-blocks n in
      let b = in-block in
      let first : length (part (j * k.width) k.width xs) ≡ k.width = length-part (j * k.width) k.width xs (omega (arith, h, e, b)) in
      let long : n * block k ≤ length (drop (block k) xs) = rw length-drop (omega (arith, h, e)) in
      let rest = length-slice n (drop (block k) xs) long in
      length-append (part (j * k.width) k.width xs) (slice k j n (drop (block k) xs))
      ∙ (let m : suc n * k.width ≡ k.width + n * k.width = grind arith in omega (arith, first, rest, m))

  pub slice-more : (a b : ℕ) (xs : List ℕ) → slice k j (a + b) xs ≡ slice k j a xs ++ slice k j b (drop (a * block k) xs)
  slice-more zero b xs =
      ap (λ n. slice k j n xs) (let e : 0 + b ≡ b = omega arith in e)
      ∙ ap (λ n. slice k j b (drop n xs)) (let z : 0 ≡ 0 * block k = grind arith in z)
  slice-more (suc a) b xs =
      ap (λ n. slice k j n xs) (let e : suc a + b ≡ suc (a + b) = omega arith in e)
      ∙ ap (λ v. part (j * k.width) k.width xs ++ v)
      (slice-more a b (drop (block k) xs)
      ∙ ap (λ v. slice k j a (drop (block k) xs) ++ slice k j b v)
      (drop-drop (a * block k) (block k) xs ∙ ap (λ n. drop n xs) (sym (next-blocks a))))
      ∙ sym (append_assoc (part (j * k.width) k.width xs) (slice k j a (drop (block k) xs)) (slice k j b (drop (suc a * block k) xs)))

  -- what stands past the blocks doesn't matter
  part-take : (at n m : ℕ) (xs : List ℕ) → at + n ≤ m → part at n (take m xs) ≡ part at n xs
  part-take at n m xs h =
      ap (λ v. take n (drop at (take v xs))) (let e : m ≡ at + (m - at) = omega (arith, h) in e)
      ∙ ap (take n) (drop-take at (m - at) xs)
      ∙ take-take n (m - at) (drop at xs) (omega (arith, h))

  pub slice-take : (a m : ℕ) (xs : List ℕ) → a * block k ≤ m → slice k j a (take m xs) ≡ slice k j a xs
  slice-take zero m xs h = refl
  slice-take (suc a) m xs h =
      let e = next-blocks a in
      let b = in-block in
      ap₂ (λ u v. u ++ slice k j a v) (part-take (j * k.width) k.width m xs (omega (arith, h, e, b)))
      (ap (λ v. drop (block k) (take v xs)) (let z : m ≡ block k + (m - block k) = omega (arith, h, e) in z)
      ∙ drop-take (block k) (m - block k) xs)
      ∙ ap (λ v. part (j * k.width) k.width xs ++ v) (slice-take a (m - block k) (drop (block k) xs) (omega (arith, h, e)))

  pub slice-left : (a : ℕ) (xs ys : List ℕ) → a * block k ≤ length xs → slice k j a (xs ++ ys) ≡ slice k j a xs
  slice-left a xs ys h =
      sym (slice-take a (a * block k) (xs ++ ys) (omega arith))
      ∙ ap (slice k j a) (take-append-le (a * block k) xs ys h)
      ∙ slice-take a (a * block k) xs (omega arith)

  -- the first blocks, and the rest
  pub take-slice : (a b : ℕ) (xs : List ℕ) → (a + b) * block k ≤ length xs → take (a * k.width) (slice k j (a + b) xs) ≡ slice k j a xs
  take-slice a b xs h =
      let e : (a + b) * block k ≡ a * block k + b * block k = grind arith in
      ap (take (a * k.width)) (slice-more a b xs)
      ∙ take_at (slice k j a xs) (slice k j b (drop (a * block k) xs)) (a * k.width) (length-slice a xs (omega (arith, h, e)))

  pub drop-slice : (a b : ℕ) (xs : List ℕ) → (a + b) * block k ≤ length xs
      → drop (a * k.width) (slice k j (a + b) xs) ≡ slice k j b (drop (a * block k) xs)
  drop-slice a b xs h =
      let e : (a + b) * block k ≡ a * block k + b * block k = grind arith in
      ap (drop (a * k.width)) (slice-more a b xs)
      ∙ drop_at (slice k j a xs) (slice k j b (drop (a * block k) xs)) (a * k.width) (length-slice a xs (omega (arith, h, e)))

  -- ---- what is carried, and what is written
  pub slice-part : (a m r : ℕ) (xs : List ℕ) → (a + (m + r)) * block k ≤ length xs
      → slice k j m (part (a * block k) (m * block k) xs) ≡ part (a * k.width) (m * k.width) (slice k j (a + (m + r)) xs)
  slice-part a m r xs h =
      let e : (a + (m + r)) * block k ≡ a * block k + (m + r) * block k = grind arith in
      let long : (m + r) * block k ≤ length (drop (a * block k) xs) = rw length-drop (omega (arith, h, e)) in
      slice-take m (m * block k) (drop (a * block k) xs) (omega arith)
      ∙ sym (take-slice m r (drop (a * block k) xs) long)
      ∙ ap (take (m * k.width)) (sym (drop-slice a (m + r) xs h))

  pub slice-written : (a m r : ℕ) (bs xs : List ℕ) → length xs ≡ (a + (m + r)) * block k → length bs ≡ m * block k
      → slice k j (a + (m + r)) (written (a * block k) bs xs) ≡ written (a * k.width) (slice k j m bs) (slice k j (a + (m + r)) xs)
  slice-written a m r bs xs h g =
      let e : (a + (m + r)) * block k ≡ a * block k + (m * block k + r * block k) = grind arith in
      let tail = drop (a * block k + length bs) xs in
      let first : length (take (a * block k) xs) ≡ a * block k = rw length-take (omega (arith, h, e)) in
      let same : (a + m) + r ≡ a + (m + r) = omega arith in
      let both : (a + m) * block k ≡ a * block k + length bs = (let z : (a + m) * block k ≡ a * block k + m * block k = grind arith in
      omega (arith, z, g)) in
      let wide : (a + m) * k.width ≡ a * k.width + length (slice k j m bs) = (let z : (a + m) * k.width ≡ a * k.width + m * k.width = grind
      arith in
      let y = length-slice m bs (omega (arith, g)) in omega (arith, z, y)) in
      let left : slice k j a (written (a * block k) bs xs) ≡ slice k j a xs =
      slice-left a (take (a * block k) xs) (bs ++ tail) (omega (arith, first)) ∙ slice-take a (a * block k) xs (omega arith) in
      let middle : slice k j (m + r) (bs ++ tail) ≡ slice k j m bs ++ slice k j r tail =
      slice-more m r (bs ++ tail)
      ∙ ap₂ (λ u v. u ++ slice k j r v) (slice-left m bs tail (omega (arith, g))) (drop_at bs tail (m * block k) g) in
      let old : slice k j r tail ≡ drop (a * k.width + length (slice k j m bs)) (slice k j (a + (m + r)) xs) =
      ap (λ n. slice k j r (drop n xs)) (sym both)
      ∙ sym (drop-slice (a + m) r xs (subst (λ n. n * block k ≤ length xs) (sym same) (omega (arith, h))))
      ∙ ap₂ (λ n v. drop n (slice k j v xs)) wide same in
      slice-more a (m + r) (written (a * block k) bs xs)
      ∙ ap₂ (λ u v. u ++ v) (left ∙ sym (take-slice a (m + r) xs (omega (arith, h))))
      (ap (slice k j (m + r)) (drop_at (take (a * block k) xs) (bs ++ tail) (a * block k) first)
      ∙ middle
      ∙ ap (λ v. slice k j m bs ++ v) old)
