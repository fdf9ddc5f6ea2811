-- Slices of lists of elements: of starting values, and of what is combined.
use Rattle.std.proofs.Common.{ℕ, zero, suc, ◌+◌, ◌-◌, ◌*◌, ◌/◌, ◌%◌, ◌≡◌, ◌≤◌, ◌<◌, ◌⊎◌, List, [], ◌++◌, length, take, drop, replicate}
use Rattle.std.proofs.Common.{refl, ap, ap₂, sym, ◌∙◌, arith, append_assoc, take_at, drop_at, mul-div_cancel, div-add-mod', inl, inr}
use Rattle.std.proofs.Math.Nat.{mul-le-mul_right}
use Rattle.std.proofs.lemmas.List.{drop-drop, drop-take, take-take, take-append-le, length-drop, drop-replicate, nil_from_length}
use Rattle.std.proofs.lemmas.List.{take-append-drop}
use Rattle.std.proofs.lemmas.List.{take-replicate, replicate-append-replicate}
use Rattle.ptl_types.specs.declared.elements.AtomicOp.{AtomicOp}
use Rattle.ptl_types.specs.declared.elements.ElemType.{ElemType}
use Rattle.ptl_types.specs.Elements.{by_element, combined, little_endian, part, pattern, repeated, starting}
use Rattle.ptl_types.specs.Operations.{bytes_of, op, start_value}
use Rattle.op_laws.proofs.Bytes.{bytes-pos, length-by_element, length-combined, length-elements_of, length-part}
use Rattle.op_laws.proofs.Bytes.{length-repeated}
use Rattle.plan_slices.specs.declared.cut.Cut.{Cut}
use Rattle.plan_slices.specs.Slices.{block, slice}
use Rattle.plan_slices.proofs.Slices.{in-block, length-slice, next-blocks}

-- ---- element by element
module _ (f : ℕ → ℕ → ℕ) (s : ℕ) where
  by-more : (a b : ℕ) (xs ys : List ℕ)
      → by_element f s (a + b) xs ys ≡ by_element f s a xs ys ++ by_element f s b (drop (a * s) xs) (drop (a * s) ys)
  by-more zero b xs ys =
      ap (λ n. by_element f s n xs ys) (let e : 0 + b ≡ b = omega arith in e)
      ∙ ap (λ n. by_element f s b (drop n xs) (drop n ys)) (let z : 0 ≡ 0 * s = grind arith in z)
  by-more (suc a) b xs ys =
      let e : s + a * s ≡ suc a * s = grind arith in
      let x = little_endian s (f (pattern (take s xs)) (pattern (take s ys))) in
      ap (λ n. by_element f s n xs ys) (let e : suc a + b ≡ suc (a + b) = omega arith in e)
      ∙ ap (λ v. x ++ v)
      (by-more a b (drop s xs) (drop s ys)
      ∙ ap₂ (λ u v. by_element f s a (drop s xs) (drop s ys) ++ by_element f s b u v)
      (drop-drop (a * s) s xs ∙ ap (λ n. drop n xs) e) (drop-drop (a * s) s ys ∙ ap (λ n. drop n ys) e))
      ∙ sym (append_assoc x (by_element f s a (drop s xs) (drop s ys)) (by_element f s b (drop (suc a * s) xs) (drop (suc a * s) ys)))

  drop-by : (a b : ℕ) (xs ys : List ℕ)
      → drop (a * s) (by_element f s (a + b) xs ys) ≡ by_element f s b (drop (a * s) xs) (drop (a * s) ys)
  drop-by a b xs ys =
      ap (drop (a * s)) (by-more a b xs ys)
      ∙ drop_at (by_element f s a xs ys) (by_element f s b (drop (a * s) xs) (drop (a * s) ys)) (a * s) (length-by_element f s a xs ys)

  part-by : (a m r : ℕ) (xs ys : List ℕ)
      → part (a * s) (m * s) (by_element f s (a + (m + r)) xs ys) ≡ by_element f s m (drop (a * s) xs) (drop (a * s) ys)
  part-by a m r xs ys =
      ap (take (m * s)) (drop-by a (m + r) xs ys ∙ by-more m r (drop (a * s) xs) (drop (a * s) ys))
      ∙ take_at (by_element f s m (drop (a * s) xs) (drop (a * s) ys)) _ (m * s) (length-by_element f s m _ _)

  by-take : (a m : ℕ) (xs ys : List ℕ) → a * s ≤ m → by_element f s a (take m xs) (take m ys) ≡ by_element f s a xs ys
  by-take zero m xs ys h = refl
  by-take (suc a) m xs ys h =
      let e : s + a * s ≡ suc a * s = grind arith in
      let z : m ≡ s + (m - s) = omega (arith, h, e) in
      ap₂ (λ u v. little_endian s (f (pattern u) (pattern v)) ++ by_element f s a (drop s (take m xs)) (drop s (take m ys)))
      (take-take s m xs (omega (arith, h, e))) (take-take s m ys (omega (arith, h, e)))
      ∙ ap (λ v. little_endian s (f (pattern (take s xs)) (pattern (take s ys))) ++ v)
      (ap₂ (λ u v. by_element f s a u v)
      (ap (λ n. drop s (take n xs)) z ∙ drop-take s (m - s) xs) (ap (λ n. drop s (take n ys)) z ∙ drop-take s (m - s) ys)
      ∙ by-take a (m - s) (drop s xs) (drop s ys) (omega (arith, h, e)))

  by-left : (a : ℕ) (xs us ys vs : List ℕ) → a * s ≤ length xs → a * s ≤ length ys
      → by_element f s a (xs ++ us) (ys ++ vs) ≡ by_element f s a xs ys
  by-left a xs us ys vs h g =
      sym (by-take a (a * s) (xs ++ us) (ys ++ vs) (omega arith))
      ∙ ap₂ (by_element f s a) (take-append-le (a * s) xs us h) (take-append-le (a * s) ys vs g)
      ∙ by-take a (a * s) xs ys (omega arith)

repeated-more : (s a b x : ℕ) → repeated s (a + b) x ≡ repeated s a x ++ repeated s b x
repeated-more s zero b x = ap (λ n. repeated s n x) (let e : 0 + b ≡ b = omega arith in e)
repeated-more s (suc a) b x =
    ap (λ n. repeated s n x) (let e : suc a + b ≡ suc (a + b) = omega arith in e)
    ∙ ap (λ v. little_endian s x ++ v) (repeated-more s a b x)
    ∙ sym (append_assoc (little_endian s x) (repeated s a x) (repeated s b x))

drop-repeated : (s a b x : ℕ) → drop (a * s) (repeated s (a + b) x) ≡ repeated s b x
drop-repeated s a b x =
    ap (drop (a * s)) (repeated-more s a b x) ∙ drop_at (repeated s a x) (repeated s b x) (a * s) (length-elements_of s a x)

part-repeated : (s a m r x : ℕ) → part (a * s) (m * s) (repeated s (a + (m + r)) x) ≡ repeated s m x
part-repeated s a m r x =
    ap (take (m * s)) (drop-repeated s a (m + r) x ∙ repeated-more s m r x)
    ∙ take_at (repeated s m x) (repeated s r x) (m * s) (length-elements_of s m x)

-- ---- slices, where a piece has v elements of s bytes
module _ (k : Cut) (j : ℕ) (within : j < k.count) where
  pub slice-same : (n m x : ℕ) → n * block k ≤ m → slice k j n (replicate m x) ≡ replicate (n * k.width) x
  slice-same zero m x h = ap (λ n. replicate n x) (let z : 0 ≡ 0 * k.width = grind arith in z)
  slice-same (suc n) m x h =
      let e = next-blocks k j within n in
      let b = in-block k j within in
      ap₂ (λ u v. take k.width u ++ slice k j n v) (drop-replicate (j * k.width) m x) (drop-replicate (block k) m x)
      ∙ ap₂ (λ (u v : List ℕ). u ++ v) (take-replicate k.width (m - j * k.width) x (omega (arith, h, e, b)))
      (slice-same n (m - block k) x (omega (arith, h, e)))
      ∙ replicate-append-replicate k.width (n * k.width) x
      ∙ ap (λ n. replicate n x) (let z : k.width + n * k.width ≡ suc n * k.width = grind arith in z)

  module _ (s v : ℕ) (whole : k.width ≡ v * s) where
    -- the places of a piece and a block in elements
    piece-at : j * k.width ≡ (j * v) * s
    piece-at = ap (λ n. j * n) whole ∙ (let z : j * (v * s) ≡ (j * v) * s = grind arith in z)

    block-is : block k ≡ (k.count * v) * s
    block-is = ap (λ n. k.count * n) whole ∙ (let z : k.count * (v * s) ≡ (k.count * v) * s = grind arith in z)

    -- what stands in a block before and after the piece
    record Around (n all : ℕ) : Type 0 where
      after : ℕ
      is : all ≡ j * v + (v + after)

    around : (n : ℕ) → Around n (suc n * (k.count * v))
    around n =
        let a : suc j * v ≤ k.count * v = mul-le-mul_right v (let z : suc j ≤ k.count = omega (arith, within) in z) in
        let b : suc j * v ≡ j * v + v = grind arith in
        let c : suc n * (k.count * v) ≡ k.count * v + n * (k.count * v) = grind arith in
        record { after = (k.count * v - (j * v + v)) + n * (k.count * v); is = omega (arith, a, b, c) }

    pub slice-repeated : (n x : ℕ) → slice k j n (repeated s (n * (k.count * v)) x) ≡ repeated s (n * v) x
    slice-repeated zero x = ap (λ n. repeated s n x) (let z : 0 ≡ 0 * v = grind arith in z)
    slice-repeated (suc n) x =
        let near = around n in
        let next : suc n * (k.count * v) ≡ k.count * v + n * (k.count * v) = grind arith in
        let first : part (j * k.width) k.width (repeated s (suc n * (k.count * v)) x) ≡ repeated s v x =
        ap (λ m. part (j * k.width) k.width (repeated s m x)) near.is
        ∙ ap₂ (λ a m. part a m (repeated s (j * v + (v + near.after)) x)) piece-at whole
        ∙ part-repeated s (j * v) v near.after x in
        let rest : drop (block k) (repeated s (suc n * (k.count * v)) x) ≡ repeated s (n * (k.count * v)) x =
        ap₂ (λ a m. drop a (repeated s m x)) block-is next ∙ drop-repeated s (k.count * v) (n * (k.count * v)) x in
        ap₂ (λ u w. u ++ slice k j n w) first rest
        ∙ ap (λ w. repeated s v x ++ w) (slice-repeated n x)
        ∙ sym (repeated-more s v (n * v) x)
        ∙ ap (λ m. repeated s m x) (let z : v + n * v ≡ suc n * v = grind arith in z)

    pub slice-by : (f : ℕ → ℕ → ℕ) (n : ℕ) (xs ys : List ℕ) → n * block k ≤ length xs → n * block k ≤ length ys
        → slice k j n (by_element f s (n * (k.count * v)) xs ys) ≡ by_element f s (n * v) (slice k j n xs) (slice k j n ys)
    slice-by f zero xs ys h g = ap (λ n. by_element f s n [] []) (let z : 0 ≡ 0 * v = grind arith in z)
    slice-by f (suc n) xs ys h g =
        let near = around n in
        let e = next-blocks k j within n in
        let b = in-block k j within in
        let next : suc n * (k.count * v) ≡ k.count * v + n * (k.count * v) = grind arith in
        let p = part (j * k.width) k.width in
        let d : List ℕ → List ℕ = λ zs. drop (block k) zs in
        let size : (zs : List ℕ) → suc n * block k ≤ length zs → length (p zs) ≡ v * s =
        λ zs l. length-part (j * k.width) k.width zs (omega (arith, l, e, b)) ∙ whole in
        let long : (zs : List ℕ) → suc n * block k ≤ length zs → n * block k ≤ length (d zs) =
        λ zs l. rw length-drop (omega (arith, l, e)) in
        let one : by_element f s v (p xs) (p ys) ≡ by_element f s v (drop ((j * v) * s) xs) (drop ((j * v) * s) ys) =
        ap₂ (λ a m. by_element f s v (take m (drop a xs)) (take m (drop a ys))) piece-at whole
        ∙ by-take f s v (v * s) (drop ((j * v) * s) xs) (drop ((j * v) * s) ys) (omega arith) in
        let first : p (by_element f s (suc n * (k.count * v)) xs ys) ≡ by_element f s v (p xs) (p ys) =
        ap (λ m. p (by_element f s m xs ys)) near.is
        ∙ ap₂ (λ a m. part a m (by_element f s (j * v + (v + near.after)) xs ys)) piece-at whole
        ∙ part-by f s (j * v) v near.after xs ys ∙ sym one in
        let rest : d (by_element f s (suc n * (k.count * v)) xs ys) ≡ by_element f s (n * (k.count * v)) (d xs) (d ys) =
        ap₂ (λ a m. drop a (by_element f s m xs ys)) block-is next
        ∙ drop-by f s (k.count * v) (n * (k.count * v)) xs ys
        ∙ ap (λ a. by_element f s (n * (k.count * v)) (drop a xs) (drop a ys)) (sym block-is) in
        let right : by_element f s (suc n * v) (p xs ++ slice k j n (d xs)) (p ys ++ slice k j n (d ys))
        ≡ by_element f s v (p xs) (p ys) ++ by_element f s (n * v) (slice k j n (d xs)) (slice k j n (d ys)) =
        ap (λ m. by_element f s m (p xs ++ slice k j n (d xs)) (p ys ++ slice k j n (d ys)))
        (let z : suc n * v ≡ v + n * v = grind arith in z)
        ∙ by-more f s v (n * v) (p xs ++ slice k j n (d xs)) (p ys ++ slice k j n (d ys))
        ∙ ap₂ (λ (u w : List ℕ). u ++ w)
        (by-left f s v (p xs) (slice k j n (d xs)) (p ys) (slice k j n (d ys))
        (let l = size xs h in omega (arith, l)) (let l = size ys g in omega (arith, l)))
        (ap₂ (by_element f s (n * v)) (drop_at (p xs) (slice k j n (d xs)) (v * s) (size xs h))
        (drop_at (p ys) (slice k j n (d ys)) (v * s) (size ys g))) in
        ap₂ (λ u w. u ++ slice k j n w) first rest
        ∙ ap (λ w. by_element f s v (p xs) (p ys) ++ w) (slice-by f n (d xs) (d ys) (long xs h) (long ys g))
        ∙ sym right

-- ---- by elements of a type
-- as many elements as a piece has
pieces : (w s : ℕ) → 0 < s → w % s ≡ 0 → w ≡ w / s * s
pieces w s l e = omega (arith, div-add-mod' w s)

-- one piece a block: the slice is all of it
slice-whole : (k : Cut) (j : ℕ) → k.count ≡ 1 → j < k.count → (n : ℕ) (xs : List ℕ) → length xs ≡ n * block k → slice k j n xs ≡ xs
slice-whole k j one within zero xs e = sym (nil_from_length xs (e ∙ (let z : 0 * block k ≡ 0 = grind arith in z)))
slice-whole k j one within (suc n) xs e =
    let none : j ≡ 0 = omega (arith, one, within) in
    let wide : block k ≡ k.width = ap (λ m. m * k.width) one ∙ (let z : 1 * k.width ≡ k.width = grind arith in z) in
    let next = next-blocks k j within n in
    let first : part (j * k.width) k.width xs ≡ take k.width xs =
    ap (λ m. part m k.width xs) (ap (λ m. m * k.width) none ∙ (let z : 0 * k.width ≡ 0 = grind arith in z)) in
    let long : length (drop (block k) xs) ≡ n * block k = rw length-drop (omega (arith, e, next)) in
    ap₂ (λ (u v : List ℕ). u ++ v) first (slice-whole k j one within n (drop (block k) xs) long ∙ ap (λ m. drop m xs) wide)
    ∙ take-append-drop k.width xs

-- a piece has whole elements, or is all of its block
abbrev pub HasElements : Cut → ElemType → Type 0
HasElements k ty = (k.count ≡ 1) ⊎ (k.width % bytes_of ty ≡ 0)

module _ (k : Cut) (j : ℕ) (within : j < k.count) (o : AtomicOp) (ty : ElemType) where
  all-elements : (n : ℕ) → k.width % bytes_of ty ≡ 0 → n * block k / bytes_of ty ≡ n * (k.count * (k.width / bytes_of ty))
  all-elements n w =
      ap (λ m. m / bytes_of ty)
      (ap (λ m. n * m) (block-is k j within (bytes_of ty) (k.width / bytes_of ty) (pieces k.width (bytes_of ty) (bytes-pos ty) w))
      ∙ (let z : n * ((k.count * (k.width / bytes_of ty)) * bytes_of ty) ≡ (n * (k.count * (k.width / bytes_of ty))) * bytes_of ty = grind
      arith in z))
      ∙ mul-div_cancel (n * (k.count * (k.width / bytes_of ty))) (bytes-pos ty)

  its-elements : (n : ℕ) → k.width % bytes_of ty ≡ 0 → n * k.width / bytes_of ty ≡ n * (k.width / bytes_of ty)
  its-elements n w =
      ap (λ m. m / bytes_of ty)
      (ap (λ m. n * m) (pieces k.width (bytes_of ty) (bytes-pos ty) w)
      ∙ (let z : n * (k.width / bytes_of ty * bytes_of ty) ≡ (n * (k.width / bytes_of ty)) * bytes_of ty = grind arith in z))
      ∙ mul-div_cancel (n * (k.width / bytes_of ty)) (bytes-pos ty)

  one-block : k.count ≡ 1 → (n : ℕ) → n * block k ≡ n * k.width
  one-block one n = ap (λ m. n * (m * k.width)) one ∙ (let z : n * (1 * k.width) ≡ n * k.width = grind arith in z)

  pub slice-starting : HasElements k ty → (n : ℕ) → n * block k % bytes_of ty ≡ 0
      → slice k j n (starting o ty (n * block k)) ≡ starting o ty (n * k.width)
  slice-starting (inl one) n e =
      slice-whole k j one within n (starting o ty (n * block k)) (length-repeated o ty (n * block k) e)
      ∙ ap (starting o ty) (one-block one n)
  slice-starting (inr w) n e =
      ap (λ m. slice k j n (repeated (bytes_of ty) m (start_value o ty))) (all-elements n w)
      ∙ slice-repeated k j within (bytes_of ty) (k.width / bytes_of ty) (pieces k.width (bytes_of ty) (bytes-pos ty) w) n (start_value o ty)
      ∙ ap (λ m. repeated (bytes_of ty) m (start_value o ty)) (sym (its-elements n w))

  pub slice-combined : HasElements k ty → (n : ℕ) (xs ys : List ℕ) → length xs ≡ n * block k → length ys ≡ n * block k
      → n * block k % bytes_of ty ≡ 0 → slice k j n (combined o ty xs ys) ≡ combined o ty (slice k j n xs) (slice k j n ys)
  slice-combined (inl one) n xs ys h g e =
      slice-whole k j one within n (combined o ty xs ys) (length-combined o ty xs ys (ap (λ m. m % bytes_of ty) h ∙ e) ∙ h)
      ∙ ap₂ (combined o ty) (sym (slice-whole k j one within n xs h)) (sym (slice-whole k j one within n ys g))
  slice-combined (inr w) n xs ys h g e =
      ap (λ m. slice k j n (by_element (op o ty) (bytes_of ty) m xs ys)) (ap (λ m. m / bytes_of ty) h ∙ all-elements n w)
      ∙ slice-by k j within (bytes_of ty) (k.width / bytes_of ty) (pieces k.width (bytes_of ty) (bytes-pos ty) w) (op o ty) n xs ys
      (omega (arith, h)) (omega (arith, g))
      ∙ ap (λ m. by_element (op o ty) (bytes_of ty) m (slice k j n xs) (slice k j n ys))
      (sym (ap (λ m. m / bytes_of ty) (length-slice k j within n xs (omega (arith, h))) ∙ its-elements n w))
