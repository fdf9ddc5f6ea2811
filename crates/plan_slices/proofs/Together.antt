-- Lists whose slices are the same.
use Rattle.std.proofs.Common.{ℕ, zero, suc, ◌+◌, ◌-◌, ◌*◌, ◌/◌, ◌%◌, ◌≡◌, ◌≤◌, ◌<◌, List, [], ◌∷◌, ◌++◌, length, take, drop}
use Rattle.std.proofs.Common.{refl, ap, ap₂, sym, subst, ◌∙◌, arith, take_at, drop_at, mul-div_cancel, div-add-mod', mod-lt, inl, inr}
use Rattle.std.proofs.lemmas.Bool.{cases_lt}
use Rattle.std.proofs.lemmas.List.{drop-take, take-append-le, take_all, take-take, length-drop}
use Rattle.std.proofs.Math.Nat.{mul-le-mul_right}
use Rattle.ptl_types.specs.Elements.{part}
use Rattle.op_laws.proofs.Bytes.{length-part}
use Rattle.plan_slices.specs.declared.cut.Cut.{Cut}
use Rattle.plan_slices.specs.Slices.{block, slice, slice_of}
use Rattle.plan_slices.proofs.Slices.{drop-slice, in-block, length-slice, take-slice}
use Rattle.plan_slices.proofs.Landing.{block-pos, fewer, slice-blocks}

-- the first elements are those before a place, and some from there on
abbrev nothing : List ℕ
nothing = []

take-none : (n : ℕ) → take n nothing ≡ nothing
take-none zero = refl
take-none (suc n) = refl

take-more : (a n : ℕ) (xs : List ℕ) → take (a + n) xs ≡ take a xs ++ take n (drop a xs)
take-more zero n xs = ap (λ m. take m xs) (let e : 0 + n ≡ n = omega arith in e)
take-more (suc a) n [] =
    ap (λ m. take m nothing) (let e : suc a + n ≡ suc (a + n) = omega arith in e)
    ∙ sym (take-none n)
take-more (suc a) n (x ∷ xs) = ap (λ m. take m (x ∷ xs)) (let e : suc a + n ≡ suc (a + n) = omega arith in e)
    ∙ ap (λ v. x ∷ v) (take-more a n xs)

-- the pieces one after the other
pieces-same : (w n : ℕ) (xs ys : List ℕ) → ((j : ℕ) → j < n → part (j * w) w xs ≡ part (j * w) w ys) → take (n * w) xs ≡ take (n * w) ys
pieces-same w zero xs ys same =
    let z : 0 * w ≡ 0 = grind arith in
    ap (λ m. take m xs) z ∙ sym (ap (λ m. take m ys) z)
pieces-same w (suc n) xs ys same =
    let z : suc n * w ≡ n * w + w = grind arith in
    ap (λ m. take m xs) z ∙ take-more (n * w) w xs
    ∙ ap₂ (λ (u v : List ℕ). u ++ v) (pieces-same w n xs ys (λ j h. same j (omega (arith, h)))) (same n (omega arith))
    ∙ sym (ap (λ m. take m ys) z ∙ take-more (n * w) w ys)

module _ (k : Cut) where
  -- the first q blocks
  pub blocks-same : (q : ℕ) (xs ys : List ℕ) → q * block k ≤ length xs → q * block k ≤ length ys
      → ((j : ℕ) → j < k.count → slice k j q xs ≡ slice k j q ys) → take (q * block k) xs ≡ take (q * block k) ys
  blocks-same zero xs ys h g same =
      let z : 0 * block k ≡ 0 = grind arith in
      ap (λ m. take m xs) z ∙ sym (ap (λ m. take m ys) z)
  blocks-same (suc q) xs ys h g same =
      let e : suc q * block k ≡ block k + q * block k = grind arith in
      let size : (j : ℕ) → j < k.count → (zs : List ℕ) → suc q * block k ≤ length zs → length (part (j * k.width) k.width zs) ≡ k.width =
      λ j l zs m. length-part (j * k.width) k.width zs (let b = in-block k j l in omega (arith, m, e, b)) in
      let first : (j : ℕ) → j < k.count → part (j * k.width) k.width xs ≡ part (j * k.width) k.width ys =
      λ j l. sym (take_at (part (j * k.width) k.width xs) (slice k j q (drop (block k) xs)) k.width (size j l xs h))
      ∙ ap (take k.width) (same j l)
      ∙ take_at (part (j * k.width) k.width ys) (slice k j q (drop (block k) ys)) k.width (size j l ys g) in
      let rest : (j : ℕ) → j < k.count → slice k j q (drop (block k) xs) ≡ slice k j q (drop (block k) ys) =
      λ j l. sym (drop_at (part (j * k.width) k.width xs) (slice k j q (drop (block k) xs)) k.width (size j l xs h))
      ∙ ap (drop k.width) (same j l)
      ∙ drop_at (part (j * k.width) k.width ys) (slice k j q (drop (block k) ys)) k.width (size j l ys g) in
      ap (λ m. take m xs) e ∙ take-more (block k) (q * block k) xs
      ∙ ap₂ (λ (u v : List ℕ). u ++ v) (pieces-same k.width k.count xs ys first)
      (blocks-same q (drop (block k) xs) (drop (block k) ys) (rw length-drop (omega (arith, h, e))) (rw length-drop (omega (arith, g, e)))
      rest)
      ∙ sym (ap (λ m. take m ys) e ∙ take-more (block k) (q * block k) ys)

  -- the first bytes of the first piece after them
  pub next-same : 0 < k.count → (q n m r : ℕ) (xs ys : List ℕ) → suc (q + n) * block k ≤ length xs → suc (q + m) * block k ≤ length ys
      → r ≤ k.width → take (q * block k) xs ≡ take (q * block k) ys
      → take (q * k.width + r) (slice k 0 (q + suc n) xs) ≡ take (q * k.width + r) (slice k 0 (q + suc m) ys)
      → take (q * block k + r) xs ≡ take (q * block k + r) ys
  next-same some q n m r xs ys h g l before same =
      let at : (n : ℕ) (zs : List ℕ) → suc (q + n) * block k ≤ length zs
      → drop (q * k.width) (take (q * k.width + r) (slice k 0 (q + suc n) zs)) ≡ take r (drop (q * block k) zs) =
      λ n zs u.
      let e : (q + suc n) * block k ≡ q * block k + (block k + n * block k) = grind arith in
      let t : suc (q + n) * block k ≡ q * block k + (block k + n * block k) = grind arith in
      let long : length (part (0 * k.width) k.width (drop (q * block k) zs)) ≡ k.width =
      length-part (0 * k.width) k.width (drop (q * block k) zs)
      (let b = in-block k 0 some in rw length-drop (omega (arith, u, t, b))) in
      drop-take (q * k.width) r (slice k 0 (q + suc n) zs)
      ∙ ap (take r) (drop-slice k 0 some q (suc n) zs (omega (arith, u, e, t)))
      ∙ take-append-le r (part (0 * k.width) k.width (drop (q * block k) zs)) (slice k 0 n (drop (block k) (drop (q * block k) zs)))
      (omega (arith, l, long))
      ∙ ap (λ a. take r (take k.width (drop a (drop (q * block k) zs)))) (let z : 0 * k.width ≡ 0 = grind arith in z)
      ∙ take-take r k.width (drop (q * block k) zs) l in
      take-more (q * block k) r xs
      ∙ ap₂ (λ (u v : List ℕ). u ++ v) before (sym (at n xs h) ∙ ap (drop (q * k.width)) same ∙ at m ys g)
      ∙ sym (take-more (q * block k) r ys)

  -- ---- what all slices tell
  module _ (some : 0 < k.count) (wide : 0 < k.width) (n m : ℕ) (xs ys : List ℕ) (h : length xs ≡ n * block k)
      (g : length ys ≡ m * block k) where
    filled : 0 < block k
    filled = block-pos k some wide

    of-blocks : (j : ℕ) → slice_of k j xs ≡ slice k j n xs
    of-blocks j = slice-blocks k filled j n xs h

    of-others : (j : ℕ) → slice_of k j ys ≡ slice k j m ys
    of-others j = slice-blocks k filled j m ys g

    pub length-of : length (slice_of k 0 xs) ≡ n * k.width
    length-of = ap length (of-blocks 0) ∙ length-slice k 0 some n xs (omega (arith, h))

    pub same-slices : ((j : ℕ) → j < k.count → slice_of k j xs ≡ slice_of k j ys) → xs ≡ ys
    same-slices same =
        let e : n * k.width ≡ m * k.width =
        sym length-of ∙ ap length (same 0 some) ∙ ap length (of-others 0) ∙ length-slice k 0 some m ys (omega (arith, g)) in
        let many : n ≡ m = sym (mul-div_cancel n wide) ∙ ap (λ x. x / k.width) e ∙ mul-div_cancel m wide in
        let long : length ys ≡ n * block k = g ∙ ap (λ x. x * block k) (sym many) in
        sym (take_all (n * block k) xs (omega (arith, h)))
        ∙ blocks-same n xs ys (omega (arith, h)) (omega (arith, long))
        (λ j l. sym (of-blocks j) ∙ same j l ∙ of-others j ∙ ap (λ x. slice k j x ys) (sym many))
        ∙ take_all (n * block k) ys (omega (arith, long))

    -- so many bytes of each slice
    module _ (shared : ℕ) (within : shared ≤ n * k.width) (below : shared ≤ m * k.width)
        (same : (j : ℕ) → j < k.count → take shared (slice_of k j xs) ≡ take shared (slice_of k j ys)) where
      whole : ℕ
      whole = shared / k.width

      parts : whole * k.width + shared % k.width ≡ shared
      unfolding whole
      parts = div-add-mod' shared k.width

      few : (all : ℕ) → shared ≤ all * k.width → whole ≤ all
      few all u = fewer k.width whole all wide (let e = parts in omega (arith, e, u))

      -- the slices of the first whole blocks
      first-blocks : (all j : ℕ) (zs : List ℕ) → j < k.count → length zs ≡ all * block k → shared ≤ all * k.width
          → take (whole * k.width) (take shared (slice k j all zs)) ≡ slice k j whole zs
      first-blocks all j zs l e u =
          let rest : whole + (all - whole) ≡ all = (let f = few all u in omega (arith, f)) in
          take-take (whole * k.width) shared (slice k j all zs) (let e = parts in omega (arith, e))
          ∙ ap (λ x. take (whole * k.width) (slice k j x zs)) (sym rest)
          ∙ take-slice k j l whole (all - whole) zs (subst (λ x. x * block k ≤ length zs) (sym rest) (omega (arith, e)))

      same-blocks : take (whole * block k) xs ≡ take (whole * block k) ys
      same-blocks =
          blocks-same whole xs ys
          (let l = mul-le-mul_right (block k) (few n within) in omega (arith, l, h))
          (let l = mul-le-mul_right (block k) (few m below) in omega (arith, l, g))
          (λ j l. sym (first-blocks n j xs l h within)
          ∙ ap (λ v. take (whole * k.width) (take shared v)) (sym (of-blocks j))
          ∙ ap (take (whole * k.width)) (same j l)
          ∙ ap (λ v. take (whole * k.width) (take shared v)) (of-others j)
          ∙ first-blocks m j ys l g below)

      -- a block more, where some bytes are left
      one-more : (all r : ℕ) → whole * k.width + suc r ≡ shared → shared ≤ all * k.width → whole + suc (all - suc whole) ≡ all
      one-more all r e u =
          let f = few all u in
          elim (cases_lt whole all) [
            | inl l ↦ omega (arith, l)
            | inr l ↦
                let same : whole ≡ all = omega (arith, f, l) in
                let z : whole * k.width ≡ all * k.width = ap (λ x. x * k.width) same in
                absurd (omega (arith, e, u, z))
          ]

      some-left : (r : ℕ) → r ≡ shared % k.width → take (whole * block k + r) xs ≡ take (whole * block k + r) ys
      some-left zero e =
          let z : whole * block k + 0 ≡ whole * block k = omega arith in
          ap (λ x. take x xs) z ∙ same-blocks ∙ sym (ap (λ x. take x ys) z)
      some-left (suc r) e =
          let all : whole * k.width + suc r ≡ shared = ap (λ x. whole * k.width + x) e ∙ parts in
          let a = one-more n r all within in
          let b = one-more m r all below in
          let lower : suc r ≤ k.width = (let l = mod-lt shared wide in omega (arith, l, e)) in
          next-same some whole (n - suc whole) (m - suc whole) (suc r) xs ys
          (let z : suc (whole + (n - suc whole)) ≡ n = omega (arith, a) in subst (λ x. x * block k ≤ length xs) (sym z) (omega (arith, h)))
          (let z : suc (whole + (m - suc whole)) ≡ m = omega (arith, b) in subst (λ x. x * block k ≤ length ys) (sym z) (omega (arith, g)))
          lower same-blocks
          (ap₂ (λ x y. take x (slice k 0 y xs)) all a
          ∙ ap (take shared) (sym (of-blocks 0))
          ∙ same 0 some
          ∙ ap (take shared) (of-others 0)
          ∙ sym (ap₂ (λ x y. take x (slice k 0 y ys)) all b))

      pub same-first : take (shared / k.width * block k + shared % k.width) xs ≡ take (shared / k.width * block k + shared % k.width) ys
      unfolding whole
      same-first = some-left (shared % k.width) refl
