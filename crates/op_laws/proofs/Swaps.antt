-- The law at lists, from the law at numbers.
use Rattle.std.proofs.Common.{ℕ, zero, suc, ◌/◌, ◌^◌, ◌≡◌, ◌<◌, List, [], ◌∷◌, ◌++◌, refl, length, take, drop, ap, ap₂, ◌∙◌, sym, subst}
use Rattle.std.proofs.Common.{arith, take_at, drop_at, mul-div_cancel, lit<, pow-suc}
use Rattle.ptl_types.specs.declared.elements.AtomicOp.{AtomicOp}
use Rattle.ptl_types.specs.declared.elements.ElemType.{ElemType}
use Rattle.ptl_types.specs.declared.elements.ElemType.TheVariants.{I16, I32, I64, I8, U16, U32, U64, U8}
use Rattle.ptl_types.specs.Operations.{bytes_of, op, span}
use Rattle.ptl_types.specs.Elements.{by_element, combined, little_endian, pattern}
use Rattle.op_laws.specs.Combining.{CombineSwaps}
use Rattle.op_laws.proofs.Bytes.{bytes-pos, length-by_element, length-little_endian}

-- op at numbers: op(op(x, a), b) = op(op(x, b), a), and a value is one of the type
pub record OpSwaps : Type 0 where
  pub swaps : (o : AtomicOp) (ty : ElemType) (x a b : ℕ) → x < span ty → a < span ty → b < span ty →
      op o ty (op o ty x a) b ≡ op o ty (op o ty x b) a
  pub below : (o : AtomicOp) (ty : ElemType) (x a : ℕ) → x < span ty → a < span ty → op o ty x a < span ty

pub pos : (w : ℕ) → 0 < 256 ^ w
pos zero = lit< tt
pos (suc w) = let h = pos w in let e = pow-suc 256 w in omega (arith, h, e)

pub pattern-lt : (w : ℕ) (xs : List ℕ) → pattern (take w xs) < 256 ^ w
pattern-lt zero xs = lit< tt
pattern-lt (suc w) [] = pos (suc w)
pattern-lt (suc w) (x ∷ xs) = let h = pattern-lt w xs in let e = pow-suc 256 w in omega (arith, h, e)

pub pattern-little : (w x : ℕ) → x < 256 ^ w → pattern (little_endian w x) ≡ x
pattern-little zero x h = omega (arith, h)
pattern-little (suc w) x h =
    let e = pow-suc 256 w in
    let i : x / 256 < 256 ^ w = omega (arith, h, e) in
    let k = pattern-little w (x / 256) i in
    omega (arith, k)

-- element by element
module _ (f : ℕ → ℕ → ℕ) (w : ℕ)
    (swaps : (x a b : ℕ) → x < 256 ^ w → a < 256 ^ w → b < 256 ^ w → f (f x a) b ≡ f (f x b) a)
    (below : (x a : ℕ) → x < 256 ^ w → a < 256 ^ w → f x a < 256 ^ w) where
  repeated-swap : (n : ℕ) (xs us vs : List ℕ) → by_element f w n (by_element f w n xs us) vs ≡ by_element f w n (by_element f w n xs vs) us
  repeated-swap zero xs us vs = refl
  repeated-swap (suc n) xs us vs =
      let x = pattern (take w xs) in
      let a = pattern (take w us) in
      let b = pattern (take w vs) in
      let rest : List ℕ → List ℕ = λ ys. by_element f w n (drop w xs) (drop w ys) in
      let half : (ys zs : List ℕ) → by_element f w (suc n) (by_element f w (suc n) xs ys) zs ≡ little_endian w
      (f (f (pattern (take w xs)) (pattern (take w ys))) (pattern (take w zs))) ++ by_element f w n
      (by_element f w n (drop w xs) (drop w ys)) (drop w zs) =
      (λ ys zs.
      ap₂ (λ first later. little_endian w (f (pattern first) (pattern (take w zs))) ++ by_element f w n later (drop w zs))
      (take_at (little_endian w (f (pattern (take w xs)) (pattern (take w ys)))) (by_element f w n (drop w xs) (drop w ys)) w
      (length-little_endian w _))
      (drop_at (little_endian w (f (pattern (take w xs)) (pattern (take w ys)))) (by_element f w n (drop w xs) (drop w ys)) w
      (length-little_endian w _))
      ∙ ap (λ v. little_endian w (f v (pattern (take w zs))) ++ by_element f w n (by_element f w n (drop w xs) (drop w ys)) (drop w zs))
      (pattern-little w (f (pattern (take w xs)) (pattern (take w ys))) (below _ _ (pattern-lt w xs) (pattern-lt w ys)))) in
      half us vs
      ∙ ap₂ (λ v later. little_endian w v ++ later) (swaps _ _ _ (pattern-lt w xs) (pattern-lt w us) (pattern-lt w vs))
      (repeated-swap n (drop w xs) (drop w us) (drop w vs))
      ∙ sym (half vs us)

pub span-is : (ty : ElemType) → span ty ≡ 256 ^ bytes_of ty
span-is U8 = refl
span-is I8 = refl
span-is U16 = refl
span-is I16 = refl
span-is U32 = refl
span-is I32 = refl
span-is U64 = refl
span-is I64 = refl

pub combined-swaps : OpSwaps → CombineSwaps
combined-swaps h o ty x a b =
    let w = bytes_of ty in
    let same : (y : List ℕ) → length (combined o ty x y) / bytes_of ty ≡ length x / bytes_of ty =
    (λ y. ap (λ n. n / bytes_of ty) (length-by_element (op o ty) (bytes_of ty) (length x / bytes_of ty) x y)
    ∙ mul-div_cancel (length x / bytes_of ty) (bytes-pos ty)) in
    ap (λ n. by_element (op o ty) (bytes_of ty) n (combined o ty x a) b) (same a)
    ∙ repeated-swap (op o ty) (bytes_of ty)
    (λ x a b i j k. h.swaps o ty x a b (up i) (up j) (up k))
    (λ x a i j. subst (λ n. op o ty x a < n) (span-is ty) (h.below o ty x a (up i) (up j)))
    (length x / bytes_of ty) x a b
    ∙ sym (ap (λ n. by_element (op o ty) (bytes_of ty) n (combined o ty x b) a) (same b))
  where
    up : {n : ℕ} → n < 256 ^ bytes_of ty → n < span ty
    up {n} l = subst (λ v. n < v) (sym (span-is ty)) l
