-- What came upon starting values may be joined in their place: op(x, op(e, d)) = op(x, d).
use Rattle.std.proofs.Common.{ℕ, zero, suc, ◌/◌, ◌^◌, ◌≡◌, ◌<◌, List, ◌++◌, refl, length, take, drop, ap, ap₂, ◌∙◌, sym, subst, take_at}
use Rattle.std.proofs.Common.{drop_at, mul-div_cancel}
use Rattle.ptl_types.specs.Operations.{bytes_of, op, span, start_value}
use Rattle.ptl_types.specs.Elements.{by_element, little_endian, pattern, repeated, starting}
use Rattle.op_laws.specs.Combining.{CombineStarts}
use Rattle.op_laws.proofs.Bytes.{bytes-pos, length-elements_of, length-little_endian}
use Rattle.op_laws.proofs.Swaps.{pattern-little, pattern-lt, span-is}
use Rattle.op_laws.proofs.OpLaws.{absorbs, op-below, start-lt}

-- ---- element by element
module _ (f : ℕ → ℕ → ℕ) (w e : ℕ) (small : e < 256 ^ w)
    (starts : (x d : ℕ) → x < 256 ^ w → d < 256 ^ w → f x (f e d) ≡ f x d)
    (below : (x a : ℕ) → x < 256 ^ w → a < 256 ^ w → f x a < 256 ^ w) where
  repeated-start : (n : ℕ) (xs ds : List ℕ) → by_element f w n xs (by_element f w n (repeated w n e) ds) ≡ by_element f w n xs ds
  repeated-start zero xs ds = refl
  repeated-start (suc n) xs ds =
      let d = pattern (take w ds) in
      let inner : by_element f w (suc n) (repeated w (suc n) e) ds ≡ little_endian w (f e (pattern (take w ds))) ++ by_element f w n
      (repeated w n e) (drop w ds) =
      ap₂ (λ v rest. little_endian w (f (pattern v) (pattern (take w ds))) ++ by_element f w n rest (drop w ds))
      (take_at (little_endian w e) (repeated w n e) w (length-little_endian w e))
      (drop_at (little_endian w e) (repeated w n e) w (length-little_endian w e))
      ∙ ap (λ v. little_endian w (f v (pattern (take w ds))) ++ by_element f w n (repeated w n e) (drop w ds)) (pattern-little w e small) in
      ap (λ v. by_element f w (suc n) xs v) inner
      ∙ ap₂ (λ v rest. little_endian w (f (pattern (take w xs)) (pattern v)) ++ by_element f w n (drop w xs) rest)
      (take_at (little_endian w (f e (pattern (take w ds)))) (by_element f w n (repeated w n e) (drop w ds)) w (length-little_endian w _))
      (drop_at (little_endian w (f e (pattern (take w ds)))) (by_element f w n (repeated w n e) (drop w ds)) w (length-little_endian w _))
      ∙ ap₂ (λ v rest. little_endian w v ++ rest)
      (ap (f (pattern (take w xs))) (pattern-little w (f e (pattern (take w ds))) (below e (pattern (take w ds)) small (pattern-lt w ds)))
      ∙ starts (pattern (take w xs)) (pattern (take w ds)) (pattern-lt w xs) (pattern-lt w ds))
      (repeated-start n (drop w xs) (drop w ds))

pub combined-starts : CombineStarts
combined-starts o ty x d size =
    let w = bytes_of ty in
    let n : length (starting o ty (length d)) / bytes_of ty ≡ length x / bytes_of ty =
    ap (λ m. m / bytes_of ty) (length-elements_of (bytes_of ty) (length d / bytes_of ty) (start_value o ty))
    ∙ mul-div_cancel (length d / bytes_of ty) (bytes-pos ty) ∙ ap (λ m. m / bytes_of ty) (sym size) in
    ap₂ (λ m k. by_element (op o ty) (bytes_of ty) (length x / bytes_of ty) x
    (by_element (op o ty) (bytes_of ty) m (repeated (bytes_of ty) k (start_value o ty)) d)) n (ap (λ m. m / bytes_of ty) (sym size))
    ∙ repeated-start (op o ty) (bytes_of ty) (start_value o ty) (subst (λ v. start_value o ty < v) (span-is ty) (start-lt o ty))
    (λ x d i j. absorbs o ty x d (up i) (up j))
    (λ x a i j. subst (λ v. op o ty x a < v) (span-is ty) (op-below o ty x a (up i) (up j)))
    (length x / bytes_of ty) x d
  where
    up : {n : ℕ} → n < 256 ^ bytes_of ty → n < span ty
    up {n} l = subst (λ v. n < v) (sym (span-is ty)) l
