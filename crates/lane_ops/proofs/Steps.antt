-- One step of a loop over elements.
use Rattle.std.proofs.Common.{ℕ, suc, ◌+◌, ◌-◌, ◌*◌, ◌≡◌, ◌≤◌, ◌<◌, List, ◌++◌, length, take, drop, ap, sym, ◌∙◌, arith}
use Rattle.std.proofs.Math.Nat.{add-mul, mul-le-mul_right}
use Rattle.std.proofs.lemmas.List.{length-append, length-take-le, take_at, drop_at, drop-drop, append_assoc}
use Rattle.ptl_types.specs.Elements.{by_element, little_endian, part, pattern, repeated, written}
use Rattle.lane_ops.specs.Places.{combined_at}
use Rattle.op_laws.proofs.Bytes.{length-little_endian}

-- the element after the first i
next : (i w : ℕ) → (i + 1) * w ≡ i * w + w
next i w = add-mul i 1 w ∙ (let e : i * w + 1 * w ≡ i * w + w = omega arith in e)

within : (i n w : ℕ) → i < n → i * w + w ≤ n * w
within i n w lt = let e = next i w in let le : (i + 1) * w ≤ n * w = mul-le-mul_right w (omega (arith, lt)) in omega (arith, e, le)

-- after a write of the bytes of one element after the first `at` bytes
take-written : (at n : ℕ) (bs xs : List ℕ) → at ≤ length xs → n ≡ at + length bs → take n (written at bs xs) ≡ take at xs ++ bs
take-written at n bs xs le e =
    ap (take n) (sym (append_assoc (take at xs) bs (drop (at + length bs) xs)))
    ∙ take_at (take at xs ++ bs) (drop (at + length bs) xs) n (omega (arith, e, length-append (take at xs) bs, length-take-le at xs le))

drop-written : (at n : ℕ) (bs xs : List ℕ) → at ≤ length xs → n ≡ at + length bs → drop n (written at bs xs) ≡ drop n xs
drop-written at n bs xs le e =
    ap (drop n) (sym (append_assoc (take at xs) bs (drop (at + length bs) xs)))
    ∙ drop_at (take at xs ++ bs) (drop (at + length bs) xs) n (omega (arith, e, length-append (take at xs) bs, length-take-le at xs le))
    ∙ ap (λ m. drop m xs) (sym e)

pub fills : (w x i n : ℕ) (xs : List ℕ) → i < n → n * w ≤ length xs → take (i * w) xs ++ repeated w (n - i) x ≡ take ((i + 1) * w)
    (written (i * w) (little_endian w x) xs) ++ repeated w (n - (i + 1)) x
fills w x i n xs lt fits =
    let more : n - i ≡ suc (n - (i + 1)) = omega (arith, lt) in
    let in_range : i * w ≤ length xs = omega (arith, within i n w lt, fits) in
    let end : (i + 1) * w ≡ i * w + length (little_endian w x) = omega (arith, next i w, length-little_endian w x) in
    rw (more, take-written (i * w) ((i + 1) * w) (little_endian w x) xs in_range end)
    (sym (append_assoc (take (i * w) xs) (little_endian w x) (repeated w (n - (i + 1)) x)))

pub combines : (f : ℕ → ℕ → ℕ) (w i n : ℕ) (xs ys : List ℕ) → i < n → n * w ≤ length xs →
    take (i * w) xs ++ by_element f w (n - i) (drop (i * w) xs) (drop (i * w) ys) ≡ take ((i + 1) * w) (combined_at f w i xs ys) ++
    by_element f w (n - (i + 1)) (drop ((i + 1) * w) (combined_at f w i xs ys)) (drop ((i + 1) * w) ys)
combines f w i n xs ys lt fits =
    let bs : List ℕ = little_endian w (f (pattern (part (i * w) w xs)) (pattern (part (i * w) w ys))) in
    let more : n - i ≡ suc (n - (i + 1)) = omega (arith, lt) in
    let in_range : i * w ≤ length xs = omega (arith, within i n w lt, fits) in
    let end : (i + 1) * w ≡ i * w + length bs = omega (
      arith,
      next i w,
      length-little_endian w (f (pattern (part (i * w) w xs)) (pattern (part (i * w) w ys))),
    ) in
    let on : (zs : List ℕ) → drop w (drop (i * w) zs) ≡ drop ((i + 1) * w) zs = λ zs. drop-drop w (i * w) zs
    ∙ ap (λ m. drop m zs) (sym (next i w)) in
    rw (more, take-written (i * w) ((i + 1) * w) bs xs in_range end, drop-written (i * w) ((i + 1) * w) bs xs in_range end, on xs, on ys)
    (sym (append_assoc (take (i * w) xs) bs (by_element f w (n - (i + 1)) (drop ((i + 1) * w) xs) (drop ((i + 1) * w) ys))))
