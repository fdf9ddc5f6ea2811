-- Parts of a list of bytes, and what is written over them.
use Rattle.std.proofs.Common.{ℕ, zero, suc, ◌+◌, ◌*◌, ◌/◌, ◌%◌, ◌≡◌, ◌≤◌, ◌<◌, List, refl, length, drop, ap, ◌∙◌, arith, rules, lit<}
use Rattle.std.proofs.Common.{div-add-mod'}
use Rattle.std.proofs.lemmas.List.{places, same_lists, length-append, length-take, length-drop, take_all}
use Rattle.ptl_types.specs.Elements.{by_element, combined, little_endian, part, repeated, starting, written}
use Rattle.ptl_types.specs.Operations.{bytes_of, op, start_value}
use Rattle.ptl_types.specs.declared.elements.AtomicOp.{AtomicOp}
use Rattle.ptl_types.specs.declared.elements.ElemType.{ElemType}
use Rattle.ptl_types.specs.declared.elements.ElemType.TheVariants.{I16, I32, I64, I8, U16, U32, U64, U8}

pub length-part : (at n : ℕ) (xs : List ℕ) → at + n ≤ length xs → length (part at n xs) ≡ n
length-part at n xs h = rw (length-take, length-drop) (omega arith)

pub length-written : (at : ℕ) (bs xs : List ℕ) → at + length bs ≤ length xs → length (written at bs xs) ≡ length xs
length-written at bs xs h = rw (length-append, length-append, length-take, length-drop) (omega arith)

pub written-apart : (at : ℕ) (bs : List ℕ) (to : ℕ) (cs xs : List ℕ) → at + length bs ≤ to → to + length cs ≤ length xs →
    written at bs (written to cs xs) ≡ written to cs (written at bs xs)
written-apart at bs to cs xs h k = same_lists _ _ (search (rules, places)) (λ i d l. grind (arith, places))

pub written_all : (bs xs : List ℕ) → length bs ≡ length xs → written 0 bs xs ≡ bs
written_all bs xs e = same_lists _ _ (search (rules, places)) (λ i d l. grind (arith, places))

pub part_all : (n : ℕ) (xs : List ℕ) → length xs ≡ n → part 0 n xs ≡ xs
part_all n xs e = take_all n xs (omega arith)

pub length-little_endian : (n x : ℕ) → length (little_endian n x) ≡ n
length-little_endian zero x = refl
length-little_endian (suc n) x = ap suc (length-little_endian n (x / 256))

pub length-by_element : (f : ℕ → ℕ → ℕ) (w n : ℕ) (xs ys : List ℕ) → length (by_element f w n xs ys) ≡ n * w
length-by_element f w zero xs ys = omega arith
length-by_element f w (suc n) xs ys = rw (length-append, length-little_endian, length-by_element f w n (drop w xs) (drop w ys))
    (omega arith)

pub bytes-pos : (ty : ElemType) → 0 < bytes_of ty
bytes-pos U8 = lit< tt
bytes-pos I8 = lit< tt
bytes-pos U16 = lit< tt
bytes-pos I16 = lit< tt
bytes-pos U32 = lit< tt
bytes-pos I32 = lit< tt
bytes-pos U64 = lit< tt
bytes-pos I64 = lit< tt

whole : (n w : ℕ) → 0 < w → n % w ≡ 0 → n / w * w ≡ n
whole n w l e = omega (arith, div-add-mod' n w)

pub length-combined : (o : AtomicOp) (ty : ElemType) (xs ys : List ℕ) → length xs % bytes_of ty ≡ 0 →
    length (combined o ty xs ys) ≡ length xs
length-combined o ty xs ys e = length-by_element (op o ty) (bytes_of ty) (length xs / bytes_of ty) xs ys
    ∙ whole (length xs) (bytes_of ty) (bytes-pos ty) e

pub length-elements_of : (w n x : ℕ) → length (repeated w n x) ≡ n * w
length-elements_of w zero x = omega arith
length-elements_of w (suc n) x = rw (length-append, length-little_endian, length-elements_of w n x) (omega arith)

pub length-repeated : (o : AtomicOp) (ty : ElemType) (n : ℕ) → n % bytes_of ty ≡ 0 → length (starting o ty n) ≡ n
length-repeated o ty n e = length-elements_of (bytes_of ty) (n / bytes_of ty) (start_value o ty) ∙ whole n (bytes_of ty) (bytes-pos ty) e
