-- A value and a data line have one spelling.
use Rattle.std.proofs.Common.{◌≡◌, ℕ, zero, suc, ◌+◌, ◌-◌, ◌*◌, ◌/◌, ◌%◌, ◌<◌, ◌≤◌, ◌^◌, List, [], ◌∷◌, ◌++◌, length, take, drop, Option}
use Rattle.std.proofs.Common.{Some, None, Ok, Err, Bool, true, false, cond, ◌&&◌, not, refl, sym, ap, ◌∙◌, arith, map, subst, length-append}
use Rattle.std.specs.Prelude.{option_map, nat_lt, nat_le, ◌==◌, All}
use Rattle.std.specs.List.{list_any}
use Rattle.std.specs.Fmt.{decimal}
use Rattle.std.proofs.lemmas.Bool.Decides.{nat_tests}
use Rattle.std.proofs.lemmas.Grind.{common_steps}
use Rattle.std.proofs.lemmas.List.Elements.{All-nil, All-cons, All-append}
use Rattle.op_laws.proofs.Bytes.{length-little_endian}
use Rattle.op_laws.proofs.Swaps.{pattern-little, span-is}
use Rattle.ptl_types.specs.declared.elements.ElemType.{ElemType}
use Rattle.ptl_types.specs.declared.elements.ElemType.TheVariants as types
use Rattle.ptl_types.specs.Operations.{bytes_of, is_signed, span}
use Rattle.ptl_types.specs.Elements.{pattern, little_endian}
use Rattle.coll_text.specs.Text.{number_of, is_empty}
use Rattle.coll_text.specs.Elements.{half, value_word, first_elements, elements}
use Rattle.coll_text.specs.Values.{too_large, unsigned_of, negative_of, value_of, all_values, or_no_value, data_line}
use Rattle.coll_text.specs.declared.values.Flaw.TheVariants.{Malformed}
use Rattle.coll_text.proofs.Writes.{whole_elements}
use Rattle.coll_text.proofs.Spelled.{both, chosen, mapped, then, number_spelled}

pub spans : (ty : ElemType) → span ty ≤ 2 ^ 64
spans types.U8 = omega arith
spans types.I8 = omega arith
spans types.U16 = omega arith
spans types.I16 = omega arith
spans types.U32 = omega arith
spans types.I32 = omega arith
spans types.U64 = omega arith
spans types.I64 = omega arith

some_is : {T : Type 0} (a b : T) → Some a ≡ Some b → a ≡ b
some_is a b e = cc

below : (m high : ℕ) → nat_le m high ≡ true → m ≤ high
below m high h = grind (arith, nat_tests)

strictly : (m high : ℕ) → nat_lt m high ≡ true → m < high
strictly m high h = grind (arith, nat_tests)

is_le : (m high : ℕ) → m ≤ high → nat_le m high ≡ true
is_le m high h = grind (arith, nat_tests)

not_le : (m high : ℕ) → high < m → nat_le m high ≡ false
not_le m high h = grind (arith, nat_tests)

-- a value after `-`: its digits' number, and its bit pattern
record Negative (ty : ElemType) (w : List ℕ) (v n : ℕ) : Type 0 where
  is : number_of w ≡ Some n
  above : 0 < n
  most : n ≤ half ty
  pattern_is : span ty - n ≡ v

negative : (ty : ElemType) (w : List ℕ) (v : ℕ) → negative_of ty w ≡ Some v → (n : ℕ) × Negative ty w v n
negative ty w v h =
    let a = then (λ n. cond (nat_lt 0 n && nat_le n (half ty)) (Some (span ty - n)) None) (number_of w) v h in
    let c = chosen (nat_lt 0 a.0 && nat_le a.0 (half ty)) (Some (span ty - a.0)) v a.2 in
    let p = both (nat_lt 0 a.0) (nat_le a.0 (half ty)) c.0 in
    (a.0, record { is = a.1; above = strictly 0 a.0 p.0; most = below a.0 (half ty) p.1; pattern_is = some_is (span ty - a.0) v c.1 })

negative_spelled : (ty : ElemType) (w : List ℕ) (v : ℕ) → is_signed ty ≡ true → negative_of ty w ≡ Some v → 45 ∷ w ≡ value_word ty v
negative_spelled ty w v signed h =
    let a = negative ty w v h in
    let most = a.1.most in
    let fits = spans ty in
    let spelled : w ≡ decimal a.0 = number_spelled a.0 w (omega (arith, most, fits)) a.1.is in
    let test : nat_le (half ty) (span ty - a.0) ≡ true = is_le (half ty) (span ty - a.0) (omega (arith, most)) in
    ap (λ x. 45 ∷ x) (spelled ∙ ap decimal (sym (twice a.0 (span ty) most)))
    ∙ sym (ap (λ t. cond t (45 ∷ decimal (span ty - (span ty - a.0))) (decimal (span ty - a.0)))
    (ap (λ s. s && nat_le (half ty) (span ty - a.0)) signed ∙ test))
    ∙ ap (value_word ty) a.1.pattern_is
  where
    twice : (n s : ℕ) → n ≤ s / 2 → s - (s - n) ≡ n
    twice n s le = omega arith

unsigned_spelled : (ty : ElemType) (w : List ℕ) (v : ℕ) → unsigned_of ty w ≡ Some v → w ≡ value_word ty v
unsigned_spelled ty w v h =
    let a = then (λ n. cond (nat_lt n (too_large ty)) (Some n) None) (number_of w) v h in
    let c = chosen (nat_lt a.0 (too_large ty)) (Some a.0) v a.2 in
    let e : a.0 ≡ v = some_is a.0 v c.1 in
    let lt : a.0 < too_large ty = strictly a.0 (too_large ty) c.0 in
    go (is_signed ty) a.0 (span ty) (spans ty) lt (λ small. number_spelled a.0 w small a.1) ∙ ap (value_word ty) e
  where
    go : (s : Bool) (n h : ℕ) → h ≤ 2 ^ 64 → n < cond s (h / 2) h → (n < 2 ^ 64 → w ≡ decimal n) →
        w ≡ cond (s && nat_le (h / 2) n) (45 ∷ decimal (h - n)) (decimal n)
    go true n h fits lt f = f (omega (arith, fits, lt)) ∙ sym (ap (λ t. cond t (45 ∷ decimal (h - n)) (decimal n)) (not_le (h / 2) n lt))
    go false n h fits lt f = f (omega (arith, fits, lt))

pub value_spelled : (ty : ElemType) (w : List ℕ) (v : ℕ) → value_of ty w ≡ Some v → w ≡ value_word ty v
unfolding value_of
value_spelled ty [] v h = cc
value_spelled ty (b ∷ bs) v h = go (is_signed ty) (b == 45) (λ s. negative_spelled ty bs v s) (unsigned_spelled ty (b ∷ bs) v)
    (λ e. is_eq b e) refl h
  where
    is_eq : (b : ℕ) → b == 45 ≡ true → b ≡ 45
    is_eq b e = grind (arith, nat_tests)

    go : (s t : Bool) → (is_signed ty ≡ true → negative_of ty bs ≡ Some v → 45 ∷ bs ≡ value_word ty v) →
        (unsigned_of ty (b ∷ bs) ≡ Some v → b ∷ bs ≡ value_word ty v) → (t ≡ true → b ≡ 45) → is_signed ty ≡ s
        → cond (s && t) (negative_of ty bs) (unsigned_of ty (b ∷ bs)) ≡ Some v → b ∷ bs ≡ value_word ty v
    go true true neg pos eq signed h = ap (λ c. c ∷ bs) (eq refl) ∙ neg signed h
    go true false neg pos eq signed h = pos h
    go false t neg pos eq signed h = pos h

-- a value is a bit pattern of the type
negative_small : (ty : ElemType) (w : List ℕ) (v : ℕ) → negative_of ty w ≡ Some v → v < span ty
negative_small ty w v h =
    let a = negative ty w v h in
    let above = a.1.above in
    let most = a.1.most in
    let is = a.1.pattern_is in
    omega (arith, above, most, is)

unsigned_small : (ty : ElemType) (w : List ℕ) (v : ℕ) → unsigned_of ty w ≡ Some v → v < span ty
unsigned_small ty w v h =
    let a = then (λ n. cond (nat_lt n (too_large ty)) (Some n) None) (number_of w) v h in
    let c = chosen (nat_lt a.0 (too_large ty)) (Some a.0) v a.2 in
    let e : a.0 ≡ v = some_is a.0 v c.1 in
    go (is_signed ty) v (span ty) (subst (λ n. n < too_large ty) e (strictly a.0 (too_large ty) c.0))
  where
    go : (s : Bool) (v h : ℕ) → v < cond s (h / 2) h → v < h
    go true v h lt = omega arith
    go false v h lt = lt

pub value_small : (ty : ElemType) (w : List ℕ) (v : ℕ) → value_of ty w ≡ Some v → v < span ty
unfolding value_of
value_small ty [] v h = cc
value_small ty (b ∷ bs) v h = go (is_signed ty && b == 45) h
  where
    go : (t : Bool) → cond t (negative_of ty bs) (unsigned_of ty (b ∷ bs)) ≡ Some v → v < span ty
    go true h = negative_small ty bs v h
    go false h = unsigned_small ty (b ∷ bs) v h

-- an element's bytes stand at the front, and the others after them
take_front : (n : ℕ) (xs ys : List ℕ) → length xs ≡ n → take n (xs ++ ys) ≡ xs
take_front n xs ys e = grind (arith, common_steps)

drop_front : (n : ℕ) (xs ys : List ℕ) → length xs ≡ n → drop n (xs ++ ys) ≡ ys
drop_front n xs ys e = grind (arith, common_steps)

bytes_small : (n x : ℕ) → All (λ b. b < 256) (little_endian n x)
bytes_small zero x = All-nil (λ b. b < 256)
bytes_small (suc n) x = All-cons (λ b. b < 256) (x % 256) (little_endian n (x / 256)) (omega arith) (bytes_small n (x / 256))

-- what the words of a data line are
pub record WordsSaid (ty : ElemType) (ws : List (List ℕ)) (bytes : List ℕ) : Type 0 where
  pub spelled : ws ≡ map (value_word ty) (first_elements (bytes_of ty) (length ws) bytes)
  pub each : length bytes ≡ length ws * bytes_of ty
  pub small : All (λ b. b < 256) bytes

words_said : (ty : ElemType) (ws : List (List ℕ)) (bytes : List ℕ) → all_values ty ws ≡ Some bytes → WordsSaid ty ws bytes
words_said ty [] bytes h =
    subst (λ (b : List ℕ). WordsSaid ty [] b) (some_is [] bytes h)
    (record { spelled = refl; each = omega arith; small = All-nil (λ b. b < 256) })
words_said ty (w ∷ ws) bytes h =
    let size = bytes_of ty in
    let a = then (λ n. option_map (λ more. little_endian size n ++ more) (all_values ty ws)) (value_of ty w) bytes h in
    let m = mapped (λ more. little_endian size a.0 ++ more) (all_values ty ws) bytes a.2 in
    let tail = words_said ty ws m.0 m.1 in
    let len = length-little_endian size a.0 in
    let first : pattern (take size (little_endian size a.0 ++ m.0)) ≡ a.0 =
    ap pattern (take_front size (little_endian size a.0) m.0 len)
    ∙ pattern-little size a.0 (subst (λ s. a.0 < s) (span-is ty) (value_small ty w a.0 a.1)) in
    subst (λ (b : List ℕ). WordsSaid ty (w ∷ ws) b) m.2
    (record {
      spelled = ap (λ (x : List ℕ). x ∷ ws) (value_spelled ty w a.0 a.1 ∙ ap (value_word ty) (sym first))
          ∙ ap (λ (x : List (List ℕ)). value_word ty (pattern (take size (little_endian size a.0 ++ m.0))) ∷ x)
          (tail.spelled ∙ ap (λ (b : List ℕ). map (value_word ty) (first_elements size (length ws) b))
          (sym (drop_front size (little_endian size a.0) m.0 len)));
      each = longer (little_endian size a.0) m.0 size (length ws) len tail.each;
      small = All-append (λ b. b < 256) (little_endian size a.0) m.0 (bytes_small size a.0) tail.small;
    })
  where
    longer : (xs ys : List ℕ) (size n : ℕ) → length xs ≡ size → length ys ≡ n * size → length (xs ++ ys) ≡ suc n * size
    longer xs ys size n e f = length-append xs ys ∙ ap (λ m. m + length ys) e ∙ ap (λ m. size + m) f ∙ sym (once_more n size)
      where
        once_more : (n size : ℕ) → suc n * size ≡ size + n * size
        once_more n size = grind arith

-- so many elements of a size
pub record DataSaid (ty : ElemType) (count : ℕ) (ws : List (List ℕ)) (bytes : List ℕ) : Type 0 where
  pub spelled : ws ≡ map (value_word ty) (elements ty bytes)
  pub each : length bytes ≡ count * bytes_of ty
  pub small : All (λ b. b < 256) bytes

pub data_said : (ty : ElemType) (count : ℕ) (ws : List (List ℕ)) (bytes : List ℕ) → data_line ty count ws ≡ Ok bytes →
    DataSaid ty count ws bytes
unfolding data_line elements
data_said ty count ws bytes h =
    let p = picked (length ws == count && not (list_any is_empty ws)) (all_values ty ws) bytes h in
    let q = both (length ws == count) (not (list_any is_empty ws)) p.0 in
    let n : length ws ≡ count = is_eq (length ws) count q.0 in
    let s = words_said ty ws bytes p.1 in
    record {
      spelled = s.spelled ∙ ap (λ n. map (value_word ty) (first_elements (bytes_of ty) n bytes))
          (sym (whole_elements ty (length ws) (length bytes) s.each));
      each = s.each ∙ ap (λ n. n * bytes_of ty) n;
      small = s.small;
    }
  where
    is_eq : (a b : ℕ) → a == b ≡ true → a ≡ b
    is_eq a b e = grind (arith, nat_tests)

    picked : (b : Bool) (o : Option (List ℕ)) (bytes : List ℕ) → cond b (or_no_value o) (Err Malformed) ≡ Ok bytes → (b ≡ true) ×
        (o ≡ Some bytes)
    picked true None bytes h = cc
    picked true (Some x) bytes h = (refl, ap (λ (x : List ℕ). Some x) (ok_is x bytes h))
      where
        ok_is : (x y : List ℕ) → or_no_value (Some x) ≡ Ok y → x ≡ y
        ok_is x y h = cc
    picked false o bytes h = cc
