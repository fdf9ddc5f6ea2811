-- The words that are written of the values of any type are read back.
use Rattle.std.proofs.Common.{◌≡◌, ℕ, zero, suc, ◌+◌, ◌-◌, ◌*◌, ◌/◌, ◌%◌, ◌<◌, ◌≤◌, ◌^◌, List, [], ◌∷◌, ◌++◌, length, take, drop, Some}
use Rattle.std.proofs.Common.{None, Ok, Err, Bool, true, false, cond, ◌&&◌, not, refl, sym, ap, ◌∙◌, arith, map, subst}
use Rattle.std.specs.Prelude.{nat_lt, nat_le, ◌==◌, All, option_and_then}
use Rattle.std.specs.List.{list_all, list_any, flat_map, join_with_byte, AllByRecursion}
use Rattle.std.specs.Fmt.{decimal}
use Rattle.std.proofs.lemmas.Bool.Decides.{nat_tests}
use Rattle.std.proofs.lemmas.Fmt.{decimal_nonempty}
use Rattle.std.proofs.lemmas.Grind.{common_steps}
use Rattle.std.proofs.lemmas.List.Elements.{All-take, All-drop, recursion_from_All}
use Rattle.op_laws.proofs.Swaps.{pattern-lt, span-is}
use Rattle.ptl_types.specs.declared.elements.ElemType.{ElemType}
use Rattle.ptl_types.specs.declared.elements.ElemType.TheVariants as types
use Rattle.ptl_types.specs.Operations.{bytes_of, is_signed, span}
use Rattle.ptl_types.specs.Elements.{pattern, little_endian}
use Rattle.coll_text.specs.Text.{words, is_digit, is_empty}
use Rattle.coll_text.specs.Elements.{half, first_elements, elements, bytes_of_list, value_word}
use Rattle.coll_text.specs.Values.{negative_of, value_of, all_values, or_no_value, data_line}
use Rattle.coll_text.specs.declared.values.Flaw.TheVariants.{Malformed}
use Rattle.coll_text.proofs.Spelled.{both}
use Rattle.coll_text.proofs.DataSpelled.{spans}
use Rattle.coll_text.proofs.Writes.{whole_elements, first_count}
use Rattle.coll_text.proofs.ReadBack.{passes_too, none_is, digits_are, number_read, value_read, words_of_joined}

-- a byte that is seen: no space, and no end of a line
abbrev pub is_solid : ℕ → Bool
is_solid b = nat_le 33 b && nat_le b 126

pub number_solid : (n : ℕ) → n < 2 ^ 64 → list_all is_solid (decimal n) ≡ true
number_solid n small = passes_too is_digit is_solid (decimal n) digit (digits_are n small)
  where
    digit : (b : ℕ) → is_digit b ≡ true → is_solid b ≡ true
    digit b h = grind (arith, nat_tests)

-- such words are parted by the spaces between them
pub solid_apart : (ws : List (List ℕ)) → AllByRecursion (λ w. list_all is_solid w ≡ true) ws →
    AllByRecursion (λ w. All (λ b. b == 32 ≡ false) w) ws
solid_apart [] h = tt
solid_apart (w ∷ ws) h = (none_is is_solid 32 w no_space h.0, solid_apart ws h.1)
  where
    no_space : (b : ℕ) → is_solid b ≡ true → b == 32 ≡ false
    no_space b h = grind (arith, nat_tests)

twice : (ty : ElemType) → span ty ≡ half ty * 2
twice types.U8 = refl
twice types.I8 = refl
twice types.U16 = refl
twice types.I16 = refl
twice types.U32 = refl
twice types.I32 = refl
twice types.U64 = refl
twice types.I64 = refl

is_true : (a b : ℕ) → a ≤ b → nat_le a b ≡ true
is_true a b le = grind (arith, nat_tests)

below : (a b : ℕ) → a < b → nat_lt a b ≡ true
below a b lt = grind (arith, nat_tests)

reaches : (a b : ℕ) → nat_le a b ≡ true → a ≤ b
reaches a b h = grind (arith, nat_tests)

misses : (a b : ℕ) → nat_le a b ≡ false → b < a
misses a b h = grind (arith, nat_tests)

negative_read : (ty : ElemType) (n : ℕ) → n < span ty → half ty ≤ n → negative_of ty (decimal (span ty - n)) ≡ Some n
negative_read ty n lt le =
    let fits = spans ty in
    let two = twice ty in
    let m = span ty - n in
    let number = number_read m (omega (arith, fits, lt)) in
    let above = below 0 m (omega (arith, lt)) in
    let most = is_true m (half ty) (omega (arith, two, le)) in
    ap (option_and_then (λ n. cond (nat_lt 0 n && nat_le n (half ty)) (Some (span ty - n)) None)) number
    ∙ ap (λ t. cond (t && nat_le m (half ty)) (Some (span ty - m)) None) above ∙ ap (λ t. cond t (Some (span ty - m)) None) most
    ∙ ap (λ n. Some n) (back n (span ty) lt)
  where
    back : (n s : ℕ) → n < s → s - (s - n) ≡ n
    back n s lt = omega arith

signed_read : (ty : ElemType) (ds : List ℕ) → is_signed ty ≡ true → value_of ty (45 ∷ ds) ≡ negative_of ty ds
unfolding value_of
signed_read ty ds signed = rw signed refl

-- the word of a value is read as it
pub word_read : (ty : ElemType) (n : ℕ) → n < span ty → value_of ty (value_word ty n) ≡ Some n
word_read ty n lt = go (is_signed ty) (nat_le (half ty) n) refl refl
  where
    go : (s t : Bool) → is_signed ty ≡ s → nat_le (half ty) n ≡ t → value_of ty (value_word ty n) ≡ Some n
    go true true es et =
        ap (value_of ty) (ap (λ s. cond (s && nat_le (half ty) n) (45 ∷ decimal (span ty - n)) (decimal n)) es
        ∙ ap (λ t. cond t (45 ∷ decimal (span ty - n)) (decimal n)) et)
        ∙ signed_read ty (decimal (span ty - n)) es ∙ negative_read ty n lt (reaches (half ty) n et)
    go true false es et =
        ap (value_of ty) (ap (λ s. cond (s && nat_le (half ty) n) (45 ∷ decimal (span ty - n)) (decimal n)) es
        ∙ ap (λ t. cond t (45 ∷ decimal (span ty - n)) (decimal n)) et)
        ∙ value_read ty n (subst (λ s. n < cond s (half ty) (span ty)) (sym es) (misses (half ty) n et))
    go false t es et =
        ap (value_of ty) (ap (λ s. cond (s && nat_le (half ty) n) (45 ∷ decimal (span ty - n)) (decimal n)) es)
        ∙ value_read ty n (subst (λ s. n < cond s (half ty) (span ty)) (sym es) lt)

pub word_solid : (ty : ElemType) (n : ℕ) → n < span ty → list_all is_solid (value_word ty n) ≡ true
word_solid ty n lt = go (is_signed ty && nat_le (half ty) n) refl
  where
    go : (b : Bool) → (is_signed ty && nat_le (half ty) n) ≡ b → list_all is_solid (cond b (45 ∷ decimal (span ty - n)) (decimal n)) ≡ true
    go true e =
        let fits = spans ty in
        let two = twice ty in
        let le = reaches (half ty) n (both (is_signed ty) (nat_le (half ty) n) e).1 in
        number_solid (span ty - n) (omega (arith, fits, two, le))
    go false e = let fits = spans ty in number_solid n (omega (arith, fits, lt))

word_full : (ty : ElemType) (n : ℕ) → n < span ty → is_empty (value_word ty n) ≡ false
word_full ty n lt = go (is_signed ty && nat_le (half ty) n)
  where
    full : (n : ℕ) → 0 < n → n == 0 ≡ false
    full n lt = grind (arith, nat_tests)

    go : (b : Bool) → is_empty (cond b (45 ∷ decimal (span ty - n)) (decimal n)) ≡ false
    go true = full (suc (length (decimal (span ty - n)))) (omega arith)
    go false = let fits = spans ty in full (length (decimal n)) (decimal_nonempty n (omega (arith, fits, lt)))

-- lists of them
words_read : (ty : ElemType) (vs : List ℕ) → AllByRecursion (λ v. v < span ty) vs →
    all_values ty (map (value_word ty) vs) ≡ Some (bytes_of_list ty vs)
words_read ty [] h = refl
words_read ty (v ∷ vs) h = rw (word_read ty v h.0, words_read ty vs h.1) refl

pub words_solid : (ty : ElemType) (vs : List ℕ) → AllByRecursion (λ v. v < span ty) vs → AllByRecursion (λ w. list_all is_solid w ≡ true)
    (map (value_word ty) vs)
words_solid ty [] h = tt
words_solid ty (v ∷ vs) h = (word_solid ty v h.0, words_solid ty vs h.1)

none_empty : (ty : ElemType) (vs : List ℕ) → AllByRecursion (λ v. v < span ty) vs → list_any is_empty (map (value_word ty) vs) ≡ false
none_empty ty [] h = refl
none_empty ty (v ∷ vs) h = rw (word_full ty v h.0, none_empty ty vs h.1) refl

as_many : (ty : ElemType) (vs : List ℕ) → length (map (value_word ty) vs) ≡ length vs
as_many ty [] = refl
as_many ty (v ∷ vs) = ap suc (as_many ty vs)

line_read : (ty : ElemType) (count : ℕ) (vs : List ℕ) → AllByRecursion (λ v. v < span ty) vs → length vs ≡ count → 1 ≤ count →
    data_line ty count (words (join_with_byte 32 (map (value_word ty) vs))) ≡ Ok (bytes_of_list ty vs)
unfolding data_line
line_read ty count [] h e some = absurd (omega (arith, e))
line_read ty count (v ∷ vs) h e some =
    ap (data_line ty count) (words_of_joined (value_word ty v) (map (value_word ty) vs)
    (solid_apart (map (value_word ty) (v ∷ vs)) (words_solid ty (v ∷ vs) h)))
    ∙ picked (length (map (value_word ty) (v ∷ vs)) == count) (list_any is_empty (map (value_word ty) (v ∷ vs)))
    (same (length (map (value_word ty) (v ∷ vs))) count (as_many ty (v ∷ vs) ∙ e)) (none_empty ty (v ∷ vs) h)
  where
    same : (a b : ℕ) → a ≡ b → a == b ≡ true
    same a b e = grind (arith, nat_tests)

    picked : (b c : Bool) → b ≡ true → c ≡ false → cond (b && not c) (or_no_value (all_values ty (map (value_word ty) (v ∷ vs))))
        (Err Malformed) ≡ Ok (bytes_of_list ty (v ∷ vs))
    picked b c eb ec = rw (eb, ec) (ap or_no_value (words_read ty (v ∷ vs) h))

-- elements give their bytes back
bytes_back : (w : ℕ) (xs : List ℕ) → length xs ≡ w → AllByRecursion (λ b. b < 256) xs → little_endian w (pattern xs) ≡ xs
bytes_back zero [] e h = refl
bytes_back zero (b ∷ bs) e h = absurd (omega (arith, e))
bytes_back (suc w) [] e h = absurd (omega (arith, e))
bytes_back (suc w) (b ∷ bs) e h =
    ap (λ x. x ∷ little_endian w ((b % 256 + 256 * pattern bs) / 256)) (low b (pattern bs) h.0)
    ∙ ap (λ p. b ∷ little_endian w p) (high b (pattern bs) h.0) ∙ ap (λ (xs : List ℕ). b ∷ xs) (bytes_back w bs (omega (arith, e)) h.1)
  where
    low : (b p : ℕ) → b < 256 → (b % 256 + 256 * p) % 256 ≡ b
    low b p lt = omega arith

    high : (b p : ℕ) → b < 256 → (b % 256 + 256 * p) / 256 ≡ p
    high b p lt = omega arith

split : (n : ℕ) (xs : List ℕ) → take n xs ++ drop n xs ≡ xs
split n xs = grind (arith, common_steps)

first_back : (w n : ℕ) (bytes : List ℕ) → length bytes ≡ n * w → All (λ b. b < 256) bytes →
    flat_map (little_endian w) (first_elements w n bytes) ≡ bytes
first_back w zero [] e h = refl
first_back w zero (b ∷ bs) e h = absurd (omega (arith, e))
first_back w (suc n) bytes e h =
    let more : suc n * w ≡ w + n * w = once_more n w in
    ap (λ (x : List ℕ). x ++ flat_map (little_endian w) (first_elements w n (drop w bytes)))
    (bytes_back w (take w bytes) (front w (n * w) bytes (e ∙ more))
    (recursion_from_All (λ b. b < 256) (take w bytes) (All-take (λ b. b < 256) w bytes h)))
    ∙ ap (λ (x : List ℕ). take w bytes ++ x) (first_back w n (drop w bytes) (others w (n * w) bytes (e ∙ more))
    (All-drop (λ b. b < 256) w bytes h)) ∙ split w bytes
  where
    once_more : (n w : ℕ) → suc n * w ≡ w + n * w
    once_more n w = grind arith

    front : (w m : ℕ) (bytes : List ℕ) → length bytes ≡ w + m → length (take w bytes) ≡ w
    front w m bytes e = grind (arith, common_steps)

    others : (w m : ℕ) (bytes : List ℕ) → length bytes ≡ w + m → length (drop w bytes) ≡ m
    others w m bytes e = grind (arith, common_steps)

first_small : (ty : ElemType) (n : ℕ) (bytes : List ℕ) → AllByRecursion (λ v. v < span ty) (first_elements (bytes_of ty) n bytes)
first_small ty zero bytes = tt
first_small ty (suc n) bytes = (
  subst (λ s. pattern (take (bytes_of ty) bytes) < s) (sym (span-is ty)) (pattern-lt (bytes_of ty) bytes),
  first_small ty n (drop (bytes_of ty) bytes),
)

-- the line of a list is read as it, and every byte of it is seen or a space
pub data_read : (ty : ElemType) (count : ℕ) (bytes : List ℕ) → 1 ≤ count → length bytes ≡ count * bytes_of ty → All (λ b. b < 256) bytes →
    data_line ty count (words (join_with_byte 32 (map (value_word ty) (elements ty bytes)))) ≡ Ok bytes
unfolding elements
data_read ty count bytes some e h =
    let n : length bytes / bytes_of ty ≡ count = whole_elements ty count (length bytes) e in
    line_read ty count (first_elements (bytes_of ty) (length bytes / bytes_of ty) bytes)
    (first_small ty (length bytes / bytes_of ty) bytes) (first_count (bytes_of ty) (length bytes / bytes_of ty) bytes ∙ n) some
    ∙ ap (λ (x : List ℕ). Ok x) (ap (λ m. flat_map (little_endian (bytes_of ty)) (first_elements (bytes_of ty) m bytes)) n
    ∙ first_back (bytes_of ty) count bytes e h)

pub elements_solid : (ty : ElemType) (bytes : List ℕ) → AllByRecursion (λ w. list_all is_solid w ≡ true)
    (map (value_word ty) (elements ty bytes))
unfolding elements
elements_solid ty bytes = words_solid ty (first_elements (bytes_of ty) (length bytes / bytes_of ty) bytes)
    (first_small ty (length bytes / bytes_of ty) bytes)
