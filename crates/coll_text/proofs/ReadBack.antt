-- What is written is read back: numbers, words parted by spaces, and lines of values.
use Rattle.std.proofs.Common.{◌≡◌, ℕ, zero, suc, ◌<◌, ◌≤◌, ◌^◌, ◌/◌, List, [], ◌∷◌, ◌++◌, length, get_or, Some, None, Ok, Err, Bool, true}
use Rattle.std.proofs.Common.{false, cond, ◌&&◌, not, refl, ap, ◌∙◌, arith, map}
use Rattle.std.specs.Prelude.{nat_lt, ◌==◌, All, option_and_then}
use Rattle.std.specs.List.{list_all, list_any, join_with_byte, AllByRecursion}
use Rattle.std.specs.Fmt.{decimal}
use Rattle.std.proofs.lemmas.Bool.Decides.{nat_tests}
use Rattle.std.proofs.lemmas.Fmt.{digits_decimal, digits_value-decimal, decimal_digit, decimal_nonempty, first_decimal}
use Rattle.std.proofs.lemmas.List.Splits.{slice_split_none, slice_split_at}
use Rattle.std.proofs.lemmas.List.Sums.{AllPass-from_list_all, list_all-from_AllPass}
use Rattle.std.proofs.lemmas.List.Folds.{list_all-append}
use Rattle.ptl_types.specs.declared.elements.ElemType.{ElemType}
use Rattle.ptl_types.specs.Operations.{is_signed, span}
use Rattle.coll_text.specs.Text.{words, lines, is_digit, is_number, with_digits, number_of, is_empty}
use Rattle.coll_text.specs.Elements.{bytes_of_list}
use Rattle.coll_text.specs.Values.{too_large, value_of, all_values, or_no_value, data_line}
use Rattle.coll_text.specs.declared.values.Flaw.TheVariants.{Malformed}
use Rattle.coll_text.proofs.Spelled.{numerals, both}
use Rattle.coll_text.proofs.DataSpelled.{spans}

-- what passes one test passes another
pub passes_too : (p q : ℕ → Bool) (w : List ℕ) → ((b : ℕ) → p b ≡ true → q b ≡ true) → list_all p w ≡ true → list_all q w ≡ true
passes_too p q w f h = let all = AllPass-from_list_all p w h in list_all-from_AllPass q w (λ k d lt. f _ (all k d lt))

-- where the bytes pass, none of them is the separator
pub none_is : (p : ℕ → Bool) (c : ℕ) (w : List ℕ) → ((b : ℕ) → p b ≡ true → b == c ≡ false) → list_all p w ≡ true →
    All (λ b. b == c ≡ false) w
none_is p c w f h = let all = AllPass-from_list_all p w h in λ k d lt. f _ (all k d lt)

pub digits_are : (n : ℕ) → n < 2 ^ 64 → list_all is_digit (decimal n) ≡ true
digits_are n small = digits_decimal numerals n small

not_zero : (b : ℕ) → 48 < b → not (b == 48) ≡ true
not_zero b lt = grind (arith, nat_tests)

-- digits are a number, where no 0 stands before others
is_one : (w : List ℕ) → list_all is_digit w ≡ true → 0 < length w → (1 < length w → 48 < get_or w 0 0) → is_number w ≡ true
is_one [] digits some first = absurd (omega arith)
is_one (b ∷ []) digits some first = (both (is_digit b) true digits).0
is_one (b ∷ c ∷ bs) digits some first =
    let p = both (is_digit b) (list_all is_digit (c ∷ bs)) digits in
    let one : not (b == 48) ≡ true = not_zero b (first (omega arith)) in
    rw (p.0, one, p.1) refl

no_zero_first : (n : ℕ) → n < 2 ^ 64 → 1 < length (decimal n) → 48 < get_or (decimal n) 0 0
no_zero_first zero small more = let e = ap length (decimal_digit 0 (omega arith)) in absurd (omega (arith, e, more))
no_zero_first (suc n) small more = first_decimal (suc n) (omega arith) small

-- a number's decimal digits are read as it
pub number_read : (n : ℕ) → n < 2 ^ 64 → number_of (decimal n) ≡ Some n
number_read n small =
    let number : is_number (decimal n) ≡ true = is_one (decimal n) (digits_are n small) (decimal_nonempty n small) (no_zero_first n small)
    in
    let value : with_digits 0 (decimal n) ≡ n = digits_value-decimal numerals n small in
    rw (number, value) refl

-- words parted by one space are cut into them
pub words_of_joined : (w : List ℕ) (ws : List (List ℕ)) → AllByRecursion (λ w. All (λ b. b == 32 ≡ false) w) (w ∷ ws) →
    words (join_with_byte 32 (w ∷ ws)) ≡ w ∷ ws
words_of_joined w [] h = slice_split_none (λ b. b == 32) w h.0
words_of_joined w (v ∷ ws) h = slice_split_at (λ b. b == 32) w 32 (join_with_byte 32 (v ∷ ws)) h.0 refl
    ∙ ap (λ (x : List (List ℕ)). w ∷ x) (words_of_joined v ws h.1)

-- a line and LF are cut off
pub line_of : (l rest : List ℕ) → All (λ b. b == 10 ≡ false) l → lines (l ++ 10 ∷ rest) ≡ l ∷ lines rest
line_of l rest h = slice_split_at (λ b. b == 10) l 10 rest h refl

-- what passes in each word, and at the separator, passes in all bytes
pub joined_passes : (p : ℕ → Bool) (c : ℕ) (ws : List (List ℕ)) → p c ≡ true → AllByRecursion (λ w. list_all p w ≡ true) ws →
    list_all p (join_with_byte c ws) ≡ true
joined_passes p c [] at h = refl
joined_passes p c (w ∷ []) at h = h.0
joined_passes p c (w ∷ v ∷ ws) at h = list_all-append p w (c ∷ join_with_byte c (v ∷ ws))
    ∙ rw (h.0, at, joined_passes p c (v ∷ ws) at h.1) refl

-- a value without a sign
small_enough : (ty : ElemType) (n : ℕ) → n < too_large ty → n < 2 ^ 64
small_enough ty n lt = go (is_signed ty) (span ty) (spans ty) lt
  where
    go : (s : Bool) (h : ℕ) → h ≤ 2 ^ 64 → n < cond s (h / 2) h → n < 2 ^ 64
    go true h fits lt = omega arith
    go false h fits lt = omega arith

no_sign : (s : Bool) (b : ℕ) → is_digit b ≡ true → (s && b == 45) ≡ false
no_sign true b h = not_minus b h
  where
    not_minus : (b : ℕ) → is_digit b ≡ true → b == 45 ≡ false
    not_minus b h = grind (arith, nat_tests)
no_sign false b h = refl

pub unsigned_read : (ty : ElemType) (w : List ℕ) (n : ℕ) → list_all is_digit w ≡ true → number_of w ≡ Some n → n < too_large ty →
    value_of ty w ≡ Some n
unfolding value_of
unsigned_read ty [] n digits is lt = cc
unsigned_read ty (b ∷ bs) n digits is lt =
    let p = both (is_digit b) (list_all is_digit bs) digits in
    let below : nat_lt n (too_large ty) ≡ true = test n (too_large ty) lt in
    rw (no_sign (is_signed ty) b p.0) (ap (option_and_then (λ n. cond (nat_lt n (too_large ty)) (Some n) None)) is
    ∙ ap (λ t. cond t (Some n) None) below)
  where
    test : (a b : ℕ) → a < b → nat_lt a b ≡ true
    test a b lt = grind (arith, nat_tests)

pub value_read : (ty : ElemType) (n : ℕ) → n < too_large ty → value_of ty (decimal n) ≡ Some n
value_read ty n lt = let small = small_enough ty n lt in unsigned_read ty (decimal n) n (digits_are n small) (number_read n small) lt

values_read : (ty : ElemType) (vs : List ℕ) → AllByRecursion (λ v. v < too_large ty) vs →
    all_values ty (map decimal vs) ≡ Some (bytes_of_list ty vs)
values_read ty [] h = refl
values_read ty (v ∷ vs) h = rw (value_read ty v h.0, values_read ty vs h.1) refl

as_many : (vs : List ℕ) → length (map decimal vs) ≡ length vs
as_many [] = refl
as_many (v ∷ vs) = ap suc (as_many vs)

none_empty : (vs : List ℕ) → AllByRecursion (λ v. v < 2 ^ 64) vs → list_any is_empty (map decimal vs) ≡ false
none_empty [] h = refl
none_empty (v ∷ vs) h =
    let some : is_empty (decimal v) ≡ false = full (length (decimal v)) (decimal_nonempty v h.0) in
    rw (some, none_empty vs h.1) refl
  where
    full : (n : ℕ) → 0 < n → n == 0 ≡ false
    full n lt = grind (arith, nat_tests)

pub spaceless : (vs : List ℕ) → AllByRecursion (λ v. v < 2 ^ 64) vs → AllByRecursion (λ w. All (λ b. b == 32 ≡ false) w) (map decimal vs)
spaceless [] h = tt
spaceless (v ∷ vs) h = (none_is is_digit 32 (decimal v) no_space (digits_are v h.0), spaceless vs h.1)
  where
    no_space : (b : ℕ) → is_digit b ≡ true → b == 32 ≡ false
    no_space b h = grind (arith, nat_tests)

pub all_small : (ty : ElemType) (vs : List ℕ) → AllByRecursion (λ v. v < too_large ty) vs → AllByRecursion (λ v. v < 2 ^ 64) vs
all_small ty [] h = tt
all_small ty (v ∷ vs) h = (small_enough ty v h.0, all_small ty vs h.1)

-- a line of values is read as their bytes
pub values_line_read : (ty : ElemType) (v : ℕ) (vs : List ℕ) → AllByRecursion (λ v. v < too_large ty) (v ∷ vs)
    → data_line ty (length (v ∷ vs)) (words (join_with_byte 32 (map decimal (v ∷ vs)))) ≡ Ok (bytes_of_list ty (v ∷ vs))
unfolding data_line
values_line_read ty v vs h =
    let small = all_small ty (v ∷ vs) h in
    ap (data_line ty (length (v ∷ vs))) (words_of_joined (decimal v) (map decimal vs) (spaceless (v ∷ vs) small))
    ∙ picked (length (map decimal (v ∷ vs)) == length (v ∷ vs)) (list_any is_empty (map decimal (v ∷ vs)))
    (same (length (map decimal (v ∷ vs))) (length (v ∷ vs)) (as_many (v ∷ vs))) (none_empty (v ∷ vs) small)
  where
    same : (a b : ℕ) → a ≡ b → a == b ≡ true
    same a b e = grind (arith, nat_tests)

    picked : (b c : Bool) → b ≡ true → c ≡ false → cond (b && not c) (or_no_value (all_values ty (map decimal (v ∷ vs)))) (Err Malformed)
        ≡ Ok (bytes_of_list ty (v ∷ vs))
    picked b c eb ec = rw (eb, ec) (ap or_no_value (values_read ty (v ∷ vs) h))
