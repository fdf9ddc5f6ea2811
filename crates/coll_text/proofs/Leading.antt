-- The digits with which bytes begin.
use Rattle.std.proofs.Common.{◌≡◌, ℕ, zero, suc, ◌+◌, ◌-◌, ◌*◌, ◌<◌, ◌≤◌, List, [], ◌∷◌, ◌++◌, length, get_or, take, drop, Some, true}
use Rattle.std.proofs.Common.{false, not, refl, arith, ap, sym, ◌∙◌}
use Rattle.std.specs.Prelude.{◌==◌}
use Rattle.std.specs.List.{list_all}
use Rattle.std.proofs.Math.Bool.{and-true}
use Rattle.std.proofs.lemmas.Bool.Decides.{nat_tests}
use Rattle.std.proofs.lemmas.List.{append-nil, take-append-drop}
use Rattle.std.proofs.lemmas.List.Folds.{list_all_more}
use Rattle.std.proofs.lemmas.List.Splits.{slice_split_at, slice_split_none}
use Rattle.ptl_types.specs.declared.elements.ElemType.{ElemType}
use Rattle.coll_text.specs.Text.{is_digit, is_number, number_of, with_digit, with_digits, words}
use Rattle.coll_text.specs.Values.{too_large, value_of}
use Rattle.coll_text.proofs.ReadBack.{none_is, unsigned_read}
use Rattle.coll_text.proofs.Spelled.{both}

-- one digit more
pub with_more : (n : ℕ) (xs : List ℕ) (i d : ℕ) → i < length xs → with_digits n (take (suc i) xs) ≡ with_digit (with_digits n (take i xs))
    (get_or xs i d)
with_more n [] i d lt = absurd (omega (arith, lt))
with_more n (x ∷ xs) zero d lt = refl
with_more n (x ∷ xs) (suc i) d lt = with_more (with_digit n x) xs i d (omega (arith, lt))

pub value_more : (xs : List ℕ) (i d n : ℕ) → i < length xs → with_digits 0 (take i xs) ≡ n →
    with_digits 0 (take (i + 1) xs) ≡ 10 * n + (get_or xs i d - 48)
value_more xs i d n lt e =
    let next : i + 1 ≡ suc i = omega arith in
    ap (λ k. with_digits 0 (take k xs)) next ∙ (with_more 0 xs i d lt ∙ ap (λ m. with_digit m (get_or xs i d)) e)

pub digits_more : (xs : List ℕ) (i d : ℕ) → i < length xs → list_all is_digit (take i xs) ≡ true → is_digit (get_or xs i d) ≡ true →
    list_all is_digit (take (i + 1) xs) ≡ true
digits_more xs i d lt before digit = list_all_more is_digit xs i d lt ∙ rw (before, digit) refl

no_space : (b : ℕ) → is_digit b ≡ true → b == 32 ≡ false
no_space b h = grind (arith, nat_tests)

-- digits that end a line, and digits before a space, are its first word
pub last_word : (line word back : List ℕ) (n : ℕ) → word ≡ take n line → back ≡ drop n line → back ≡ [] →
    list_all is_digit (take n line) ≡ true → words line ≡ word ∷ []
last_word line word back n front is none digits =
    let whole : line ≡ word ++ [] = sym (take-append-drop n line)
    ∙ (ap (λ v. v ++ drop n line) (sym front) ∙ ap (λ v. word ++ v) (sym is ∙ none)) in
    let all : list_all is_digit word ≡ true = ap (list_all is_digit) front ∙ digits in
    ap words (whole ∙ append-nil word) ∙ slice_split_none (λ b. b == 32) word (none_is is_digit 32 word no_space all)

pub word_before : (line word back rest : List ℕ) (n b : ℕ) → word ≡ take n line → back ≡ drop n line → back ≡ b ∷ rest → b ≡ 32 →
    list_all is_digit (take n line) ≡ true → words line ≡ word ∷ words rest
word_before line word back rest n b front is next space digits =
    let cut : drop n line ≡ 32 ∷ rest = sym is ∙ (next ∙ ap (λ v. v ∷ rest) space) in
    let whole : line ≡ word ++ 32 ∷ rest = sym (take-append-drop n line)
    ∙ (ap (λ v. v ++ drop n line) (sym front) ∙ ap (λ v. word ++ v) cut) in
    let all : list_all is_digit word ≡ true = ap (list_all is_digit) front ∙ digits in
    ap words whole ∙ slice_split_at (λ b. b == 32) word 32 rest (none_is is_digit 32 word no_space all) refl

-- a number of a few digits is its own value
pub plain_read : (ty : ElemType) (most n : ℕ) (word : List ℕ) → most + 1 ≡ too_large ty → n ≤ most → is_number word ≡ true →
    list_all is_digit word ≡ true
    → with_digits 0 word ≡ n → Some n ≡ value_of ty word
plain_read ty most n word e le number digits value =
    let is : number_of word ≡ Some n = rw (number, value) refl in
    sym (unsigned_read ty word n digits is (omega (arith, e, le)))

-- digits are a number where no 0 stands before others
pub lone_digit : (ds : List ℕ) (b : ℕ) → ds ≡ b ∷ [] → list_all is_digit ds ≡ true → is_number ds ≡ true
lone_digit ds b e h = ap is_number e ∙ (both (is_digit b) true (sym (ap (list_all is_digit) e) ∙ h)).0

pub more_digits : (ds : List ℕ) (b c : ℕ) (bs : List ℕ) → ds ≡ b ∷ c ∷ bs → list_all is_digit ds ≡ true → is_number ds ≡ not (b == 48)
more_digits ds b c bs e h =
    let p = both (is_digit b) (list_all is_digit (c ∷ bs)) (sym (ap (list_all is_digit) e) ∙ h) in
    ap is_number e ∙ rw (p.0, p.1) (and-true (not (b == 48)))
