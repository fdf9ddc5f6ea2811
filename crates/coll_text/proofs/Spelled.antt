-- A number, a word and a line have one spelling.
use Rattle.std.proofs.Common.{◌≡◌, ℕ, ◌<◌, ◌≤◌, ◌^◌, List, [], ◌∷◌, ◌++◌, Option, Some, None, Bool, true, false, cond, ◌&&◌, not, refl, sym}
use Rattle.std.proofs.Common.{ap, ◌∙◌, arith, rules}
use Rattle.std.specs.Prelude.{option_map, option_and_then, nat_le, ◌==◌}
use Rattle.std.specs.List.{list_all, join_with_byte}
use Rattle.std.specs.Str.{bytes_eq}
use Rattle.std.specs.Fmt.{decimal}
use Rattle.std.proofs.lemmas.Fmt.{decimal-digits_value}
use Rattle.std.proofs.lemmas.Str.Parse.{IsNumeralModel, numerals_by_fold}
use Rattle.std.proofs.lemmas.Slice.Eq.{bytes_eq-Decides}
use Rattle.std.proofs.lemmas.Bool.Decides.{nat_tests}
use Rattle.std.proofs.lemmas.List.Splits.{join_with_byte-slice_split}
use Rattle.coll_text.specs.Text.{words, line, is_digit, is_number, with_digits, number_of, number_between}

-- our numbers are std's
pub numerals : IsNumeralModel (λ ds. list_all is_digit ds ≡ true) (with_digits 0)
numerals = numerals_by_fold _ (search rules) with_digits (search rules)

pub both : (a b : Bool) → (a && b) ≡ true → (a ≡ true) × (b ≡ true)
both true b h = (refl, h)
both false b h = cc

pub chosen : {A : Type 0} (b : Bool) (o : Option A) (x : A) → cond b o None ≡ Some x → (b ≡ true) × (o ≡ Some x)
chosen true o x h = (refl, h)
chosen false o x h = cc

pub mapped : {A B : Type 0} (f : A → B) (o : Option A) (y : B) → option_map f o ≡ Some y → (x : A) × (o ≡ Some x) × (f x ≡ y)
mapped f None y h = cc
mapped f (Some x) y h = (x, refl, some_is _ _ h)
  where
    some_is : {B : Type 0} (a b : B) → Some a ≡ Some b → a ≡ b
    some_is a b e = cc

pub then : {A B : Type 0} (f : A → Option B) (o : Option A) (y : B) → option_and_then f o ≡ Some y → (x : A) × (o ≡ Some x) × (f x ≡ Some y)
then f None y h = cc
then f (Some x) y h = (x, refl, h)

one_digit : (b : ℕ) → is_number (b ∷ []) ≡ true → list_all is_digit (b ∷ []) ≡ true
one_digit b h = rw h refl

-- the digits of a number are its decimal ones
spelled_digits : (w : List ℕ) → is_number w ≡ true → with_digits 0 w < 2 ^ 64 → decimal (with_digits 0 w) ≡ w
spelled_digits [] h small = cc
spelled_digits (b ∷ []) h small = decimal-digits_value numerals (b ∷ []) (one_digit b h) (omega arith) (λ _. refl) small
spelled_digits (b ∷ c ∷ bs) h small =
    let p = both (is_digit b && not (b == 48)) (list_all is_digit (c ∷ bs)) h in
    let q = both (is_digit b) (not (b == 48)) p.0 in
    let all : list_all is_digit (b ∷ c ∷ bs) ≡ true = rw (q.0, p.1) refl in
    decimal-digits_value numerals (b ∷ c ∷ bs) all (omega arith) (λ e. absurd (zero_first b e q.1)) small
  where
    zero_first : (b : ℕ) → b ≡ 48 → not (b == 48) ≡ true → ⊥
    zero_first b e h = grind (arith, nat_tests)

-- a number has one spelling
pub number_spelled : (n : ℕ) (w : List ℕ) → n < 2 ^ 64 → number_of w ≡ Some n → w ≡ decimal n
number_spelled n w small h =
    let b = chosen (is_number w) (Some (with_digits 0 w)) n h in
    let v : with_digits 0 w ≡ n = cc (b.1) in
    sym (spelled_digits w b.0 (omega (arith, v))) ∙ ap decimal v

-- a number in a range is in it
pub record InRange (low high n : ℕ) (w : List ℕ) : Type 0 where
  pub is : number_of w ≡ Some n
  pub least : low ≤ n
  pub most : n ≤ high

pub in_range : (low high n : ℕ) (w : List ℕ) → number_between low high w ≡ Some n → InRange low high n w
in_range low high n w h =
    let a = then (λ n. cond (nat_le low n && nat_le n high) (Some n) None) (number_of w) n h in
    let c = chosen (nat_le low a.0 && nat_le a.0 high) (Some a.0) n a.2 in
    let le = both (nat_le low a.0) (nat_le a.0 high) c.0 in
    let u : a.0 ≡ n = cc (c.1) in
    record {
      is = a.1 ∙ c.1;
      least = let e = below low a.0 le.0 in omega (arith, u, e);
      most = let e = below a.0 high le.1 in omega (arith, u, e);
    }
  where
    below : (m high : ℕ) → nat_le m high ≡ true → m ≤ high
    below m high h = grind (arith, nat_tests)

pub between_spelled : (low high n : ℕ) (w : List ℕ) → high < 2 ^ 64 → number_between low high w ≡ Some n → w ≡ decimal n
between_spelled low high n w fits h =
    let r = in_range low high n w h in
    number_spelled n w (omega (arith, r.most)) r.is

pub same : (x y : List ℕ) → bytes_eq x y ≡ true → x ≡ y
same x y h = (bytes_eq-Decides x y).0 h

-- a line is its words
pub rejoined : (l : List ℕ) (ws : List (List ℕ)) → words l ≡ ws → l ++ 10 ∷ [] ≡ line ws
rejoined l ws e = ap (λ (x : List ℕ). x ++ 10 ∷ []) (sym (join_with_byte-slice_split 32 l) ∙ ap (join_with_byte 32) e)
