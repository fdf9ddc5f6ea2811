-- Hexadecimal digits, one more at a time.
use Rattle.std.proofs.Common.{◌≡◌, ℕ, ◌+◌, ◌*◌, ◌≤◌, ◌<◌, suc, List, [], ◌∷◌, length, get_or, drop, Option, Some, None, Bool, true}
use Rattle.std.proofs.Common.{false, refl, sym, ap, arith, add-one, drop-cons}
use Rattle.std.specs.Prelude.{option_map, option_and_then, nat_le, if◌then◌else◌}
use Rattle.std.proofs.lemmas.List.{drop_all}
use Rattle.std.proofs.lemmas.Bool.Decides.{nat_tests}
use Rattle.log_words.specs.Words.{hex_digit, with_hex_digits, within}

-- a number that is too large stays so
too_large : (most n : ℕ) (bs : List ℕ) → most < n → within most (with_hex_digits n bs) ≡ None
too_large most n [] h = grind (arith, nat_tests, h)
too_large most n (b ∷ bs) h = by_digit (hex_digit b) (λ digit. too_large most (16 * n + digit) bs (omega arith))
  where
    by_digit : (d : Option ℕ) → ((digit : ℕ) → within most (with_hex_digits (16 * n + digit) bs) ≡ None)
        → within most (option_and_then (λ digit. with_hex_digits (16 * n + digit) bs) d) ≡ None
    by_digit None more = refl
    by_digit (Some digit) more = more digit

within_is : (most n m : ℕ) → within most (Some n) ≡ Some m → n ≡ m
within_is most n m e = by_test (nat_le n most) e
  where
    by_test : (b : Bool) → (if b then Some n else None) ≡ Some m → n ≡ m
    by_test true e = cc
    by_test false e = cc

within_none : (most n : ℕ) → within most (Some n) ≡ None → most < n
within_none most n e = grind (arith, nat_tests, e)

-- one digit, where the number stays small
pub goes_on : (most n m b : ℕ) (bs : List ℕ) → Some m ≡ within most (option_map (λ digit. 16 * n + digit) (hex_digit b))
    → within most (with_hex_digits n (b ∷ bs)) ≡ within most (with_hex_digits m bs)
goes_on most n m b bs e = by_digit (hex_digit b) e
  where
    by_digit : (d : Option ℕ) → Some m ≡ within most (option_map (λ digit. 16 * n + digit) d)
        → within most (option_and_then (λ digit. with_hex_digits (16 * n + digit) bs) d) ≡ within most (with_hex_digits m bs)
    by_digit None e = cc
    by_digit (Some digit) e = ap (λ k. within most (with_hex_digits k bs)) (within_is most (16 * n + digit) m (sym e))

-- and where it doesn't, or it is no digit
pub stops : (most n b : ℕ) (bs : List ℕ) → None ≡ within most (option_map (λ digit. 16 * n + digit) (hex_digit b))
    → within most (with_hex_digits n (b ∷ bs)) ≡ None
stops most n b bs e = by_digit (hex_digit b) e
  where
    by_digit : (d : Option ℕ) → None ≡ within most (option_map (λ digit. 16 * n + digit) d)
        → within most (option_and_then (λ digit. with_hex_digits (16 * n + digit) bs) d) ≡ None
    by_digit None e = refl
    by_digit (Some digit) e = too_large most (16 * n + digit) bs (within_none most (16 * n + digit) (sym e))

-- what is within a bound is no greater
pub within_small : (most m : ℕ) (o : Option ℕ) → Some m ≡ within most o → m ≤ most
within_small most m None e = absurd (cc)
within_small most m (Some n) e = grind (arith, nat_tests, e)

pub more_small : (most n m b : ℕ) → Some m ≡ within most (option_map (λ digit. 16 * n + digit) (hex_digit b)) → m ≤ most
more_small most n m b e = within_small most m (option_map (λ digit. 16 * n + digit) (hex_digit b)) e

-- a step of the loop over digits
pub step : (most n m i : ℕ) (digits : List ℕ) → i < length digits
    → Some m ≡ within most (option_map (λ digit. 16 * n + digit) (hex_digit (get_or digits i 0)))
    → within most (with_hex_digits n (drop i digits)) ≡ within most (with_hex_digits m (drop (i + 1) digits))
step most n m i digits l e = rw (add-one, drop-cons digits i 0) (goes_on most n m (get_or digits i 0) (drop (suc i) digits) e)

pub stop_at : (most n i : ℕ) (digits : List ℕ) → i < length digits
    → None ≡ within most (option_map (λ digit. 16 * n + digit) (hex_digit (get_or digits i 0)))
    → within most (with_hex_digits n (drop i digits)) ≡ None
stop_at most n i digits l e = rw (drop-cons digits i 0) (stops most n (get_or digits i 0) (drop (suc i) digits) e)

-- all digits are read
pub finished : (most n i : ℕ) (digits : List ℕ) → length digits ≤ i → n ≤ most
    → within most (with_hex_digits n (drop i digits)) ≡ Some n
finished most n i digits e h =
    let none : drop i digits ≡ [] = drop_all i digits e in
    rw none (grind (arith, nat_tests, h))
