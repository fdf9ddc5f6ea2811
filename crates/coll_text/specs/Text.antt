-- Lines, words, numbers and names.
use Rattle.std.specs.Prelude.{ℕ, ◌+◌, ◌-◌, ◌*◌, List, [], ◌∷◌, ◌++◌, length, Option, Some, None, Bool, false, ◌&&◌, ◌||◌, not, ◌==◌}
use Rattle.std.specs.Prelude.{nat_le, if◌then◌else◌, option_and_then}
use Rattle.std.specs.List.{slice_split, list_all, join_with_byte}

-- The bytes cut at each LF. No LF stands after the last piece.
abbrev pub lines : List ℕ → List (List ℕ)
lines = slice_split (λ b. b == 10)

-- A line cut at each space. One space too many makes an empty word.
abbrev pub words : List ℕ → List (List ℕ)
words = slice_split (λ b. b == 32)

-- what a reader holds of the words that are left
abbrev pub words_left : Option (List ℕ) → List (List ℕ)
words_left None = []
words_left (Some bytes) = words bytes

-- `0` to `9`
abbrev pub is_digit : ℕ → Bool
is_digit b = nat_le 48 b && nat_le b 57

-- `0`, or a digit from 1 to 9 followed by digits
abbrev pub is_number : List ℕ → Bool
is_number [] = false
is_number (b ∷ []) = is_digit b
is_number (b ∷ c ∷ bs) = is_digit b && not (b == 48) && list_all is_digit (c ∷ bs)

-- the number that goes on with one more digit
abbrev pub with_digit : ℕ → ℕ → ℕ
with_digit number digit = 10 * number + (digit - 48)

-- the number that goes on with these digits
abbrev pub with_digits : ℕ → List ℕ → ℕ
with_digits number [] = number
with_digits number (b ∷ bs) = with_digits (with_digit number b) bs

-- the number that the word is, if it is one
abbrev pub number_of : List ℕ → Option ℕ
number_of word = if is_number word then Some (with_digits 0 word) else None

-- the number that the word is, from low to high
abbrev pub number_between : ℕ → ℕ → List ℕ → Option ℕ
number_between low high word = option_and_then (λ n. if nat_le low n && nat_le n high then Some n else None) (number_of word)

-- `a` to `z`
abbrev pub is_letter : ℕ → Bool
is_letter b = nat_le 97 b && nat_le b 122

-- a letter, a digit or `_`
abbrev pub is_name_byte : ℕ → Bool
is_name_byte b = is_letter b || is_digit b || b == 95

-- 1 to 16 bytes, the first a letter
abbrev pub is_name : List ℕ → Bool
is_name [] = false
is_name (b ∷ bs) = is_letter b && list_all is_name_byte bs && nat_le (length bs) 15

abbrev pub is_empty : List ℕ → Bool
is_empty word = length word == 0

-- words parted by one space, and LF
abbrev pub line : List (List ℕ) → List ℕ
line words = join_with_byte 32 words ++ 10 ∷ []
