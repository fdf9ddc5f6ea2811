-- The words of a line with the columns where they begin, and what single words say.
use Rattle.std.specs.Prelude.{ℕ, ◌+◌, ◌-◌, ◌*◌, ◌%◌, List, [], ◌∷◌, length, drop, take, Option, Some, None, Bool, true, false, ◌&&◌}
use Rattle.std.specs.Prelude.{◌||◌, not}
use Rattle.std.specs.Prelude.{◌==◌, nat_eq, nat_le, is_some, if◌then◌else◌, option_and_then, codes}
use Rattle.std.specs.List.{list_all, list_any, position, starts_with}
use Rattle.std.specs.Str.{bytes_eq}
use Rattle.coll_text.specs.Text.{is_digit, is_empty, number_of, words}

-- a word, and the column of its first byte, from 1
pub record Word : Type 0 where
  pub text : List ℕ
  pub column : ℕ

abbrev pub word : List ℕ → ℕ → Word
word text column = record { text = text; column = column }

-- the words that are left of a line, and the column in which a further one would begin
pub record Rest : Type 0 where
  pub words : List Word
  pub past : ℕ

abbrev pub rest : List Word → ℕ → Rest
rest words past = record { words = words; past = past }

-- words with one space between two, the first of them in this column
abbrev pub placed : ℕ → List (List ℕ) → List Word
placed k [] = []
placed k (w ∷ ws) = word w k ∷ placed (k + length w + 1) ws

-- the column in which a further word would begin
abbrev pub behind : ℕ → List (List ℕ) → ℕ
behind k [] = k
behind k (w ∷ ws) = behind (k + length w + 1) ws

abbrev pub rest_from : ℕ → List (List ℕ) → Rest
rest_from k ws = rest (placed k ws) (behind k ws)

-- all words of a line
abbrev pub all_words : List ℕ → Rest
all_words line = rest_from 1 (words line)

-- where the next word begins, or would begin
abbrev pub begins_at : List Word → ℕ → ℕ
begins_at [] past = past
begins_at (w ∷ ws) past = w.column

abbrev pub begins : Rest → ℕ
begins r = begins_at r.words r.past

-- what parts a call from its answer
abbrev pub is_arrow : Word → Bool
is_arrow w = bytes_eq w.text (codes "->")

-- no word is left before `->` and the end
abbrev pub over : List Word → Bool
over [] = true
over (w ∷ ws) = is_arrow w

-- no word is left
abbrev pub is_last : List Word → Bool
is_last [] = true
is_last (w ∷ ws) = false

-- ---- numbers

-- the value of `0` to `9` and `a` to `f`
abbrev pub hex_digit : ℕ → Option ℕ
hex_digit b = if is_digit b then Some (b - 48) else if nat_le 97 b && nat_le b 102 then Some (b - 87) else None

-- the number that goes on with these digits
abbrev pub with_hex_digits : ℕ → List ℕ → Option ℕ
with_hex_digits number [] = Some number
with_hex_digits number (b ∷ bs) = option_and_then (λ digit. with_hex_digits (16 * number + digit) bs) (hex_digit b)

-- one digit or more
abbrev pub hexadecimal : List ℕ → Option ℕ
hexadecimal [] = None
hexadecimal (b ∷ bs) = with_hex_digits 0 (b ∷ bs)

-- decimal without a 0 before other digits, or `0x` and hexadecimal
abbrev pub amount_of : List ℕ → Option ℕ
amount_of w = if starts_with nat_eq w (codes "0x") then hexadecimal (drop 2 w) else number_of w

-- a number, where it is one up to the greatest that may stand there
abbrev pub within : ℕ → Option ℕ → Option ℕ
within most = option_and_then (λ n. if nat_le n most then Some n else None)

unfoldable pub amount_within : ℕ → List ℕ → Option ℕ
amount_within most w = within most (amount_of w)

-- ---- bytes: two digits a byte, and `-` for none

abbrev pub is_hex : ℕ → Bool
is_hex b = is_some (hex_digit b)

unfoldable pub is_hex_word : List ℕ → Bool
is_hex_word w = bytes_eq w (codes "-") || (not (is_empty w) && (length w % 2 == 0 && list_all is_hex w))

-- ---- names

-- words that say something else, so that they name nothing: signs, and the names of refusals
abbrev pub signs : List (List ℕ)
signs = codes "?" ∷ codes "-" ∷ codes "->" ∷ codes "ok" ∷ codes "none" ∷ []

abbrev pub state_refusals : List (List ℕ)
state_refusals =
    codes "Stale" ∷ codes "NoSpace" ∷ codes "OutOfRegion" ∷ codes "InUse" ∷ codes "CountFull" ∷ codes "NoMemory" ∷ []

abbrev pub condition_refusals : List (List ℕ)
condition_refusals =
    codes "UnknownRank" ∷ codes "UnfitLimits" ∷ codes "TooLong" ∷ codes "PartialElement" ∷ codes "HalvesDiffer"
    ∷ codes "AsksAcknowledgement" ∷ codes "NoRoom" ∷ codes "OutsideRegion" ∷ codes "Elsewhere" ∷ codes "NotReady" ∷ []

unfoldable pub is_reserved : List ℕ → Bool
is_reserved w =
    list_any (bytes_eq w) signs || (list_any (bytes_eq w) state_refusals || list_any (bytes_eq w) condition_refusals)

-- a device's own word for a handle or a message, or a log's for a triggered operation: 1 to 64 bytes
unfoldable pub is_name_word : List ℕ → Bool
is_name_word w = not (is_empty w) && (nat_le (length w) 64 && (not (list_any (λ b. b == 61) w) && not (is_reserved w)))

-- ---- fields: `KEY=VALUE`, and flags, which stand without `=`

-- the place of the first `=`
abbrev pub equals_in : List ℕ → Option ℕ
equals_in = position (λ b. b == 61)

abbrev pub key_by : Option ℕ → List ℕ → List ℕ
key_by None text = text
key_by (Some i) text = take i text

unfoldable pub key_of : Word → List ℕ
key_of w = key_by (equals_in w.text) w.text

-- the word behind `=`, in its column
abbrev pub value_by : Option ℕ → Word → Option Word
value_by None w = None
value_by (Some i) w = Some (word (drop (i + 1) w.text) (w.column + i + 1))

unfoldable pub value_of : Word → Option Word
value_of w = value_by (equals_in w.text) w
