-- A line: which flaw is told first, and what it says where it has none.
use Rattle.std.specs.Prelude.{ℕ, ◌+◌, ◌-◌, ◌^◌, ◌&&◌, ◌==◌, nat_le, nat_lt, List, [], ◌∷◌, length, Option, Some, None, Result, Ok, Err}
use Rattle.std.specs.Prelude.{Bool, false, not, if◌then◌else◌, codes}
use Rattle.std.specs.List.{position}
use Rattle.std.specs.Str.{bytes_eq}
use Rattle.coll_text.specs.Text.{is_empty}
use Rattle.log_words.specs.Words.{Word, Rest, all_words, amount_within}
use Rattle.log_words.specs.Reading.{◌>>=◌, flaw_at, name_next, next, or_flaw, said_next}
use Rattle.log_lines.specs.Calls.{call_next}
use Rattle.log_words.specs.declared.faults.Flaw.TheVariants.{BadByte, BadLine, BadSpace, TooLong}
use Rattle.log_words.specs.declared.faults.LineFault.{LineFault}
use Rattle.log_lines.specs.declared.lines.Line.{Line}
use Rattle.log_lines.specs.declared.lines.Line.TheVariants.{Note, Tells, Loses, Settles, Calls}
use Rattle.log_lines.specs.declared.lines.TheConstants.{LONGEST_LINE}

-- ---- flaws that are told before any word is read: too long, the first byte that may not stand there, the first empty word

abbrev pub is_allowed : ℕ → Bool
is_allowed b = nat_le 32 b && nat_le b 126

-- `#` and anything
abbrev pub is_note : List ℕ → Bool
is_note [] = false
is_note (b ∷ bs) = b == 35

abbrev pub empty_flaw : List Word → Option LineFault
empty_flaw [] = None
empty_flaw (w ∷ ws) = if is_empty w.text then Some (flaw_at w.column BadSpace) else empty_flaw ws

abbrev pub space_flaw : List ℕ → Option LineFault
space_flaw line = if is_note line then None else empty_flaw (all_words line).words

abbrev pub byte_flaw : Option ℕ → List ℕ → Option LineFault
byte_flaw (Some i) line = Some (flaw_at (i + 1) BadByte)
byte_flaw None line = space_flaw line

unfoldable pub early_flaw : List ℕ → Option LineFault
early_flaw line =
    if nat_lt LONGEST_LINE (length line) then Some (flaw_at (LONGEST_LINE + 1) TooLong)
    else byte_flaw (position (λ b. not (is_allowed b)) line) line

-- ---- by the first word

-- no word follows
abbrev pub alone_of : Line → List Word → Result Line LineFault
alone_of l [] = Ok l
alone_of l (w ∷ ws) = Err (flaw_at w.column BadLine)

unfoldable pub alone : Line → Rest → Result Line LineFault
alone l r = alone_of l r.words

-- `lose W`
unfoldable pub loses : Rest → Result Line LineFault
loses r = name_next r >>= (λ w. alone (Loses w.value) w.left)

-- `RANK CALL .. -> ..`
unfoldable pub called : Word → Rest → Result Line LineFault
called w r = do
  rank ← or_flaw (flaw_at w.column BadLine) (amount_within (2 ^ 32 - 1) w.text)
  call ← call_next r
  said ← said_next call.left
  Ok (Calls rank call.value said)

-- `message W ..`: the words after W are compared, and none of them read
unfoldable pub tells : Rest → Result Line LineFault
tells r = name_next r >>= (λ m. Ok (Tells m.value m.left))

unfoldable pub line_of : Word → Rest → Result Line LineFault
line_of w r =
    if bytes_eq w.text (codes "message") then tells r
    else if bytes_eq w.text (codes "lose") then loses r
    else if bytes_eq w.text (codes "settle") then alone Settles r
    else called w r

unfoldable pub words_read : List ℕ → Result Line LineFault
words_read line = if is_note line then Ok Note else (next (all_words line) >>= (λ w. line_of w.value w.left))

abbrev pub read_after : Option LineFault → List ℕ → Result Line LineFault
read_after (Some fault) line = Err fault
read_after None line = words_read line

-- a line between the first two and `end`
unfoldable pub read_line : List ℕ → Result Line LineFault
read_line line = read_after (early_flaw line) line
