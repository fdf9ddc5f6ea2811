-- How the words of a line are read, from the left, and which flaw is told first.
use Rattle.std.specs.Prelude.{ℕ, ◌-◌, ◌^◌, List, [], ◌∷◌, ◌++◌, Option, Some, None, Result, Ok, Err, Bool, true, if◌then◌else◌}
use Rattle.std.specs.List.{list_any}
use Rattle.std.specs.Str.{bytes_eq}
use Rattle.log_words.specs.Words.{Word, Rest, rest, is_arrow, amount_within, is_hex_word, is_name_word, key_of, value_of}
use Rattle.log_words.specs.declared.faults.Flaw.{Flaw}
use Rattle.log_words.specs.declared.faults.Flaw.TheVariants.{BadHex, BadLine, BadNumber, BadWord, WordTwice}
use Rattle.log_words.specs.declared.faults.LineFault.{LineFault}

-- the flaw that is told at a column
abbrev pub flaw_at : ℕ → Flaw → LineFault
flaw_at column flaw = record { column = column; flaw = flaw }

infixl 10 ◌>>=◌
abbrev pub ◌>>=◌ : {A B E : Type 0} → Result A E → (A → Result B E) → Result B E
(Ok x) >>= f = f x
(Err e) >>= f = Err e

-- ---- the words of a call, up to `->`

-- what was read, and what is left
pub record Taken (A : Type 0) : Type 0 where
  pub value : A
  pub left : Rest

abbrev pub taken : {A : Type 0} → A → Rest → Taken A
taken x left = record { value = x; left = left }

-- what a reader answers, and what it leaves
abbrev pub yielded : {A E : Type 0} → Result A E → Rest → Result (Taken A) E
yielded (Ok x) left = Ok (taken x left)
yielded (Err e) left = Err e

-- one word more, which must be there
abbrev pub next_of : List Word → ℕ → Result (Taken Word) LineFault
next_of [] past = Err (flaw_at past BadLine)
next_of (w ∷ ws) past = if is_arrow w then Err (flaw_at w.column BadLine) else Ok (taken w (rest ws past))

unfoldable pub next : Rest → Result (Taken Word) LineFault
next r = next_of r.words r.past

-- what the word says, or its flaw
abbrev pub says : {A : Type 0} → Flaw → Option A → Taken Word → Result (Taken A) LineFault
says flaw None t = Err (flaw_at t.value.column flaw)
says flaw (Some x) t = Ok (taken x t.left)

abbrev pub next_as : {A : Type 0} → Flaw → (Word → Option A) → Rest → Result (Taken A) LineFault
next_as flaw meaning r = next r >>= (λ t. says flaw (meaning t.value) t)

abbrev pub named : Word → Option Word
named w = if is_name_word w.text then Some w else None

abbrev pub bytes_word : Word → Option Word
bytes_word w = if is_hex_word w.text then Some w else None

-- a name, a number below 2^64 and one below 2^32, and bytes, which stay a word
unfoldable pub name_next : Rest → Result (Taken Word) LineFault
name_next = next_as BadWord named

unfoldable pub amount_next : Rest → Result (Taken ℕ) LineFault
amount_next = next_as BadNumber (λ (w : Word). amount_within (2 ^ 64 - 1) w.text)

unfoldable pub small_next : Rest → Result (Taken ℕ) LineFault
small_next = next_as BadNumber (λ (w : Word). amount_within (2 ^ 32 - 1) w.text)

unfoldable pub bytes_next : Rest → Result (Taken Word) LineFault
bytes_next = next_as BadHex bytes_word

-- what is said behind `->`: no word is left before it
abbrev pub said_of : List Word → ℕ → Result Rest LineFault
said_of [] past = Ok (rest [] past)
said_of (w ∷ ws) past = if is_arrow w then Ok (rest ws past) else Err (flaw_at w.column BadLine)

unfoldable pub said_next : Rest → Result Rest LineFault
said_next r = said_of r.words r.past

-- ---- fields and flags, in any order, each at most once

-- a flaw of a field is told at the field
abbrev pub at_word : {X : Type 0} → Word → Result X Flaw → Result X LineFault
at_word w (Ok x) = Ok x
at_word w (Err flaw) = Err (flaw_at w.column flaw)

abbrev pub same_key : Word → Word → Bool
same_key w b = bytes_eq (key_of w) (key_of b)

-- One field or flag changes one thing of what the fields are of: `set` says what, by its key and the word behind `=`. Those before it
-- stand beside it.
abbrev pub with_fields : {X : Type 0} → (List ℕ → Option Word → X → Result X Flaw) → List Word → List Word → ℕ → X
    → Result (Taken X) LineFault
with_fields set before [] past x = Ok (taken x (rest [] past))
with_fields set before (w ∷ ws) past x =
    if is_arrow w then Ok (taken x (rest (w ∷ ws) past))
    else if list_any (same_key w) before then Err (flaw_at w.column WordTwice)
    else (at_word w (set (key_of w) (value_of w) x) >>= (λ y. with_fields set (before ++ w ∷ []) ws past y))

unfoldable pub fields_next : {X : Type 0} → (List ℕ → Option Word → X → Result X Flaw) → X → Rest → Result (Taken X) LineFault
fields_next set plain r = with_fields set [] r.words r.past plain

-- ---- what a field says, or its flaw

abbrev pub or_flaw : {A E : Type 0} → E → Option A → Result A E
or_flaw e None = Err e
or_flaw e (Some x) = Ok x

unfoldable pub amount_in : Option Word → Result ℕ Flaw
amount_in None = Err BadWord
amount_in (Some w) = or_flaw BadNumber (amount_within (2 ^ 64 - 1) w.text)

unfoldable pub small_in : Option Word → Result ℕ Flaw
small_in None = Err BadWord
small_in (Some w) = or_flaw BadNumber (amount_within (2 ^ 32 - 1) w.text)

unfoldable pub name_in : Option Word → Result Word Flaw
name_in None = Err BadWord
name_in (Some w) = or_flaw BadWord (named w)

unfoldable pub bytes_in : Option Word → Result Word Flaw
bytes_in None = Err BadWord
bytes_in (Some w) = or_flaw BadHex (bytes_word w)

-- a flag stands without `=`
unfoldable pub flag_in : Option Word → Result Bool Flaw
flag_in None = Ok true
flag_in (Some w) = Err BadWord
