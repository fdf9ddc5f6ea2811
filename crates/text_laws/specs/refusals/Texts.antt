-- The table of refusals on whole texts: the length first, then the lowest line, then the lowest row.
use Rattle.std.specs.Prelude.{◌≡◌, ◌≤◌, ◌<◌, ◌↔◌, ℕ, ◌+◌, List, [], ◌∷◌, ◌++◌, length, Option, Some, None, Result, Ok, Err, Bool, false}
use Rattle.std.specs.Prelude.{◌&&◌, not, option_and_then, ◌⊎◌}
use Rattle.coll_text.specs.Text.{lines, is_empty}
use Rattle.coll_lang.specs.Language.{Past, nothing, judge, is_finished, read}
use Rattle.coll_lang.specs.declared.fault.Refusal.{Refusal}
use Rattle.coll_lang.specs.declared.fault.Refusal.TheVariants.{TooLong, Unended, AfterEnd}
use Rattle.coll_lang.specs.declared.whole.TheConstants.{LONGEST_TEXT}
use Rattle.text_laws.specs.refusals.Table.{IsLowest}
use Rattle.text_laws.specs.refusals.Rows.{Counts, offends}

abbrev pub taken : Result Past Refusal → Option Past
taken (Ok past) = Some past
taken (Err name) = None

-- what lines say, each judged by the lines before it; nothing where one is refused
abbrev pub said_by : Past → List (List ℕ) → Option Past
said_by past [] = Some past
said_by past (line ∷ lines) = option_and_then (λ next. said_by next lines) (taken (judge past line))

-- A piece of a text offends the row of that name, by what the lines before it say and the pieces after it. No LF stands after
-- the last piece: where a line is due it is Unended, whatever it holds. Where none is due, bytes are AfterEnd, whatever they are.
abbrev pub piece_offends : Past → List ℕ → List (List ℕ) → Refusal → Bool
piece_offends past piece [] Unended = not (is_finished past.stage)
piece_offends past piece [] AfterEnd = is_finished past.stage && not (is_empty piece)
piece_offends past piece [] name = false
piece_offends past piece (next ∷ pieces) AfterEnd = is_finished past.stage
piece_offends past piece (next ∷ pieces) name = not (is_finished past.stage) && offends past piece name

-- no line before line k is refused, and this is the lowest row that line k offends
pub record IsRefusedAt (bytes : List ℕ) (k : ℕ) (name : Refusal) : Type 0 where
  pub before : List (List ℕ)
  pub piece : List ℕ
  pub after : List (List ℕ)
  pub past : Past
  pub are : lines bytes ≡ before ++ piece ∷ after
  pub number : k ≡ length before + 1
  pub says : said_by nothing before ≡ Some past
  pub row : IsLowest (piece_offends past piece after) name

abbrev pub IsFirstRefusal : List ℕ → ℕ → Refusal → Type 0
IsFirstRefusal bytes k name =
    ((LONGEST_TEXT < length bytes) × (k ≡ 0) × (name ≡ TooLong)) ⊎ ((length bytes ≤ LONGEST_TEXT) × IsRefusedAt bytes k name)

-- What reading answers is the first refusal of the table, both ways.
abbrev pub TextsByTheRows : Type 0
TextsByTheRows = (bytes : List ℕ) (k : ℕ) (name : Refusal) → read bytes ≡ Err (k, name) ↔ IsFirstRefusal bytes k name

-- Whatever lines say from the beginning on tells the elements of its prints, and no group of it is empty.
abbrev pub LinesCount : Type 0
LinesCount = (before : List (List ℕ)) (past : Past) → said_by nothing before ≡ Some past → Counts past
