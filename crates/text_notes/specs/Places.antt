-- What a note says of a text.
use Rattle.std.specs.Prelude.{ℕ, ◌≡◌, ◌≤◌, ◌+◌, ◌-◌, List, [], get_or, length, min}
use Rattle.std.specs.List.{slice_range}
use Rattle.coll_text.specs.Text.{lines}
use Rattle.coll_lang.specs.declared.fault.Refusal.{Refusal}
use Rattle.order_lines.specs.Check.{line_after}
use Rattle.text_notes.specs.declared.notes.note.About.{About}
use Rattle.text_notes.specs.declared.notes.note.About.TheVariants.{Refused, Fails}
use Rattle.text_notes.specs.declared.notes.note.Note.{Note}
use Rattle.text_notes.specs.notes.Causes.{name_of}
use Rattle.text_notes.specs.notes.Notes.{cut_word}

-- line k of a text, counted from 1
abbrev pub line_at : List ℕ → ℕ → List ℕ
line_at bytes k = get_or (lines bytes) (k - 1) []

-- the line of a rank's order in a text of a description and orders; a number stands still at its type's end
abbrev pub line_of_order : List ℕ → ℕ → ℕ
line_of_order bytes rank = min (line_after 1 (lines bytes) + rank) 4294967295

-- it is about a refusal of that name
abbrev pub IsNamed : Refusal → About → Type 0
IsNamed name (Refused cause) = name_of cause ≡ name
IsNamed name (Fails rank place cause) = ⊥

-- What a note shows are the bytes from its column on up to some byte of the line; a note without a column shows none.
pub record Stands (text : List ℕ) (note : Note) : Type 0 where
  pub end : ℕ
  pub within : end ≤ length text
  pub column : note.column ≤ length text + 1
  pub found : note.found ≡ cut_word (slice_range text (note.column - 1) end)
