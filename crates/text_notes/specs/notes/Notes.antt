-- The line of a note.
use Rattle.std.specs.Prelude.{ℕ, List, [], ◌∷◌, ◌==◌, length, take, nat_lt, codes, if◌then◌else◌}
use Rattle.std.specs.List.{fold}
use Rattle.std.specs.Fmt.{decimal}
use Rattle.ptl_types.specs.declared.elements.ElemType.{ElemType}
use Rattle.ptl_types.specs.declared.elements.AtomicOp.{AtomicOp}
use Rattle.coll_shape.specs.declared.collectives.StepKind.{StepKind}
use Rattle.coll_shape.specs.Collectives.{kind_word}
use Rattle.coll_shape.specs.declared.collectives.TheConstants.{STEP_KINDS}
use Rattle.coll_text.specs.Text.{is_empty}
use Rattle.coll_lang.specs.Words.{op_word, type_word}
use Rattle.text_notes.specs.declared.notes.detail.Detail.{Detail}
use Rattle.text_notes.specs.declared.notes.detail.Detail.TheVariants.{Nothing, Number, TypeWord, Operations, Types, Steps}
use Rattle.text_notes.specs.declared.notes.detail.TheConstants.{OPERATIONS, TYPES}
use Rattle.text_notes.specs.declared.notes.note.TheConstants.{SHOWN}
use Rattle.text_notes.specs.declared.notes.note.Note.{Note}
use Rattle.text_notes.specs.declared.notes.note.About.{About}
use Rattle.text_notes.specs.declared.notes.note.About.TheVariants.{Refused, Fails}
use Rattle.text_notes.specs.notes.Shown.{then_shown}
use Rattle.text_notes.specs.notes.Messages.{Said, cause_message, fails_message}

-- a word as a note shows it: of a long one the first bytes and `..`
abbrev pub cut_word : List ℕ → List ℕ
cut_word word =
    if nat_lt SHOWN (length word) then then_shown (then_shown [] (take SHOWN word)) (codes "..") else then_shown [] word

-- ---- a text goes on

abbrev pub then_number : List ℕ → ℕ → List ℕ
then_number text n = then_shown text (decimal n)

-- with a space and a word
abbrev pub then_word : List ℕ → List ℕ → List ℕ
then_word text word = then_shown (then_shown text (codes " ")) word

abbrev pub then_operations : List ℕ → List AtomicOp → List ℕ
then_operations text ops = fold (λ t op. then_word t (op_word op)) text ops

abbrev pub then_types : List ℕ → List ElemType → List ℕ
then_types text types = fold (λ t ty. then_word t (type_word ty)) text types

abbrev pub then_steps : List ℕ → List StepKind → List ℕ
then_steps text kinds = fold (λ t kind. then_word t (kind_word kind)) text kinds

abbrev pub then_detail : List ℕ → Detail → List ℕ
then_detail text Nothing = text
then_detail text (Number n) = then_number text n
then_detail text (TypeWord ty) = then_shown text (type_word ty)
then_detail text Operations = then_operations text OPERATIONS
then_detail text Types = then_types text TYPES
then_detail text Steps = then_steps text STEP_KINDS

abbrev pub then_said : List ℕ → Said → List ℕ
then_said text s = then_shown (then_detail (then_shown text s.head) s.detail) s.tail

-- ---- the parts of a line

-- no column is 0
abbrev pub then_column : List ℕ → ℕ → List ℕ
then_column text column = if column == 0 then text else then_number (then_shown text (codes ", column ")) column

-- a line and a column; line 0 is the whole text
unfoldable pub line_place : ℕ → ℕ → List ℕ
line_place line column =
    if line == 0 then [] else then_shown (then_column (then_number (then_shown [] (codes "line ")) line) column) (codes ": ")

-- the line of a line text
unfoldable pub then_text_line : List ℕ → ℕ → List ℕ
then_text_line text line = then_shown (then_number (then_shown text (codes " (line ")) line) (codes " of its line text)")

-- the same, where it is a line
abbrev pub then_line : List ℕ → ℕ → List ℕ
then_line text line = if line == 0 then text else then_text_line text line

-- a place in JSON, and the line of the line text
unfoldable pub path_place : List ℕ → ℕ → List ℕ
path_place path line = then_shown (then_line (then_shown [] path) line) (codes ": ")

abbrev pub place_of : Note → List ℕ
place_of note = if is_empty note.path then line_place note.line note.column else path_place note.path note.line

-- the word that stands in the column
abbrev pub then_found : List ℕ → ℕ → List ℕ → List ℕ
then_found text column found =
    if column == 0 then text else then_shown (then_shown (then_shown text (codes "'")) found) (codes "' ")

abbrev pub message_of : About → Said
message_of (Refused cause) = cause_message cause
message_of (Fails rank place cause) = fails_message cause

-- the place, the word that stands there, and what is said of it
unfoldable pub note_text : Note → List ℕ
note_text note = then_said (then_found (place_of note) note.column note.found) (message_of note.about)
