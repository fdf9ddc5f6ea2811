-- What is said beside an answer, on a line for a person.
use Rattle.std.specs.Prelude.{ℕ, ◌≡◌, ◌<◌, nat_lt, List, [], length, take, Option, Some, None, if◌then◌else◌}
use Rattle.coll_text.specs.Text.{lines}
use Rattle.coll_lang.specs.declared.fault.Refusal.{Refusal}
use Rattle.given_verdicts.specs.declared.answer.TextRefusal.{TextRefusal}
use Rattle.given_verdicts.specs.declared.answer.TextRefusal.TheVariants as texts
use Rattle.given_verdicts.specs.declared.answer.GivenCause.{GivenCause}
use Rattle.given_verdicts.specs.declared.answer.GivenCause.TheVariants as causes
use Rattle.given_verdicts.specs.declared.answer.GivenAnswer.{GivenAnswer}
use Rattle.given_verdicts.specs.declared.answer.GivenAnswer.TheVariants.{Holds, Fails, Unknown, Refused}
use Rattle.text_notes.specs.declared.notes.note.Note.{Note}
use Rattle.text_notes.specs.notes.Notes.{line_place, note_text}
use Rattle.text_notes.specs.notes.Shown.{then_shown}
use Rattle.text_notes.specs.Places.{IsNamed, Stands, line_at}
use Rattle.order_lines.specs.Check.{description_bytes}
use Rattle.given_verdicts.specs.declared.judging.TheConstants.{LONGEST_GIVEN}
use Rattle.plan_top.specs.declared.notes.again.GivenText.{GivenText}
use Rattle.plan_top.specs.declared.notes.table.TheConstants.{DIFFERS, UNKNOWN}
use Rattle.plan_top.specs.notes.Again.{given_in}
use Rattle.plan_top.specs.notes.Dues.{refused_words}
use Rattle.plan_top.specs.notes.Failing.{given_words, place_words}
use Rattle.plan_top.specs.notes.Table.{plan_words}

-- a message of line n; line 0 is the whole text
abbrev pub noted : ℕ → List ℕ → List ℕ
noted n message = then_shown (line_place n 0) message

-- where a text isn't refused
abbrev pub in_given : Option GivenText → ℕ → GivenCause → List ℕ
in_given None n cause = []
in_given (Some t) n cause = given_words t n cause

-- what is at fault in line n of a text
abbrev pub fails_words : List ℕ → ℕ → GivenCause → List ℕ
fails_words bytes n (causes.Plan cause) = noted 0 (plan_words cause)
fails_words bytes n (causes.Value name r i) = place_words name r i DIFFERS.now
fails_words bytes n cause = in_given (given_in bytes) n cause

-- ---- a refusal

-- The text of a note of a refusal of this name in line n of a text, counted from 1; 0 is the whole text. What the note shows of a line
-- stands in its column there.
pub record IsNoteOf (bytes : List ℕ) (n : ℕ) (name : Refusal) (text : List ℕ) : Type 0 where
  pub note : Note
  pub line : note.line ≡ n
  pub named : IsNamed name note.about
  pub path : note.path ≡ []
  pub found : 0 < n → Stands (line_at bytes n) note
  pub shown : text ≡ note_text note

-- what is read as the description
abbrev pub description_in : List ℕ → List ℕ
description_in bytes = if nat_lt LONGEST_GIVEN (length bytes) then bytes else take (description_bytes (lines bytes)) bytes

abbrev pub RefusedSo : List ℕ → ℕ → TextRefusal → List ℕ → Type 0
RefusedSo bytes n (texts.Description name) text = IsNoteOf (description_in bytes) n name text
RefusedSo bytes n (texts.Plan name) text = text ≡ noted n (refused_words bytes n name)

-- ---- an answer

-- What is told beside the answer on a text; nothing beside `holds`.
abbrev pub Notes : List ℕ → GivenAnswer → List ℕ → Type 0
Notes bytes Holds text = text ≡ []
Notes bytes (Fails n cause) text = text ≡ noted n (fails_words bytes n cause)
Notes bytes (Unknown n name r i) text = text ≡ noted n (place_words name r i UNKNOWN.now)
Notes bytes (Refused n name) text = RefusedSo bytes n name text
