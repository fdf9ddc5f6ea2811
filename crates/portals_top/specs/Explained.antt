-- What is said on standard error beside the answer.
use Rattle.std.specs.Prelude.{ℕ, ◌≡◌, List, [], ◌∷◌, ◌++◌, Option, Some, None, IsSomeAnd}
use Rattle.port_io.specs.Ends.{Outflow}
use Rattle.coll_lang.specs.declared.fault.Refusal.{Refusal}
use Rattle.coll_lang.specs.declared.fault.ParseFault.{ParseFault}
use Rattle.coll_lang.specs.declared.fault.ParseFault.TheVariants as faults
use Rattle.text_notes.specs.notes.Causes.{name_of}
use Rattle.text_notes.specs.notes.Notes.{note_text}
use Rattle.text_notes.specs.notes.Shown.{IsNote}
use Rattle.text_notes.specs.declared.notes.note.Note.{Note}
use Rattle.text_notes.specs.declared.notes.note.About.{About}
use Rattle.text_notes.specs.declared.notes.note.About.TheVariants as abouts
use Rattle.text_notes.specs.Places.{IsNamed, Stands, line_at, line_of_order}
use Rattle.note_lines.specs.Said.{Begins, BeginsNotes}
use Rattle.run_text.specs.Orders.{fails_line}
use Rattle.run_text.specs.Putting.{Ends}
use Rattle.run_text.specs.Refused.{refusal_line}
use Rattle.cuts.specs.declared.orders.Verdict.{Verdict}
use Rattle.cuts.specs.declared.orders.Verdict.TheVariants.{Holds, Fails}
use Rattle.portals_top.specs.declared.begun.Begun.{Begun}
use Rattle.portals_top.specs.declared.begun.Begun.TheVariants as begun
use Rattle.run_text.specs.declared.status.Status.{Status}
use Rattle.run_text.specs.declared.status.Status.TheVariants.{Done, Usage, Refused, ReadFault, WriteFault, NoMemory}

-- the line on standard output beside which a note stands
abbrev pub answer_to : ℕ → About → List ℕ
answer_to line (abouts.Refused cause) = refusal_line line (name_of cause)
answer_to line (abouts.Fails rank place cause) = fails_line rank place cause

abbrev pub answer_of : Note → List ℕ
answer_of note = answer_to note.line note.about

-- it is about a refusal, and not about orders
abbrev pub IsRefusal : About → Type 0
IsRefusal (abouts.Refused cause) = Unit {0}
IsRefusal (abouts.Fails rank place cause) = ⊥

abbrev pub IsOfRefusal : Note → Type 0
IsOfRefusal note = IsRefusal note.about

-- a note of the line of a rank's order in this text; what it shows stands in its column there
abbrev pub PointsAtOrder : List ℕ → ℕ → Note → Type 0
PointsAtOrder bytes rank note = (note.line ≡ line_of_order bytes rank) × (note.path ≡ []) × Stands (line_at bytes note.line) note

-- a note about what fails at a rank points at its order in this text
abbrev pub IsPlacedBy : List ℕ → About → Note → Type 0
IsPlacedBy bytes (abouts.Refused cause) note = Unit {0}
IsPlacedBy bytes (abouts.Fails rank place cause) note = PointsAtOrder bytes rank note

abbrev pub IsPlaced : List ℕ → Note → Type 0
IsPlaced bytes note = IsPlacedBy bytes note.about note

-- of a refusal, or of orders that fail, there is such a note, and its line stands in the sink
abbrev pub TellsOf : (Note → Type 0) → Status → Outflow → Outflow → Option Note → Type 0
TellsOf IsSuch Done sink sink' told = Unit {0}
TellsOf IsSuch Usage sink sink' told = Unit {0}
TellsOf IsSuch Refused sink sink' told = IsSomeAnd told (λ note. Ends sink sink' (answer_of note) × IsSuch note)
TellsOf IsSuch ReadFault sink sink' told = Unit {0}
TellsOf IsSuch WriteFault sink sink' told = Unit {0}
TellsOf IsSuch NoMemory sink sink' told = Unit {0}

abbrev pub Tells : Status → Outflow → Outflow → Option Note → Type 0
Tells status sink sink' told = TellsOf IsOfRefusal status sink sink' told

-- the same of what one thread does, which leaves nothing of a refusal to workers
abbrev pub TellsBegunOf : (Note → Type 0) → Begun → Outflow → Outflow → Option Note → Type 0
TellsBegunOf IsSuch (begun.Answered status) sink sink' told = TellsOf IsSuch status sink sink' told
TellsBegunOf IsSuch (begun.Run crew job) sink sink' told = Unit {0}
TellsBegunOf IsSuch (begun.Large number workers job) sink sink' told = Unit {0}

abbrev pub TellsBegun : Begun → Outflow → Outflow → Option Note → Type 0
TellsBegun begun sink sink' told = TellsBegunOf IsOfRefusal begun sink sink' told

-- there is a note of orders in a text that fail
abbrev pub NotesVerdict : List ℕ → Verdict → Option Note → Type 0
NotesVerdict bytes Holds told = told ≡ None
NotesVerdict bytes (Fails r place cause) told =
    IsSomeAnd told (λ note. (note.about ≡ abouts.Fails r place cause) × PointsAtOrder bytes r note)

-- a note of that line and that name
abbrev pub Points : ℕ → Refusal → Option Note → Type 0
Points line name told = IsSomeAnd told (λ note. (note.line ≡ line) × IsNamed name note.about)

-- where a text is refused, there is a note of the refusal
abbrev pub PointsAt : ParseFault → Option Note → Type 0
PointsAt (faults.Refused line name) told = Points line name told
PointsAt faults.NoMemory told = Unit {0}

-- the line of a note, or a beginning of it
pub record SaysNote (old new : Outflow) (note : Note) : Type 0 where
  pub line : IsNote (note_text note)
  pub begun : Begins old new (note_text note ++ 10 ∷ [])

abbrev pub SaysOf : Option Note → Outflow → Outflow → Type 0
SaysOf None old new = new ≡ old
SaysOf (Some note) old new = SaysNote old new note

-- what is said beside an answer, where there may be a note
abbrev pub Says : Status → Option Note → Outflow → Outflow → Type 0
Says Done told old new = new ≡ old
Says Usage told old new = BeginsNotes old new
Says Refused told old new = SaysOf told old new
Says ReadFault told old new = BeginsNotes old new
Says WriteFault told old new = BeginsNotes old new
Says NoMemory told old new = BeginsNotes old new

-- What standard error took, where the source has this text: nothing beside a result; beside a refusal, or orders that fail, the line of a
-- note of it, or a beginning of that line; and else lines of notes or a beginning of them.
abbrev pub Explained : List ℕ → Status → Outflow → Outflow → Outflow → Outflow → Type 0
Explained bytes Done sink sink' old new = new ≡ old
Explained bytes Usage sink sink' old new = BeginsNotes old new
Explained bytes Refused sink sink' old new = (note : Note) × Ends sink sink' (answer_of note) × IsPlaced bytes note × SaysNote old new note
Explained bytes ReadFault sink sink' old new = BeginsNotes old new
Explained bytes WriteFault sink sink' old new = BeginsNotes old new
Explained bytes NoMemory sink sink' old new = BeginsNotes old new
