-- What is said beside an answer.
use Rattle.std.proofs.Common.{◌≡◌, ◌<◌, ◌≤◌, ℕ, List, [], length, Option, Some, None, sym, ap, subst, ◌∙◌, arith, inl, inr}
use Rattle.port_io.specs.Ends.{Outflow}
use Rattle.coll_lang.specs.declared.fault.Refusal.{Refusal}
use Rattle.order_lines.specs.declared.checking.TheConstants.{LONGEST_CHECK}
use Rattle.text_notes.specs.declared.notes.note.Note.{Note}
use Rattle.text_notes.specs.declared.notes.note.About.{About}
use Rattle.text_notes.specs.declared.notes.note.About.TheVariants as abouts
use Rattle.text_notes.specs.Places.{IsNamed}
use Rattle.run_text.specs.Orders.{fails_line}
use Rattle.run_text.specs.Putting.{Ends}
use Rattle.run_text.specs.Refused.{refusal_line}
use Rattle.cuts.specs.declared.orders.Verdict.{Verdict}
use Rattle.cuts.specs.declared.orders.Verdict.TheVariants.{Holds, Fails}
use Rattle.run_text.specs.declared.status.Status.{Status}
use Rattle.run_text.specs.declared.status.Status.TheVariants.{Done, Usage, Refused, ReadFault, WriteFault, NoMemory}
use Rattle.portals_top.specs.Checked.{due_verdict}
use Rattle.run_text.specs.Ending.{Due, Written, done, refused}
use Rattle.portals_top.specs.Due.{due}
use Rattle.portals_top.specs.Left.{nothing_ran}
use Rattle.portals_top.specs.declared.begun.Begun.{Begun}
use Rattle.portals_top.specs.declared.begun.Begun.TheVariants as begun
use Rattle.portals_top.specs.Explained.{Explained, IsOfRefusal, IsPlaced, IsPlacedBy, IsRefusal, NotesVerdict, Points, Says, Tells}
use Rattle.portals_top.specs.Explained.{TellsBegun, TellsBegunOf, TellsOf, answer_to}
use Rattle.run_text.proofs.Told.{AreAlike}

-- ---- notes of refusals

-- where no refusal is owed, none is told
not_refused : (P : Note → Type 0) (owed : Due) (sink sink' : Outflow) (status : Status) (told : Option Note)
    → (owed.status ≡ Refused → ⊥) → Written owed sink sink' status → TellsOf P status sink sink' told
not_refused P owed sink sink' Done told other written = tt
not_refused P owed sink sink' Usage told other written = tt
not_refused P owed sink sink' Refused told other written = absurd (other written.allowed)
not_refused P owed sink sink' ReadFault told other written = tt
not_refused P owed sink sink' WriteFault told other written = tt
not_refused P owed sink sink' NoMemory told other written = tt

pub done_tells : (text : List ℕ) (sink sink' : Outflow) (status : Status) (told : Option Note) → Written (done text) sink sink' status
    → Tells status sink sink' told
done_tells text sink sink' status told written = not_refused IsOfRefusal (done text) sink sink' status told (λ e. absurd (cc)) written

-- the same of the sink as it was before the run began
pub done_tells_since : (P : Note → Type 0) (text : List ℕ) (before after sink sink' : Outflow) (status : Status) (told : Option Note)
    → Written (done text) before after status → TellsOf P status sink sink' told
done_tells_since P text before after sink sink' Done told written = tt
done_tells_since P text before after sink sink' Usage told written = tt
done_tells_since P text before after sink sink' Refused told written = let e : Done ≡ Refused = written.allowed in absurd (cc)
done_tells_since P text before after sink sink' ReadFault told written = tt
done_tells_since P text before after sink sink' WriteFault told written = tt
done_tells_since P text before after sink sink' NoMemory told written = tt

pub usage_tells : (P : Note → Type 0) (sink sink' : Outflow) (status : Status) (told : Option Note)
    → Written (due None [] nothing_ran) sink sink' status → TellsOf P status sink sink' told
usage_tells P sink sink' status told written = not_refused P (due None [] nothing_ran) sink sink' status told (λ e. absurd (cc)) written

named_line : (about : About) (line : ℕ) (name : Refusal) → IsNamed name about → answer_to line about ≡ refusal_line line name
named_line (abouts.Refused cause) line name is = ap (refusal_line line) is
named_line (abouts.Fails rank place cause) line name is = absurd is

named_refusal : (about : About) (name : Refusal) → IsNamed name about → IsRefusal about
named_refusal (abouts.Refused cause) name is = tt
named_refusal (abouts.Fails rank place cause) name is = absurd is

note_tells : (line : ℕ) (name : Refusal) (sink sink' : Outflow) (told : Option Note) → Ends sink sink' (refusal_line line name)
    → Points line name told → Tells Refused sink sink' told
note_tells line name sink sink' None ends points = absurd points
note_tells line name sink sink' (Some note) ends points = (
  subst (λ text. Ends sink sink' text) (sym (ap (λ k. answer_to k note.about) points.0 ∙ named_line note.about line name points.1)) ends,
  named_refusal note.about name points.1,
)

-- a refusal whose note was kept
pub points_tell : (line : ℕ) (name : Refusal) (sink sink' : Outflow) (status : Status) (told : Option Note)
    → Written (refused line name) sink sink' status → Points line name told → Tells status sink sink' told
points_tell line name sink sink' Done told written points = tt
points_tell line name sink sink' Usage told written points = tt
points_tell line name sink sink' Refused told written points = note_tells line name sink sink' told written.text points
points_tell line name sink sink' ReadFault told written points = tt
points_tell line name sink sink' WriteFault told written points = tt
points_tell line name sink sink' NoMemory told written points = tt

-- ---- notes of orders in a text

-- a note of a refusal points at no order
refusal_placed : (bytes : List ℕ) (about : About) (note : Note) → IsRefusal about → IsPlacedBy bytes about note
refusal_placed bytes (abouts.Refused cause) note is = tt
refusal_placed bytes (abouts.Fails rank place cause) note is = absurd is

note_placed : (bytes : List ℕ) (sink sink' : Outflow) (told : Option Note) → Tells Refused sink sink' told
    → TellsOf (IsPlaced bytes) Refused sink sink' told
note_placed bytes sink sink' None tells = absurd tells
note_placed bytes sink sink' (Some note) tells = (tells.0, refusal_placed bytes note.about note tells.1)

pub tells_placed : (bytes : List ℕ) (status : Status) (sink sink' : Outflow) (told : Option Note) → Tells status sink sink' told
    → TellsOf (IsPlaced bytes) status sink sink' told
tells_placed bytes Done sink sink' told tells = tt
tells_placed bytes Usage sink sink' told tells = tt
tells_placed bytes Refused sink sink' told tells = note_placed bytes sink sink' told tells
tells_placed bytes ReadFault sink sink' told tells = tt
tells_placed bytes WriteFault sink sink' told tells = tt
tells_placed bytes NoMemory sink sink' told tells = tt

pub begun_placed : (bytes : List ℕ) (b : Begun) (sink sink' : Outflow) (told : Option Note) → TellsBegun b sink sink' told
    → TellsBegunOf (IsPlaced bytes) b sink sink' told
begun_placed bytes (begun.Answered status) sink sink' told tells = tells_placed bytes status sink sink' told tells
begun_placed bytes (begun.Run crew job) sink sink' told tells = tt
begun_placed bytes (begun.Large number workers job) sink sink' told tells = tt

fails_tell : (bytes : List ℕ) (r place : ℕ) (cause : _) (sink sink' : Outflow) (told : Option Note)
    → Ends sink sink' (fails_line r place cause) → NotesVerdict bytes (Fails r place cause) told
    → TellsOf (IsPlaced bytes) Refused sink sink' told
fails_tell bytes r place cause sink sink' None ends notes = absurd notes
fails_tell bytes r place cause sink sink' (Some note) ends notes = (
  subst (λ text. Ends sink sink' text) (sym (ap (answer_to note.line) notes.0)) ends,
  subst (λ about. IsPlacedBy bytes about note) (sym notes.0) notes.1,
)

-- a verdict whose note was kept
pub verdict_tells : (bytes : List ℕ) (v : Verdict) (status : Status) (sink sink' : Outflow) (told : Option Note)
    → status ≡ (due_verdict (Some v)).status → Ends sink sink' (due_verdict (Some v)).text → NotesVerdict bytes v told
    → TellsOf (IsPlaced bytes) status sink sink' told
verdict_tells bytes Holds status sink sink' told is ends notes = subst (λ s. TellsOf (IsPlaced bytes) s sink sink' told) (sym is) tt
verdict_tells bytes (Fails r place cause) status sink sink' told is ends notes =
    subst (λ s. TellsOf (IsPlaced bytes) s sink sink' told) (sym is) (fails_tell bytes r place cause sink sink' told ends notes)

-- what is told of a text that was read is told of the bytes of the source
pub read_tells : (bytes text : List ℕ) → AreAlike LONGEST_CHECK bytes text → (status : Status) (sink sink' : Outflow) (told : Option Note)
    → TellsOf (IsPlaced text) status sink sink' told → (LONGEST_CHECK < length text → Tells status sink sink' told)
    → TellsOf (IsPlaced bytes) status sink sink' told
read_tells bytes text (inl same) status sink sink' told tells long =
    subst (λ xs. TellsOf (IsPlaced xs) status sink sink' told) (sym same) tells
read_tells bytes text (inr both) status sink sink' told tells long = tells_placed bytes status sink sink' told (long both.1)

-- a text that isn't too long
pub not_long : (P : Type 0) (text : List ℕ) → length text ≤ LONGEST_CHECK → LONGEST_CHECK < length text → P
not_long P text short long = let e : ⊥ = omega (arith, short, long) in absurd e

-- ---- both

explained_note : (bytes : List ℕ) (sink sink' old new : Outflow) (told : Option Note) → TellsOf (IsPlaced bytes) Refused sink sink' told
    → Says Refused told old new → Explained bytes Refused sink sink' old new
explained_note bytes sink sink' old new None tells says = absurd tells
explained_note bytes sink sink' old new (Some note) tells says = (note, tells.0, tells.1, says)

pub explained : (bytes : List ℕ) (status : Status) (sink sink' old new : Outflow) (told : Option Note)
    → TellsOf (IsPlaced bytes) status sink sink' told → Says status told old new → Explained bytes status sink sink' old new
explained bytes Done sink sink' old new told tells says = says
explained bytes Usage sink sink' old new told tells says = says
explained bytes Refused sink sink' old new told tells says = explained_note bytes sink sink' old new told tells says
explained bytes ReadFault sink sink' old new told tells says = says
explained bytes WriteFault sink sink' old new told tells says = says
explained bytes NoMemory sink sink' old new told tells says = says
