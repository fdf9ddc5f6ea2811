-- An answer that is held against what is owed, and an answer that is written where none was given.
use Rattle.std.specs.Prelude.{ℕ, Bool, false, List, [], ◌∷◌, ◌++◌, Option, Some, None, is_some, codes, if◌then◌else◌}
use Rattle.std.specs.List.{flat_map, slice_get}
use Rattle.std.specs.Fmt.{decimal}
use Rattle.ptl_types.specs.Messages.{Sent}
use Rattle.ni_model.specs.Ready.{ready_numbers}
use Rattle.log_words.specs.Words.{Word, Rest}
use Rattle.log_words.specs.Reading.{flaw_at}
use Rattle.log_words.specs.declared.faults.Flaw.{Flaw}
use Rattle.log_words.specs.declared.faults.Flaw.TheVariants.{NameTaken}
use Rattle.log_answers.specs.Agreement.{found}
use Rattle.log_answers.specs.Known.{Known}
use Rattle.log_answers.specs.Printing.{owed_text}
use Rattle.log_answers.specs.declared.agreement.Found.{Found}
use Rattle.log_answers.specs.declared.agreement.Found.TheVariants as founds
use Rattle.log_answers.specs.declared.owed.Owed.{Owed}
use Rattle.log_answers.specs.declared.owed.Owed.TheVariants as owed
use Rattle.log_answers.specs.declared.owed.Sort.{Sort}
use Rattle.log_answers.specs.declared.owed.Sort.TheVariants.{Counter, Queue, Descriptor, Entry}
use Rattle.log_answers.specs.names.Keys.{with_number, without_number}
use Rattle.log_answers.specs.names.Flights.{age_of, taken, with_sent}
use Rattle.log_answers.specs.names.Postings.{word_of_number}
use Rattle.log_answers.specs.declared.names.flights.Flights.{Flights}
use Rattle.log_answers.specs.declared.names.postings.Postings.{Postings}
use Rattle.log_seats.specs.Answers.{After}
use Rattle.log_verdict.specs.Scenes.{known_at}
use Rattle.log_seats.specs.Seats.{with_thing}
use Rattle.log_verdict.specs.declared.answering.Step.{Step}
use Rattle.log_verdict.specs.declared.answering.Step.TheVariants as steps
use Rattle.log_verdict.specs.declared.answering.Compared.{Compared}
use Rattle.log_verdict.specs.declared.answering.Compared.TheVariants as compares
use Rattle.log_verdict.specs.declared.scenes.Scene.{Scene}
use Rattle.log_seats.specs.declared.seats.Seat.{Seat}

-- ---- an answer is what is owed, with the word for what is new; or from a column on it isn't: what was said, and what is owed

-- words, each behind a space
abbrev pub said_text : List Word → List ℕ
said_text = flat_map (λ (w : Word). 32 ∷ w.text)

abbrev pub compared_by : Found → Known → Owed → Rest → Compared
compared_by (founds.Agrees word) k o said = compares.Agrees word
compared_by (founds.Differs column) k o said = compares.Differs column (said_text said.words) (owed_text k o)

unfoldable pub compared_with : Known → Owed → Rest → Compared
compared_with k o said = compared_by (found k o said) k o said

-- what comes of an answer of no interface
abbrev pub step_of : Compared → Step
step_of (compares.Agrees word) = steps.Goes
step_of (compares.Differs column said o) = steps.Differs column said o

-- of one that tells of a message with these bytes
abbrev pub told_step : Scene → List ℕ → Owed → Rest → Step
told_step s bytes o said = step_of (compared_with (known_at None bytes s) o said)

-- what is owed is written where there is no answer
abbrev pub said_or_owed : Scene → Owed → Option Rest → Step
said_or_owed s o None = steps.Owes (owed_text (known_at None [] s) o)
said_or_owed s o (Some said) = told_step s [] o said

-- ---- the scene after an answer

-- the scene after a line, and what came of the line
pub record Came : Type 0 where
  pub scene : Scene
  pub step : Step

abbrev pub came : Scene → Step → Came
came s step = record { scene = s; step = step }

abbrev pub flawed : ℕ → Flaw → Scene → Came
flawed column flaw s = came s (steps.Refused (flaw_at column flaw))

-- the scene without the interface of a rank, which makes a call; and without a message, which arrives or is lost
abbrev pub others_of : ℕ → Scene → Scene
others_of rank s = record s { seats = without_number rank s.seats }

abbrev pub without_flight : ℕ → Scene → Scene
without_flight age s = record s { flights = taken age s.flights }

-- what is new has the word that was given for it
abbrev pub with_new : Owed → Option (List ℕ) → Seat → Seat
with_new (owed.New sort h) word s = with_thing sort h word s
with_new (owed.Linked h) word s = with_thing Entry h word s
with_new _ word s = s

-- the message that was sent is under way
abbrev pub with_sent_if : Option Sent → Option (List ℕ) → Flights → Flights
with_sent_if None word fs = fs
with_sent_if (Some m) word fs = with_sent m word fs

-- an interface among the others, at its rank
abbrev pub with_seat : Seat → Scene → Scene
with_seat s others = record others { seats = with_number s.nic.rank s others.seats }

unfoldable pub with_answer : After → Option (List ℕ) → Scene → Scene
with_answer a word others = record (with_seat (with_new a.owed word a.seat) others) { flights = with_sent_if a.sent word others.flights }

-- a message under way has the word that is given for another
abbrev pub is_taken : Option Sent → Option (List ℕ) → Flights → Bool
is_taken None word fs = false
is_taken (Some m) None fs = false
is_taken (Some m) (Some word) fs = is_some (age_of word fs)

abbrev pub taken_as : After → Option (List ℕ) → ℕ → Step → Scene → Came
taken_as a word column step others =
    if is_taken a.sent word others.flights then flawed column NameTaken others else came (with_answer a word others) step

-- ---- an answer that was given

abbrev pub agreed : Option Word → After → Scene → Came
agreed None a others = taken_as a None 1 steps.Goes others
agreed (Some w) a others = taken_as a (Some w.text) w.column steps.Goes others

-- the log ends at a difference: its interface isn't put back
abbrev pub judged_as : Compared → After → Scene → Came
judged_as (compares.Agrees word) a others = agreed word a others
judged_as (compares.Differs column said o) a others = came others (steps.Differs column said o)

-- ---- an answer that is written

abbrev pub numbered : ℕ → ℕ → List ℕ
numbered letter n = letter ∷ decimal n

-- `c`, `q`, `d`, `m`
abbrev pub letter_of : Sort → ℕ
letter_of Counter = 99
letter_of Queue = 113
letter_of Descriptor = 100
letter_of Entry = 109

abbrev pub word_if : Option ℕ → Postings → Option (List ℕ)
word_if None p = None
word_if (Some t) p = word_of_number t p

-- A new thing is called by its sort and how many of them its interface made before, a message `w` and how many were sent before. Of the
-- operations that are ready the first is told.
abbrev pub chosen_name : Flights → Seat → Owed → Option (List ℕ)
chosen_name fs s (owed.New sort h) = Some (numbered (letter_of sort) h.stamp)
chosen_name fs s (owed.Linked h) = Some (numbered 109 h.stamp)
chosen_name fs s owed.Message = Some (numbered 119 fs.sent)
chosen_name fs s (owed.Delivered outcome answers) = if answers then Some (numbered 119 fs.sent) else None
chosen_name fs s owed.Ready = word_if (slice_get (ready_numbers s.nic) 0) s.operations
chosen_name fs s _ = None

-- all words but the last, which is the name
abbrev pub before_name : Known → Owed → List ℕ
before_name k (owed.Linked h) = codes " linked"
before_name k (owed.Delivered outcome answer) = owed_text k (owed.Delivered outcome false)
before_name k _ = []

unfoldable pub filled_text : Known → Owed → Option (List ℕ) → List ℕ
filled_text k o None = owed_text k o
filled_text k o (Some name) = before_name k o ++ 32 ∷ name

abbrev pub filled_as : Option (List ℕ) → After → Scene → Came
filled_as name a others = came (with_answer a name others) (steps.Owes (filled_text (known_at (Some a.seat) [] others) a.owed name))

-- ---- what comes of the answer of an interface among others

unfoldable pub answered : After → Option Rest → Scene → Came
answered a None others = filled_as (chosen_name others.flights a.seat a.owed) a others
answered a (Some said) others = judged_as (compared_with (known_at (Some a.seat) [] others) a.owed said) a others
