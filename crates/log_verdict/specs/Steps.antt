-- What comes of a line.
use Rattle.std.specs.Prelude.{ℕ, ◌≡◌, ◌==◌, ◌≤◌, ◌<◌, ◌&&◌, ◌||◌, not, Bool, true, false, List, [], ◌∷◌, Option, Some, None, is_some, codes}
use Rattle.std.specs.Prelude.{if◌then◌else◌, unwrap_or}
use Rattle.std.specs.Str.{bytes_eq}
use Rattle.ni_model.specs.State.{opened}
use Rattle.portals_ni.specs.Fit.{FitLimits}
use Rattle.guarded_ni.specs.declared.faults.Misuse.TheVariants.{Elsewhere, UnfitLimits, UnknownRank}
use Rattle.log_words.specs.Words.{Word, Rest, begins, is_last}
use Rattle.log_words.specs.Reading.{flaw_at}
use Rattle.log_words.specs.declared.faults.Flaw.{Flaw}
use Rattle.log_words.specs.declared.faults.Flaw.TheVariants.{BadWord, NameTaken, NoAnswer, NotOpen, UnknownMessage}
use Rattle.log_words.specs.declared.faults.LineFault.{LineFault}
use Rattle.log_words.specs.declared.call_fields.said.Opening.{Opening}
use Rattle.log_lines.specs.declared.calls.Call.{Call}
use Rattle.log_lines.specs.declared.calls.Call.TheVariants as calls
use Rattle.log_lines.specs.declared.lines.Line.{Line}
use Rattle.log_lines.specs.declared.lines.Line.TheVariants as lines
use Rattle.log_answers.specs.declared.owed.Owed.TheVariants as owed
use Rattle.log_answers.specs.names.Keys.{with_number}
use Rattle.log_answers.specs.names.Flights.{age_of, flight_at, oldest, word_in}
use Rattle.log_answers.specs.declared.names.flights.Flight.{Flight}
use Rattle.log_answers.specs.declared.names.flights.Flights.{Flights}
use Rattle.log_seats.specs.Answers.{After, Answers, after as told, arrived, misuse_word, ok, says}
use Rattle.log_verdict.specs.Answering.{Came, answered, came, flawed, others_of, said_or_owed, told_step, without_flight}
use Rattle.log_seats.specs.Bytes.{bytes_in}
use Rattle.log_verdict.specs.Scenes.{seat_at}
use Rattle.log_seats.specs.Seats.{new_seat, operation_of}
use Rattle.log_verdict.specs.Settling.{Settles}
use Rattle.log_verdict.specs.declared.answering.Step.TheVariants as steps
use Rattle.log_verdict.specs.declared.scenes.Scene.{Scene}
use Rattle.log_seats.specs.declared.seats.Seat.{Seat}

abbrev pub goes : Scene → Came
goes s = came s steps.Goes

-- ---- an interface is opened; it isn't where its rank is none of the log's, or else its limits don't fit

abbrev pub region_of : Option Word → List ℕ
region_of None = []
region_of (Some w) = bytes_in w.text

abbrev pub with_open : ℕ → Opening → Scene → Scene
with_open rank o s = record s { seats = with_number rank (new_seat (opened rank s.ranks o.limits (region_of o.region))) s.seats }

pub data Opens (rank : ℕ) (o : Opening) (said : Option Rest) (s : Scene) (c : Came) : Type 0 where
  Opened : rank < s.ranks → FitLimits o.limits → c ≡ came (with_open rank o s) (said_or_owed s (ok tt) said) → Opens rank o said s c
  NoRank : s.ranks ≤ rank → c ≡ came s (said_or_owed s (says (misuse_word UnknownRank)) said) → Opens rank o said s c
  NoFit : rank < s.ranks → (FitLimits o.limits → ⊥) → c ≡ came s (said_or_owed s (says (misuse_word UnfitLimits)) said)
      → Opens rank o said s c

-- ---- a message arrives

-- it is for another rank than this
abbrev pub is_elsewhere : ℕ → Option Flight → Bool
is_elsewhere rank None = false
is_elsewhere rank (Some f) = not (f.message.header.target == rank)

-- the older message of its lane that is to arrive first, where lanes are in order
abbrev pub other_than : ℕ → Option ℕ → Option ℕ
other_than age None = None
other_than age (Some first) = if first == age then None else Some first

abbrev pub oldest_like : Option Flight → Flights → Option ℕ
oldest_like None fs = None
oldest_like (Some f) fs = oldest f.message.header fs

abbrev pub older : ℕ → ℕ → Scene → Option ℕ
older rank age s =
    if s.any_order || is_elsewhere rank (flight_at age s.flights) then None
    else other_than age (oldest_like (flight_at age s.flights) s.flights)

-- the word of a message, `?` where it has none
abbrev pub word_at : ℕ → Scene → List ℕ
word_at age s = unwrap_or (word_in (flight_at age s.flights)) (codes "?")

abbrev pub too_early : Word → ℕ → Scene → Came
too_early w first s = came s (steps.Differs w.column (32 ∷ w.text) (32 ∷ word_at first s))

-- it arrives at the interface that it is for; at another it stays under way
pub record ArrivesAt (age rank : ℕ) (said : Option Rest) (s : Scene) (c : Came) : Type 0 where
  pub seat : Seat
  pub flight : Flight
  pub is_there : seat_at rank s ≡ Some seat
  pub is_sent : flight_at age s.flights ≡ Some flight
  pub came : c ≡ answered (arrived flight.message seat) said (others_of rank (without_flight age s))

pub record StaysAt (rank : ℕ) (said : Option Rest) (s : Scene) (c : Came) : Type 0 where
  pub seat : Seat
  pub is_there : seat_at rank s ≡ Some seat
  pub came : c ≡ answered (told seat (says (misuse_word Elsewhere))) said (others_of rank s)

pub data DeliversInTurn (age rank : ℕ) (said : Option Rest) (s : Scene) (c : Came) : Type 0 where
  Stays : is_elsewhere rank (flight_at age s.flights) ≡ true → StaysAt rank said s c → DeliversInTurn age rank said s c
  Arrives : is_elsewhere rank (flight_at age s.flights) ≡ false → ArrivesAt age rank said s c → DeliversInTurn age rank said s c

pub data DeliversAged (age : ℕ) (w : Word) (rank : ℕ) (said : Option Rest) (s : Scene) (c : Came) : Type 0 where
  Early : (first : ℕ) → older rank age s ≡ Some first → c ≡ too_early w first s → DeliversAged age w rank said s c
  InTurn : older rank age s ≡ None → DeliversInTurn age rank said s c → DeliversAged age w rank said s c

pub data Delivers (w : Word) (rank : ℕ) (said : Option Rest) (s : Scene) (c : Came) : Type 0 where
  NoMessage : age_of w.text s.flights ≡ None → c ≡ flawed w.column UnknownMessage s → Delivers w rank said s c
  Sent : (age : ℕ) → age_of w.text s.flights ≡ Some age → DeliversAged age w rank said s c → Delivers w rank said s c

-- ---- a call of an interface that is open

-- where a triggered operation is given the word of one that waits
abbrev pub posted_name : Call → Option Word
posted_name (calls.Triggered name ct threshold deed) = Some name
posted_name _ = None

abbrev pub taken_by : Option Word → Option Seat → Option ℕ
taken_by None seat = None
taken_by (Some name) None = None
taken_by (Some name) (Some s) = if is_some (operation_of s name) then Some name.column else None

unfoldable pub taken_word : Call → Option Seat → Option ℕ
taken_word call seat = taken_by (posted_name call) seat

-- it does what it may do, and its answer is judged or written
pub record Asks (call : Call) (rank : ℕ) (said : Option Rest) (s : Scene) (c : Came) : Type 0 where
  pub seat : Seat
  pub after : After
  pub is_there : seat_at rank s ≡ Some seat
  pub answers : Answers call seat after
  pub came : c ≡ answered after said (others_of rank s)

pub data CallsSeat (call : Call) (rank : ℕ) (said : Option Rest) (s : Scene) (c : Came) : Type 0 where
  Taken : (column : ℕ) → taken_word call (seat_at rank s) ≡ Some column → c ≡ flawed column NameTaken s → CallsSeat call rank said s c
  Free : taken_word call (seat_at rank s) ≡ None → Asks call rank said s c → CallsSeat call rank said s c

unfoldable pub Makes : Call → ℕ → Option Rest → Scene → Came → Type 0
Makes (calls.Open o) rank said s c = Opens rank o said s c
Makes (calls.Deliver w) rank said s c = Delivers w rank said s c
Makes call rank said s c = CallsSeat call rank said s c

-- ---- what is wrong with a call before it is made

abbrev pub is_opening : Call → Bool
is_opening (calls.Open o) = true
is_opening _ = false

-- an interface is opened where it isn't, and used where it is
abbrev pub place_flaw : Bool → Bool → Option Flaw
place_flaw opening there = if opening then (if there then Some NameTaken else None) else (if there then None else Some NotOpen)

-- where answers are written none may stand there, and else one must
abbrev pub answer_flaw : Bool → Rest → Option LineFault
answer_flaw fills said =
    if fills then (if is_last said.words then None else Some (flaw_at (begins said) BadWord))
    else (if is_last said.words then Some (flaw_at (begins said) NoAnswer) else None)

abbrev pub flaw_or : Option Flaw → Option LineFault → Option LineFault
flaw_or (Some flaw) fault = Some (flaw_at 1 flaw)
flaw_or None fault = fault

unfoldable pub call_flaw : Bool → Call → Rest → Bool → Option LineFault
call_flaw fills call said there = flaw_or (place_flaw (is_opening call) there) (answer_flaw fills said)

-- a device may say that it lacked memory for these: nothing happened then
abbrev pub may_lack : Call → Bool
may_lack (calls.Open o) = true
may_lack (calls.EqAlloc room) = true
may_lack (calls.Start d) = true
may_lack (calls.Triggered name ct threshold d) = true
may_lack _ = false

abbrev pub says_no_memory : List Word → Bool
says_no_memory [] = false
says_no_memory (w ∷ ws) = bytes_eq w.text (codes "NoMemory") && is_last ws

unfoldable pub lacks : Bool → Call → Rest → Bool
lacks fills call said = not fills && may_lack call && says_no_memory said.words

-- ---- a line

-- the answer that was given
abbrev pub said_if : Bool → Rest → Option Rest
said_if fills said = if fills then None else Some said

pub data MakesUnlessLacking (fills : Bool) (call : Call) (rank : ℕ) (said : Rest) (s : Scene) (c : Came) : Type 0 where
  Lacks : lacks fills call said ≡ true → c ≡ goes s → MakesUnlessLacking fills call rank said s c
  Has : lacks fills call said ≡ false → Makes call rank (said_if fills said) s c → MakesUnlessLacking fills call rank said s c

pub data CallComes (fills : Bool) (call : Call) (rank : ℕ) (said : Rest) (s : Scene) (c : Came) : Type 0 where
  Flawed : (fault : LineFault) → call_flaw fills call said (is_some (seat_at rank s)) ≡ Some fault → c ≡ came s (steps.Refused fault)
      → CallComes fills call rank said s c
  Flawless : call_flaw fills call said (is_some (seat_at rank s)) ≡ None → MakesUnlessLacking fills call rank said s c
      → CallComes fills call rank said s c

-- what is told of a message under way
abbrev pub tells_flight : Option Flight → Word → Rest → Scene → Came
tells_flight None w said s = flawed w.column UnknownMessage s
tells_flight (Some f) w said s =
    if is_last said.words then goes s else came s (told_step s f.message.bytes (owed.Told f.message.header) said)

abbrev pub tells_aged : Option ℕ → Word → Rest → Scene → Came
tells_aged None w said s = flawed w.column UnknownMessage s
tells_aged (Some age) w said s = tells_flight (flight_at age s.flights) w said s

unfoldable pub tells : Word → Rest → Scene → Came
tells w said s = tells_aged (age_of w.text s.flights) w said s

abbrev pub loses_aged : Option ℕ → Word → Scene → Came
loses_aged None w s = flawed w.column UnknownMessage s
loses_aged (Some age) w s = goes (without_flight age s)

unfoldable pub loses : Word → Scene → Came
loses w s = loses_aged (age_of w.text s.flights) w s

-- Where `fills` is set the answers of calls are written, and else they are judged. A new thing gets some free slot, so several may come.
unfoldable pub LineCame : Bool → Line → Scene → Came → Type 0
LineCame fills lines.Note s c = c ≡ goes s
LineCame fills (lines.Tells w said) s c = c ≡ tells w said s
LineCame fills (lines.Loses w) s c = c ≡ loses w s
LineCame fills lines.Settles s c = Settles s c.scene × (c.step ≡ steps.Goes)
LineCame fills (lines.Calls rank call said) s c = CallComes fills call rank said s c
