-- How a rank goes on: the steps that it makes, what they are given, and what they write.
use Rattle.std.specs.Prelude.{ℕ, false, ◌+◌, ◌<◌, ◌≤◌, ◌≡◌, ◌⊎◌, List, [], ◌++◌, length, count_by, Option, Some, None, Result, Ok, Err}
use Rattle.ptl_types.specs.declared.headers.Lane.{Lane}
use Rattle.ptl_types.specs.Messages.{Sent}
use Rattle.ni_model.specs.Ready.{is_ready}
use Rattle.port_io.specs.Counts.{Rose}
use Rattle.port_io.specs.Ends.{GivesFront, Inflow, Outflow}
use Rattle.run_text.specs.Putting.{FailsWithin, Takes}
use Rattle.cuts.specs.view.Slots.{Slots}
use Rattle.cuts.specs.histories.Cut.{owned}
use Rattle.cuts.specs.histories.History.{Local, and_then, got, is_start, made, state}
use Rattle.message_codec.specs.Reading.{reading}
use Rattle.rank_node.specs.Copies.{bytes_received}
use Rattle.rank_node.specs.Handles.{Agrees}
use Rattle.rank_node.specs.Node.{start_of}
use Rattle.rank_frames.specs.Due.{due_on, messages_due}
use Rattle.rank_frames.specs.Frames.{IsPart, RunsDry, frame, frames_for, frames_of, head}
use Rattle.rank_frames.specs.Place.{PlaceState, Refuses, fault_of_head}
use Rattle.rank_frames.specs.declared.fault.FrameFault.{FrameFault}
use Rattle.rank_frames.specs.declared.fault.Stop.{Stop}
use Rattle.rank_frames.specs.declared.fault.Stop.TheVariants.{Read, Write, NoMemory, Frame}

-- The node made these steps, and they made these messages. What they received was due, and no stray is among it.
pub record HasGone (p q : PlaceState) (es : List Local) (ms : List Sent) : Type 0 where
  pub me : q.me ≡ p.me
  pub task : q.node.task ≡ p.node.task
  pub locals : q.node.diary.locals ≡ p.node.diary.locals ++ es
  pub slots : (k : Slots) → Agrees k q.node.kept → Agrees k p.node.kept
  pub nic : (k : Slots) → Agrees k q.node.kept → q.node.nic ≡ state (start_of p.node.task k) p.node.nic es
  pub made : (k : Slots) → Agrees k q.node.kept → made (start_of p.node.task k) p.node.nic es ≡ ms
  pub ranks : length q.due.requests ≡ length p.due.requests
  pub lanes : (s : ℕ) (lane : Lane) → due_on q.due s lane + length (got es s lane) ≡ due_on p.due s lane
  pub bytes : q.due.bytes + bytes_received es ≡ p.due.bytes
  pub clean : (s : ℕ) (lane : Lane) → owned (got es s lane) ≡ got es s lane

-- no operation is ready
abbrev pub IsIdle : PlaceState → Type 0
IsIdle p = (t : ℕ) → is_ready p.node.nic t ≡ false

-- there was a start
abbrev pub HasStarted : PlaceState → Type 0
HasStarted p = 0 < count_by is_start p.node.diary.locals

-- It went on: it made steps that were given these bytes, and of the frames of their messages the sink took all but the rest.
pub record GoesOn (p q : PlaceState) (old new : Outflow) (bytes rest : List ℕ) : Type 0 where
  pub steps : List Local
  pub messages : List Sent
  pub gone : HasGone p q steps messages
  pub fed : frames_for steps ≡ bytes
  pub text : Takes old new (frames_of messages) rest

-- The sink failed on its way, and took a beginning of the frames of what the steps made.
pub record Fails (p q : PlaceState) (old new : Outflow) (bytes : List ℕ) : Type 0 where
  pub rest : List ℕ
  pub on : GoesOn p q old new bytes rest
  pub rose : Rose old.faults new.faults

-- There was no memory for a message, of which nothing was written; the sink took all frames before it.
pub record Wants (p q : PlaceState) (old new : Outflow) (bytes : List ℕ) : Type 0 where
  pub unsent : Option Sent
  pub on : GoesOn p q old new bytes (frames_of (and_then unsent []))

-- Of a text the sink took all; or it failed and took a beginning; or there was no memory, and it took nothing.
abbrev pub Writes : Result (Unit {0}) Stop → Outflow → Outflow → List ℕ → Type 0
Writes (Ok done) old new text = Takes old new text []
Writes (Err Write) old new text = FailsWithin old new text
Writes (Err NoMemory) old new text = new ≡ old
Writes (Err e) old new text = ⊥

-- it went on by these bytes, with nothing left to write, or it stopped
abbrev pub Goes : Result (Unit {0}) Stop → PlaceState → PlaceState → Outflow → Outflow → List ℕ → Type 0
Goes (Ok done) p q old new bytes = GoesOn p q old new bytes []
Goes (Err Write) p q old new bytes = Fails p q old new bytes
Goes (Err NoMemory) p q old new bytes = Wants p q old new bytes
Goes (Err e) p q old new bytes = ⊥

-- It went on by what a source gave, with nothing left to write; and after a start nothing is ready.
pub record GoesBy (p q : PlaceState) (before after : Inflow) (old new : Outflow) : Type 0 where
  pub bytes : List ℕ
  pub on : GoesOn p q old new bytes []
  pub front : GivesFront before.left after.left bytes
  pub faults : before.faults ≤ after.faults
  pub idle : HasStarted q → IsIdle q

-- the rank has ended: it has started, nothing is ready, and nothing is due
pub record IsOver (p : PlaceState) : Type 0 where
  pub started : HasStarted p
  pub idle : IsIdle p
  pub none_due : messages_due p.due ≡ 0

-- ---- refused frames

-- what a source gives is a frame that is refused by its head, of which no more is read
pub record IsHeadRefused (p : PlaceState) (fault : FrameFault) (bytes : List ℕ) : Type 0 where
  pub source : ℕ
  pub count : ℕ
  pub is : bytes ≡ head source count
  pub refused : fault_of_head p source count ≡ Some fault

-- ... or by its bytes, where its head isn't
pub record AreBytesRefused (p : PlaceState) (fault : FrameFault) (bytes : List ℕ) : Type 0 where
  pub source : ℕ
  pub behind : List ℕ
  pub is : bytes ≡ frame source behind
  pub head_passes : fault_of_head p source (length behind) ≡ None
  pub refused : Refuses p source (Frame fault) (reading behind)

abbrev pub IsFrameRefused : PlaceState → FrameFault → List ℕ → Type 0
IsFrameRefused p fault bytes = IsHeadRefused p fault bytes ⊎ AreBytesRefused p fault bytes

-- It went on by what a source gave, with nothing left to write, up to a frame that is refused there. By that frame nothing was done.
pub record Halts (fault : FrameFault) (p q : PlaceState) (before after : Inflow) (old new : Outflow) : Type 0 where
  pub bytes : List ℕ
  pub on : GoesOn p q old new bytes []
  pub frame : List ℕ
  pub front : GivesFront before.left after.left (bytes ++ frame)
  pub is : IsFrameRefused q fault frame

-- ---- how it stops

-- It went on with nothing left to write, hasn't ended, and the source doesn't give the next frame whole.
pub record Starves (p q : PlaceState) (before after : Inflow) (old new : Outflow) : Type 0 where
  pub bytes : List ℕ
  pub on : GoesOn p q old new bytes []
  pub idle : HasStarted q → IsIdle q
  pub waits : IsOver q → ⊥
  pub dry : RunsDry before after (λ given. (part : List ℕ) × (given ≡ bytes ++ part) × IsPart part)

-- it went on by what a source gave, and the sink failed
pub record FailsBy (p q : PlaceState) (before after : Inflow) (old new : Outflow) : Type 0 where
  pub bytes : List ℕ
  pub fails : Fails p q old new bytes
  pub front : GivesFront before.left after.left bytes

-- it went on by what a source gave, perhaps with a part of a frame more, and there was no memory
pub record WantsBy (p q : PlaceState) (before after : Inflow) (old new : Outflow) : Type 0 where
  pub bytes : List ℕ
  pub wants : Wants p q old new bytes
  pub part : List ℕ
  pub front : GivesFront before.left after.left (bytes ++ part)

abbrev pub StopsBy : Stop → PlaceState → PlaceState → Inflow → Inflow → Outflow → Outflow → Type 0
StopsBy Read p q before after old new = Starves p q before after old new
StopsBy Write p q before after old new = FailsBy p q before after old new
StopsBy NoMemory p q before after old new = WantsBy p q before after old new
StopsBy (Frame fault) p q before after old new = Halts fault p q before after old new

-- it went on by frames, or stopped
abbrev pub TakesFrames : Result (Unit {0}) Stop → PlaceState → PlaceState → Inflow → Inflow → Outflow → Outflow → Type 0
TakesFrames (Ok done) p q before after old new = GoesBy p q before after old new
TakesFrames (Err e) p q before after old new = StopsBy e p q before after old new
