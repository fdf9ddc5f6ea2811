-- What a rank does, and what it writes.
use Rattle.std.specs.Prelude.{ℕ, false, ◌+◌, ◌≡◌, ◌≤◌, ◌<◌, ◌⊎◌, List, [], ◌++◌, Option, Some, count_by, length, map, sum_by}
use Rattle.ptl_types.specs.declared.headers.Lane.{Lane}
use Rattle.ptl_types.specs.Messages.{Sent}
use Rattle.ni_model.specs.Ready.{is_ready}
use Rattle.given_verdicts.specs.Saying.{answer_line}
use Rattle.given_verdicts.specs.declared.answer.GivenAnswer.{GivenAnswer}
use Rattle.plan_core.specs.Plan.{Plan, link}
use Rattle.plan_core.specs.Values.{Inputs}
use Rattle.plan_core.specs.calls.Areas.{links_to}
use Rattle.plan_core.specs.calls.Lanes.{lane_messages}
use Rattle.port_io.specs.Ends.{GivesFront, Inflow, Outflow}
use Rattle.cuts.specs.ended.Ended.{HasEnded}
use Rattle.cuts.specs.histories.History.{Local, and_then, got, is_start}
use Rattle.cuts.specs.orders.Taking.{listed}
use Rattle.cuts.specs.view.Slots.{Slots}
use Rattle.rank_node.specs.Copies.{bytes_received}
use Rattle.run_text.specs.Orders.{order_line}
use Rattle.run_text.specs.Putting.{Ends, FailsWithin, Takes}
use Rattle.rank_frames.specs.Due.{due_on}
use Rattle.rank_frames.specs.Frames.{IsPart, RunsDry, frame, frames_for, frames_of, mark}
use Rattle.rank_frames.specs.Going.{IsFrameRefused}
use Rattle.rank_frames.specs.Place.{PlaceState}
use Rattle.rank_frames.specs.declared.fault.FrameFault.{FrameFault}
use Rattle.rank_process.specs.lines.Lines.{own_lines}
use Rattle.rank_process.specs.lines.Rank.{Asks, IsHistory, Work, made_by_rank, state_after}
use Rattle.rank_process.specs.Refused.{IsNoRank, IsTooLong, answer_on}
use Rattle.rank_process.specs.declared.status.Status.{Status}
use Rattle.rank_process.specs.declared.status.Status.TheVariants.{Ended, Usage, WrongRank, Answered, ReadFault, WriteFault, NoMemory, Frame}

-- a history of rank r of what is run
pub record Told (w : Work) (r : ℕ) : Type 0 where
  pub rank : r < w.schedule.plan.ranks
  pub slots : Slots
  pub steps : List Local
  pub history : IsHistory w.schedule.plan w.inputs r slots steps

-- the frames of what it made
abbrev pub frames_made : {w : Work} {r : ℕ} → Told w r → List ℕ
frames_made {w} {r} t = frames_of (made_by_rank w.schedule.plan w.inputs r t.slots t.steps)

-- what follows them: the mark of the end, the rank's lines, the order of its steps
abbrev pub end_text : {w : Work} {r : ℕ} → Told w r → List ℕ
end_text {w} {r} t = mark ++ (own_lines w.shape w.schedule r (state_after w.schedule.plan w.inputs r t.slots t.steps).memory
    ++ order_line r (map listed t.steps))

-- none of its operations is ready
abbrev pub IsIdleAlone : {w : Work} {r : ℕ} → Told w r → Type 0
IsIdleAlone {w} {r} t = (n : ℕ) → is_ready (state_after w.schedule.plan w.inputs r t.slots t.steps) n ≡ false

-- by what it sees of itself: it has started, nothing is ready, and all that the lanes to it carry has come
abbrev pub HasEndedAlone : {w : Work} {r : ℕ} → Told w r → Type 0
HasEndedAlone {w} {r} t = HasEnded w.schedule.plan w.inputs (λ q. t.slots) (λ q. t.steps) r

-- ---- at its end

-- The source gave what the rank's steps are given, the rank has ended by what it sees of itself, and of all that it owes P holds.
pub record EndsRank (w : Work) (r : ℕ) (before after : Inflow) (P : List ℕ → Type 0) : Type 0 where
  pub told : Told w r
  pub front : GivesFront before.left after.left (frames_for told.steps)
  pub ended : HasEndedAlone told
  pub wrote : P (frames_made told ++ end_text told)

-- ---- before its end

-- where a rank stands after a history
pub record StandsAt (p : Plan) (inputs : Inputs) (r : ℕ) (k : Slots) (es : List Local) (q : PlaceState) : Type 0 where
  pub me : q.me ≡ r
  pub locals : q.node.diary.locals ≡ es
  pub nic : q.node.nic ≡ state_after p inputs r k es
  pub ranks : length q.due.requests ≡ p.ranks
  pub lanes : (s : ℕ) (lane : Lane) → s < p.ranks → due_on q.due s lane + length (got es s lane) ≡ lane_messages p s r lane
  pub bytes : q.due.bytes + bytes_received es ≡ sum_by (λ l. (link p l).length) (links_to p r)

-- The source gave what the rank's steps are given, and a frame that is refused there. By that frame nothing was done.
pub record RefusesFrame (w : Work) (r : ℕ) (fault : FrameFault) (before after : Inflow) (old new : Outflow) : Type 0 where
  pub told : Told w r
  pub place : PlaceState
  pub stands : StandsAt w.schedule.plan w.inputs r told.slots told.steps place
  pub frame : List ℕ
  pub is : IsFrameRefused place fault frame
  pub front : GivesFront before.left after.left (frames_for told.steps ++ frame)
  pub wrote : Takes old new (frames_made told) []

-- The rank hasn't ended, after its start nothing is ready, and the frames of all messages that it made were written. Then a read failed;
-- or the source is at its end behind what the steps are given and a part of a frame.
pub record StarvesRank (w : Work) (r : ℕ) (before after : Inflow) (old new : Outflow) : Type 0 where
  pub told : Told w r
  pub waits : HasEndedAlone told → ⊥
  pub idle : 0 < count_by is_start told.steps → IsIdleAlone told
  pub dry : RunsDry before after (λ given. (part : List ℕ) × (given ≡ frames_for told.steps ++ part) × IsPart part)
  pub wrote : Takes old new (frames_made told) []

-- The source gave what the rank's steps are given, and the sink failed within the frames of what they made.
pub record FailsToSend (w : Work) (r : ℕ) (before after : Inflow) (old new : Outflow) : Type 0 where
  pub told : Told w r
  pub front : GivesFront before.left after.left (frames_for told.steps)
  pub wrote : FailsWithin old new (frames_made told)

-- The source gave what the rank's steps are given, and perhaps some bytes more. The frames of all messages that it made were written, or
-- of all but one, of which nothing was.
pub record WantsMemory (w : Work) (r : ℕ) (before after : Inflow) (old new : Outflow) : Type 0 where
  pub told : Told w r
  pub part : List ℕ
  pub front : GivesFront before.left after.left (frames_for told.steps ++ part)
  pub unsent : Option Sent
  pub wrote : Takes old new (frames_made told) (frames_of (and_then unsent []))

-- What a rank has done that ends with this status.
abbrev pub RunsAs : Work → ℕ → Status → Inflow → Inflow → Outflow → Outflow → Type 0
RunsAs w r Ended before after old new = EndsRank w r before after (λ owed. Ends old new owed)
RunsAs w r (Frame fault) before after old new = RefusesFrame w r fault before after old new
RunsAs w r ReadFault before after old new = StarvesRank w r before after old new
RunsAs w r WriteFault before after old new =
    FailsToSend w r before after old new ⊎ EndsRank w r before after (λ owed. FailsWithin old new owed)
RunsAs w r NoMemory before after old new = (new ≡ old) ⊎ WantsMemory w r before after old new
RunsAs w r _ before after old new = ⊥

-- ---- from the first frame on

-- The source gave the first frame. Of its text, its rank and what was left behind it P holds.
pub record Begins (before : Inflow) (P : List ℕ → ℕ → Inflow → Type 0) : Type 0 where
  pub text : List ℕ
  pub rank : ℕ
  pub behind : Inflow
  pub first : GivesFront before.left behind.left (frame rank text)
  pub faults : before.faults ≤ behind.faults
  pub so : P text rank behind

-- the rank of the first frame has done this
abbrev pub Runs : Status → Inflow → Inflow → Outflow → Outflow → Type 0
Runs status before after old new =
    Begins before (λ text r behind. (w : Work) × Asks text w × RunsAs w r status behind after old new)

-- This is the answer on the text of the first frame; or its length alone was read, and no text is so long.
abbrev pub RefusesText : GivenAnswer → Inflow → Inflow → Type 0
RefusesText answer before after =
    Begins before (λ text r behind. (after ≡ behind) × (answer_on text ≡ Some answer)) ⊎ IsTooLong before.left after.left answer

-- a text isn't run, and the sink failed where that was said
pub record FailsToAnswer (before after : Inflow) (old new : Outflow) : Type 0 where
  pub answer : GivenAnswer
  pub refused : RefusesText answer before after
  pub fails : FailsWithin old new (mark ++ answer_line answer)

-- What a call has done that ends with this status: what the source gave, and what the sink took.
abbrev pub Does : Status → Inflow → Inflow → Outflow → Outflow → Type 0
Does Ended before after old new = Runs Ended before after old new
Does Usage before after old new = (after ≡ before) × (new ≡ old)
Does WrongRank before after old new = Begins before (λ text r behind. (after ≡ behind) × IsNoRank text r) × (new ≡ old)
Does (Answered answer) before after old new = RefusesText answer before after × Ends old new (mark ++ answer_line answer)
Does ReadFault before after old new = (RunsDry before after IsPart × (new ≡ old)) ⊎ Runs ReadFault before after old new
Does WriteFault before after old new = FailsToAnswer before after old new ⊎ Runs WriteFault before after old new
Does NoMemory before after old new = (new ≡ old) ⊎ Runs NoMemory before after old new
Does (Frame fault) before after old new = Runs (Frame fault) before after old new

-- the call takes no words
abbrev pub IsAsked : Status → ℕ → Type 0
IsAsked Usage words = 0 < words
IsAsked _ words = words ≡ 0
