-- What a probe notes of a rank.
use Rattle.std.specs.Prelude.{ℕ, true, ◌≡◌, List, length}
use mathlib.Core.Option.{some}
use lib.ListN.{get_elem?}
use Rattle.ptl_types.specs.declared.headers.Lane.{Lane}
use Rattle.ni_model.specs.Calls.{AnswersReady}
use Rattle.ni_model.specs.State.{State}
use Rattle.cuts.specs.view.Calls.{prepare}
use Rattle.cuts.specs.view.Slots.{Slots}
use Rattle.cuts.specs.histories.History.{Local, got, sent, state}
use Rattle.cuts.specs.histories.Plans.{start_of}
use Rattle.rank_node.specs.Copies.{has_start}
use Rattle.rank_node.specs.Handles.{Agrees, Handles}
use Rattle.rest_probe.specs.declared.notes.LaneCount.{LaneCount}
use Rattle.rest_probe.specs.declared.notes.RankNote.{RankNote}
use Rattle.rest_probe.specs.declared.notes.ProbeNote.{ProbeNote}
use Rattle.rest_probe.specs.Counted.{cleared}
use Rattle.rest_probe.specs.Waves.{SameLanes}
use Rattle.schedule_compiler.specs.Jobs.{JobOf}
use Rattle.rank_slots.specs.declared.ports.InPort.{InPort}
use Rattle.rank_slots.specs.declared.ports.OutPort.{OutPort}
use Rattle.rank_slots.specs.declared.turn_rank.TurnRank.{TurnRank}
use Rattle.rank_slots.specs.Lists.{Each}
use Rattle.rank_slots.specs.Names.{history}

-- ---- what a history of rank r says, under slots k
abbrev pub state_after : JobOf → ℕ → Slots → List Local → State
state_after job r k h = state (start_of job.schedule.plan k r) (prepare job.schedule.plan job.inputs k r) h

abbrev pub sent_on : JobOf → ℕ → Slots → List Local → ℕ → Lane → ℕ
sent_on job r k h d lane = length (sent (start_of job.schedule.plan k r) (prepare job.schedule.plan job.inputs k r) h d lane)

-- the number of a lane from the rank is how many messages the history sent on it
abbrev pub CountsSent : JobOf → ℕ → List Local → Handles → LaneCount → Type 0
CountsSent job r h hs c = (k : Slots) → Agrees k hs → c.number ≡ sent_on job r k h c.rank c.lane

-- the number of a lane to the rank is how many it received
abbrev pub CountsGot : List Local → LaneCount → Type 0
CountsGot h c = c.number ≡ length (got h c.rank c.lane)

-- the note says what this history of rank r says, under all slots that agree with the handles that were given
pub record Says (job : JobOf) (r : ℕ) (h : List Local) (hs : Handles) (n : ProbeNote) : Type 0 where
  pub started : n.started ≡ has_start h
  pub ready : (k : Slots) → Agrees k hs → AnswersReady (state_after job r k h) n.ready
  pub sent : Each (CountsSent job r h hs) n.sent
  pub got : Each (CountsGot h) n.got

-- the rank has its note in the wave, which says what this history says
abbrev pub HasNote : JobOf → ℕ → List Local → Handles → List RankNote → Type 0
HasNote job r h hs w = (x : RankNote) → get_elem? w r ≡ some x → (x.there ≡ true) × Says job r h hs x.note

-- ---- in the turn
-- there is an end of the lane
abbrev pub HasOut : TurnRank → ℕ → Lane → Type 0
HasOut s d lane = (i : ℕ) × (p : OutPort) × (get_elem? s.outs.items i ≡ some p) × (p.target ≡ d) × (p.lane ≡ lane)

abbrev pub HasIn : TurnRank → ℕ → Lane → Type 0
HasIn s d lane = (i : ℕ) × (p : InPort) × (get_elem? s.ins.items i ≡ some p) × (p.source ≡ d) × (p.lane ≡ lane)

-- how many messages the rank sent on a lane
abbrev pub HasSentOn : TurnRank → LaneCount → Type 0
HasSentOn s c = CountsSent s.job s.node.value.task.rank (history s) s.node.value.kept c

-- the same lanes, with numbers of which P holds
pub record Recounted (P : LaneCount → Type 0) (old new : List LaneCount) : Type 0 where
  pub lanes : cleared new ≡ cleared old
  pub each : Each P new

-- in place of the room x there is the note of this slot
pub record IsNoted (s : TurnRank) (x y : RankNote) : Type 0 where
  pub there : y.there ≡ true
  pub lanes : SameLanes x y
  pub started : y.note.started ≡ has_start (history s)
  pub ready : AnswersReady s.node.value.nic y.note.ready
  pub sent : Each (HasSentOn s) y.note.sent
  pub got : Each (CountsGot (history s)) y.note.got
