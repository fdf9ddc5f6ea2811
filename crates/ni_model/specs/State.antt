-- An interface's whole state, and what a message that comes to it does.
use Rattle.std.specs.Prelude.{ℕ, List, Option, None, [], if◌then◌else◌, replicate}
use Rattle.ptl_types.specs.declared.handles.Handle.{Handle}
use Rattle.ptl_types.specs.declared.handles.Count.{Count}
use Rattle.ptl_types.specs.declared.calls.TriggeredOp.{TriggeredOp}
use Rattle.ptl_types.specs.declared.calls.Limits.{Limits}
use Rattle.ptl_types.specs.declared.calls.Delivered.{Delivered}
use Rattle.ptl_types.specs.declared.calls.Outcome.{Outcome}
use Rattle.ptl_types.specs.declared.calls.Outcome.TheVariants.{Dropped, Violation}
use Rattle.ptl_types.specs.Kinds.{is_answer}
use Rattle.ptl_types.specs.Messages.{Sent}
use Rattle.ni_model.specs.declared.Bound.{Bound}
use Rattle.ni_model.specs.Tables.{Table, no_things}
use Rattle.ptl_types.specs.Handles.{one_more}
use Rattle.ni_model.specs.Queues.{Waiting}
use Rattle.ni_model.specs.Lists.{Index}
use Rattle.ni_model.specs.Headers.{UnexpectedList, unexpected_list}
use Rattle.ni_model.specs.Arrive.{Side, Parts, parts, Received, request}
use Rattle.ni_model.specs.Answers.{Home, home, Returned, answered}

-- a triggered operation that waits
pub record Posted : Type 0 where
  pub number : ℕ
  pub action : TriggeredOp
  pub ct : Handle
  pub threshold : ℕ

-- those that wait, by rising number; how many numbers were given, and how many may wait
pub record Operations : Type 0 where
  pub waiting : List Posted
  pub given : ℕ
  pub limit : ℕ

-- the place of an index in `indices` is its number; `entries_given` counts the stamps of match entries
pub record State : Type 0 where
  pub rank : ℕ
  pub ranks : ℕ
  pub limits : Limits
  pub memory : List ℕ
  pub indices : List (Option Index)
  pub entries_given : ℕ
  pub headers : UnexpectedList
  pub cts : Table Count
  pub eqs : Table Waiting
  pub mds : Table Bound
  pub pending : Operations
  pub drops : ℕ
  pub violations : ℕ

-- a new interface with this region
abbrev pub opened : ℕ → ℕ → Limits → List ℕ → State
opened rank ranks limits region = record {
  rank = rank;
  ranks = ranks;
  limits = limits;
  memory = region;
  indices = replicate limits.pts None;
  entries_given = 0;
  headers = unexpected_list [] limits.unexpected;
  cts = no_things limits.cts;
  eqs = no_things limits.eqs;
  mds = no_things limits.mds;
  pending = record { waiting = []; given = 0; limit = limits.triggered };
  drops = 0;
  violations = 0;
}

-- ---- the target's part of a state and the initiator's

-- what a target has of its own
abbrev pub side_of : State → Side
side_of s = record { rank = s.rank; limit = s.limits.entries; indices = s.indices; given = s.entries_given; headers = s.headers }

-- and with it what it is handed
abbrev pub parts_of : State → Parts
parts_of s = parts (side_of s) s.memory s.cts s.eqs

-- the state with these parts
abbrev pub with_parts : Parts → State → State
with_parts p s = record s {
  memory = p.region;
  indices = p.side.indices;
  entries_given = p.side.given;
  headers = p.side.headers;
  cts = p.cts;
  eqs = p.eqs;
}

-- what an initiator has, and what it is handed
abbrev pub home_of : State → Home
home_of s = home s.mds s.memory s.cts s.eqs

-- the state with these parts
abbrev pub with_home : Home → State → State
with_home p s = record s { memory = p.region; cts = p.cts; eqs = p.eqs; mds = p.mds }

-- ---- the two registers (Portals 4.3, status registers)

-- messages dropped
abbrev pub drops_after : Outcome → ℕ → ℕ
drops_after Dropped n = one_more n
drops_after _ n = n

-- operations that an entry did not allow
abbrev pub violations_after : Outcome → ℕ → ℕ
violations_after Violation n = one_more n
violations_after _ n = n

-- both, by the outcome
abbrev pub with_outcome : Outcome → State → State
with_outcome outcome s = record s { drops = drops_after outcome s.drops; violations = violations_after outcome s.violations }

-- ---- a message arrives

-- the state after a message, the outcome and the answer
pub record Delivers : Type 0 where
  pub state : State
  pub delivered : Delivered

-- the three together
abbrev pub delivers : State → Outcome → Option Sent → Delivers
delivers s outcome answer = record { state = s; delivered = record { outcome = outcome; answer = answer } }

-- after a request
abbrev pub after_request : State → Received → Delivers
after_request s r = delivers (with_outcome r.arrived.outcome (with_parts r.parts s)) r.arrived.outcome r.arrived.answer

-- after an answer
abbrev pub after_answer : State → Returned → Delivers
after_answer s r = delivers (with_outcome r.outcome (with_home r.home s)) r.outcome None

-- any message that comes to this interface
unfoldable pub target : State → Sent → Delivers
target s m = if is_answer m.header.kind then after_answer s (answered (home_of s) m) else after_request s (request (parts_of s) m)
