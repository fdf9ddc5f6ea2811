-- A node: the interface of a rank, with the history by which it came to be what it is.
use Rattle.std.specs.Prelude.{ℕ, suc, Bool, false, ◌+◌, ◌*◌, ◌^◌, ◌<◌, ◌≤◌, ◌≡◌, List, length, count_by, slice_set, if◌then◌else◌, All}
use Rattle.ptl_types.specs.declared.calls.Limits.{Limits}
use Rattle.ptl_types.specs.declared.headers.Lane.{Lane}
use Rattle.ptl_types.specs.declared.steps.Call.{Call}
use Rattle.ptl_types.specs.declared.steps.LocalStep.TheVariants.{Start, Fire}
use Rattle.ptl_types.specs.Messages.{Sent}
use Rattle.ni_model.specs.Ready.{fired}
use Rattle.ni_model.specs.State.{State, opened, target}
use Rattle.portals_ni.specs.Fit.{FitLimits}
use Rattle.plan_core.specs.Places.{place_in}
use Rattle.cuts.specs.view.Slots.{Slots}
use Rattle.cuts.specs.histories.History.{Beginning, Legal, state}
use Rattle.cuts.specs.histories.History.Local.{Start as Started, Fire as Fired}
use Rattle.cuts.specs.view.Calls.{calls_made}
use Rattle.plan_core.specs.declared.calls.OwnCell.{OwnCell}
use Rattle.cuts.specs.histories.Lanes.{is_receipt}
use Rattle.cuts.specs.histories.Plans.{beginning}
use Rattle.rank_node.specs.declared.compiled.Compiled.{Compiled}
use Rattle.rank_node.specs.Calls.{MayCallAll, count_calls, none_made}
use Rattle.rank_node.specs.Copies.{Diary, bytes_received, has_start, with_receipt, with_step}
use Rattle.rank_node.specs.Handles.{Handles, Agrees, AreAllOf, Counted, Fits, IsRising, counted_in, room_under}

-- ---- what is compiled for a rank

-- as the fields of Compiled say
pub record Task : Type 0 where
  pub rank : ℕ
  pub ranks : ℕ
  pub limits : Limits
  pub region : List ℕ
  pub cells : List ℕ
  pub calls : List Call
  pub own : List OwnCell
  pub go : ℕ
  pub longest : ℕ
  pub receipts : ℕ
  pub bytes : ℕ

-- of a region that begins with these bytes, and of these calls
abbrev pub task_from : Compiled → List ℕ → List Call → Task
task_from c region calls = record {
  rank = c.rank;
  ranks = c.ranks;
  limits = c.limits;
  region = region;
  cells = c.cells.items;
  calls = calls;
  own = c.own.items;
  go = c.go;
  longest = c.longest;
  receipts = c.receipts;
  bytes = c.bytes;
}

abbrev pub task_of : Compiled → Task
task_of c = task_from c c.region.list c.calls.items

-- the interface before its start, under the slots k
abbrev pub prepared : Task → Slots → State
prepared t k = calls_made k t.cells t.calls (opened t.rank t.ranks t.limits t.region)

-- its start
abbrev pub start_of : Task → Slots → Beginning
start_of t k = beginning t.longest k t.cells t.go t.own

-- what is made in all, the entries of the start among it
abbrev pub made_in_all : Task → Counted
made_in_all t = let n = count_calls t.calls none_made in record n { entries = n.entries + length t.own }

-- the calls can be made one after the other; after them there are a counter for each own cell beside that of what is done, and
-- one descriptor; and the limits suffice, and an interface can be opened with them
pub record IsCompiled (t : Task) : Type 0 where
  pub rank : t.rank < t.ranks
  pub rising : IsRising t.cells
  pub may : MayCallAll t.cells t.ranks t.limits none_made t.calls
  pub counters : (count_calls t.calls none_made).counters ≡ suc (length t.cells)
  pub descriptors : (count_calls t.calls none_made).descriptors ≡ 1
  pub enough : Fits (made_in_all t) (room_under t.limits)
  pub fit : FitLimits t.limits
  pub go : place_in t.cells t.go < length t.cells
  pub own : All (λ (x : OwnCell). place_in t.cells x.number < length t.cells) t.own
  pub at_most : t.receipts < 2 ^ 33

-- the interface and its handles after the calls
pub record IsPrepared (t : Task) (nic : State) (hs : Handles) : Type 0 where
  pub state : (k : Slots) → Agrees k hs → nic ≡ prepared t k
  pub all : AreAllOf nic hs
  pub made : counted_in hs ≡ count_calls t.calls none_made
  pub room : hs.room ≡ room_under t.limits

-- ---- the node

-- what is seen of a node: for how many strays there is room beside the messages of its task, and which of its request lanes have no
-- room now, by the rank that they lead to
pub record NodeState : Type 0 where
  pub task : Task
  pub kept : Handles
  pub diary : Diary
  pub nic : State
  pub strays : ℕ
  pub closed : List Bool

-- a stray has at most so many bytes
abbrev pub stray_bytes : ℕ
stray_bytes = 64

-- room for a start that is still to come
abbrev pub start_room : Bool → ℕ
start_room started = if started then 0 else 1

-- the entries of a start that is still to come
abbrev pub entries_due : Bool → List OwnCell → ℕ
entries_due started own = if started then 0 else length own

-- what a node keeps
pub record IsNode (n : NodeState) : Type 0 where
  pub compiled : IsCompiled n.task
  -- the interface is the state of the history, and the history is legal, whatever slots will be given
  pub state : (k : Slots) → Agrees k n.kept → n.nic ≡ state (start_of n.task k) (prepared n.task k) n.diary.locals
  pub legal : (k : Slots) → Agrees k n.kept → Legal (start_of n.task k) false (prepared n.task k) n.diary.locals
  -- the handles are all that were given
  pub all : AreAllOf n.nic n.kept
  pub counters : length n.kept.counters ≡ suc (length n.task.cells)
  pub descriptors : length n.kept.descriptors ≡ 1
  -- the room that is left
  pub entries : length n.kept.entries + entries_due (has_start n.diary.locals) n.task.own ≤ n.kept.room.entries
  pub steps : start_room (has_start n.diary.locals) + (length n.nic.pending.waiting + n.diary.receipts) ≤ n.diary.room
  pub receipts : n.diary.receipts + count_by is_receipt n.diary.locals ≡ n.task.receipts + n.strays
  pub bytes : n.diary.bytes + bytes_received n.diary.locals ≡ n.task.bytes + stray_bytes * n.strays
  pub gates : length n.closed ≡ n.task.ranks

-- ---- its steps

-- a firing
abbrev pub fired_node : ℕ → NodeState → NodeState
fired_node t n = record n { diary = with_step (Fire t) (Fired t) n.diary; nic = (fired n.nic t).state }

-- a receipt
abbrev pub received_node : ℕ → Lane → Sent → NodeState → NodeState
received_node source lane m n = record n { diary = with_receipt source lane m n.diary; nic = (target n.nic m).state }

-- the request lane to rank d has room, or has none
abbrev pub gated_node : ℕ → Bool → NodeState → NodeState
gated_node d closed n = record n { closed = slice_set n.closed d closed }

-- a start, which may make entries
pub record IsStarted (old new : NodeState) : Type 0 where
  pub task : new.task ≡ old.task
  pub strays : new.strays ≡ old.strays
  pub closed : new.closed ≡ old.closed
  pub diary : new.diary ≡ with_step Start Started old.diary
  pub nic : (k : Slots) → Agrees k new.kept → new.nic ≡ (start_of old.task k).by old.nic
  pub slots : (k : Slots) → Agrees k new.kept → Agrees k old.kept
