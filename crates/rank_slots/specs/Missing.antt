-- What a slot that made no step found.
use Rattle.std.specs.Prelude.{ℕ, true, false, ◌≡◌, ◌≢◌, ◌⊎◌, ◌++◌, ◌∷◌, [], List, length}
use mathlib.Core.Option.{some}
use lib.ListN.{get_elem?}
use Rattle.ptl_types.specs.declared.headers.Lane.{Lane}
use Rattle.ptl_types.specs.declared.headers.Lane.TheVariants.{Request, Answer}
use Rattle.ptl_types.specs.Messages.{Sent}
use Rattle.cuts.specs.histories.History.Local.{Receive}
use Rattle.ni_model.specs.Answers.{is_awaited}
use Rattle.ni_model.specs.Ready.{is_ready, target_at}
use Rattle.ptl_types.specs.Handles.{one_more}
use Rattle.rank_node.specs.Copies.{has_start}
use Rattle.rank_node.specs.Gates.{goes_out}
use Rattle.rank_node.specs.Node.{NodeState}
use Rattle.rank_slots.specs.declared.ports.OutPort.{OutPort}
use Rattle.rank_slots.specs.declared.ports.InPort.{InPort}
use Rattle.rank_slots.specs.declared.turn_rank.TurnRank.{TurnRank}
use Rattle.rank_slots.specs.Lists.{Pairwise}
use Rattle.rank_slots.specs.Ports.{Flushed, IsOpen, Regated, SameIn}
use Rattle.rank_slots.specs.Names.{history}

-- a message waits at the end of this lane
pub record IsShut (d : ℕ) (lane : Lane) (outs : List OutPort) : Type 0 where
  pub at : ℕ
  pub port : OutPort
  pub there : get_elem? outs at ≡ some port
  pub target : port.target ≡ d
  pub lane_is : port.lane ≡ lane
  pub waits : port.end.waits ≡ true

-- no operation that is ready finds its lane open
abbrev pub AreShut : NodeState → Type 0
AreShut n = (t : ℕ) → is_ready n.nic t ≡ true → goes_out n.closed (target_at n.nic t) ≡ false

-- the lane's queue was found empty; or no answer is awaited, and it is a lane of answers; or its message's answer would have to wait
abbrev pub Why : NodeState → List OutPort → InPort → InPort → Type 0
Why n outs old new =
    (new.end.empty ≡ one_more old.end.empty)
    ⊎ (((old.lane ≡ Answer) × (is_awaited n.nic.mds.live ≡ false)) ⊎ ((old.lane ≡ Request) × IsShut old.source Answer outs))

-- ---- the in end of a place

-- an answer is awaited, where it is an end of answers
abbrev pub IsDueAt : ℕ → TurnRank → Type 0
IsDueAt at x = (p : InPort) → get_elem? x.ins.items at ≡ some p → p.lane ≡ Answer → is_awaited x.node.value.nic.mds.live ≡ true

-- an answer to its message finds room, where it is an end of requests
abbrev pub IsOpenAt : ℕ → TurnRank → Type 0
IsOpenAt at x = (p : InPort) → get_elem? x.ins.items at ≡ some p → p.lane ≡ Request → IsOpen p.source Answer x.outs.items

-- no answer is awaited at an end of answers; or a message waits where an answer to a request would go
abbrev pub IsKeptBack : ℕ → TurnRank → Type 0
IsKeptBack at x = (p : InPort) → get_elem? x.ins.items at ≡ some p →
    ((p.lane ≡ Answer) × (is_awaited x.node.value.nic.mds.live ≡ false)) ⊎ ((p.lane ≡ Request) × IsShut p.source Answer x.outs.items)

-- a message of its lane was received
pub record ReceivedAt (at : ℕ) (old new : TurnRank) : Type 0 where
  pub port : InPort
  pub there : get_elem? old.ins.items at ≡ some port
  pub message : Sent
  pub grew : history new ≡ history old ++ Receive port.source port.lane message ∷ []

-- no message was received by the end
pub record Missed (n : NodeState) (outs : List OutPort) (old new : InPort) : Type 0 where
  pub same : SameIn old new
  pub received : new.end.received ≡ old.end.received
  pub why : Why n outs old new

-- the slot passed over the in end of this place, and nothing else changed
pub record MissedAt (at : ℕ) (old new : TurnRank) : Type 0 where
  pub node : new.node.value ≡ old.node.value
  pub outs : new.outs.items ≡ old.outs.items
  pub many : length new.ins.items ≡ length old.ins.items
  pub others : (j : ℕ) → j ≢ at → get_elem? new.ins.items j ≡ get_elem? old.ins.items j
  pub here : (p q : InPort) → get_elem? old.ins.items at ≡ some p → get_elem? new.ins.items at ≡ some q
      → Missed old.node.value old.outs.items p q

-- the slot passed over all its in ends
pub record MissedAll (old new : TurnRank) : Type 0 where
  pub node : new.node.value ≡ old.node.value
  pub outs : new.outs.items ≡ old.outs.items
  pub ins : Pairwise (Missed old.node.value old.outs.items) old.ins.items new.ins.items

-- what waited was tried again
pub record HasFlushed (old new : TurnRank) : Type 0 where
  pub node : Regated old.node.value new.node.value
  pub outs : Pairwise Flushed old.outs.items new.outs.items
  pub ins : new.ins.items ≡ old.ins.items

-- the rank had started; what waited was tried again, and then no operation that was ready found its lane open, and each in end was
-- passed over
pub record Idled (old new : TurnRank) : Type 0 where
  pub started : has_start old.node.value.diary.locals ≡ true
  pub between : TurnRank
  pub flushed : HasFlushed old between
  pub shut : AreShut between.node.value
  pub missed : MissedAll between new

-- the slot passed over the lane from rank s, after what waited was tried again
pub record PassedAt (s : ℕ) (lane : Lane) (old new : TurnRank) : Type 0 where
  pub at : ℕ
  pub port : InPort
  pub there : get_elem? old.ins.items at ≡ some port
  pub source : port.source ≡ s
  pub lane_is : port.lane ≡ lane
  pub between : TurnRank
  pub flushed : HasFlushed old between
  pub missed : MissedAt at between new
