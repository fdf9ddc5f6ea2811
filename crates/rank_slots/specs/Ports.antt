-- What becomes of a rank's ends in a turn, and of its node beside its steps.
use Rattle.std.specs.Prelude.{ℕ, Bool, true, false, ◌≡◌, ◌<◌, ◌++◌, ◌∷◌, [], List, Option, Some, None, filter, length, slice_index_or}
use Rattle.std.specs.Prelude.{slice_set}
use mathlib.Core.Option.{some}
use lib.ListN.{get_elem?}
use Rattle.ptl_types.specs.declared.headers.Lane.{Lane}
use Rattle.ptl_types.specs.declared.headers.Lane.TheVariants.{Request, Answer}
use Rattle.ptl_types.specs.Messages.{Sent}
use Rattle.pair_wires.specs.Bounds.{KeepsBounds}
use Rattle.ptl_types.specs.Handles.{one_more}
use Rattle.pair_wires.specs.Wires.{WireState}
use Rattle.cuts.specs.histories.History.{Local, and_then, got, is_for}
use Rattle.rank_node.specs.Node.{NodeState}
use Rattle.rank_slots.specs.declared.ports.OutPort.{OutPort}
use Rattle.rank_slots.specs.declared.ports.InPort.{InPort}
use Rattle.rank_slots.specs.Lists.{Each}
use Rattle.rank_slots.specs.Joints.{Fits, out_joint}

-- the end of the same lane and wire
pub record SameOut (old new : OutPort) : Type 0 where
  pub target : new.target ≡ old.target
  pub lane : new.lane ≡ old.lane
  pub number : new.wire ≡ old.wire
  pub wire : new.end.wire ≡ old.end.wire
  pub bounds : new.end.bounds ≡ old.end.bounds

pub record SameIn (old new : InPort) : Type 0 where
  pub source : new.source ≡ old.source
  pub lane : new.lane ≡ old.lane
  pub number : new.wire ≡ old.wire
  pub wire : new.end.wire ≡ old.end.wire
  pub bounds : new.end.bounds ≡ old.end.bounds

-- what waited was tried again: where it waits still, its queue was full
pub record Flushed (old new : OutPort) : Type 0 where
  pub same : SameOut old new
  pub sent : new.end.sent ≡ old.end.sent
  pub full : new.end.waits ≡ true → new.end.refused ≡ one_more old.end.refused

-- the message, if there is one, was sent by the end of its lane; no other end changed
pub record Posted (made : Option Sent) (old new : OutPort) : Type 0 where
  pub same : SameOut old new
  pub sent : new.end.sent ≡ old.end.sent ++ filter (is_for old.target old.lane) (and_then made [])

-- the local step was a receipt by the end of its lane; no other end changed
pub record Heard (e : Local) (old new : InPort) : Type 0 where
  pub same : SameIn old new
  pub received : new.end.received ≡ old.end.received ++ got (e ∷ []) old.source old.lane

-- each end of requests whose message waits is noted as closed
abbrev pub Gated : List Bool → List OutPort → Type 0
Gated closed outs = Each (λ (p : OutPort). p.lane ≡ Request → slice_index_or closed p.target false ≡ p.end.waits) outs

-- which lanes are noted as closed once it was noted whether a message waits at the end of this one
abbrev pub gate_after : Lane → ℕ → Bool → List Bool → List Bool
gate_after Request d waits closed = slice_set closed d waits
gate_after Answer d waits closed = closed

-- the node is the same, but for which of its lanes are noted as closed
pub record Regated (old new : NodeState) : Type 0 where
  pub same : new ≡ record old { closed = new.closed }
  pub wide : length new.closed ≡ length old.closed

-- two out ends of one lane are one
abbrev pub OutsDiffer : List OutPort → Type 0
OutsDiffer outs =
    (i j : ℕ) (p q : OutPort) → get_elem? outs i ≡ some p → get_elem? outs j ≡ some q → p.target ≡ q.target → p.lane ≡ q.lane → i ≡ j

abbrev pub InsDiffer : List InPort → Type 0
InsDiffer ins =
    (i j : ℕ) (p q : InPort) → get_elem? ins i ≡ some p → get_elem? ins j ≡ some q → p.source ≡ q.source → p.lane ≡ q.lane → i ≡ j

-- nothing waits at the end of this lane
abbrev pub IsOpen : ℕ → Lane → List OutPort → Type 0
IsOpen d lane outs = Each (λ (p : OutPort). p.target ≡ d → p.lane ≡ lane → p.end.waits ≡ false) outs

-- the message, if there is one, may be sent by this end, where it is the end of its lane
abbrev pub MayPost : Option Sent → OutPort → Type 0
MayPost None p = Unit {0}
MayPost (Some m) p = is_for p.target p.lane m ≡ true → (p.end.waits ≡ false) × KeepsBounds p.end.bounds (p.end.sent ++ m ∷ [])

-- the out ends of a rank are of these wires, each of another lane, and the node knows where a request waits
pub record AreEnds (wires : List WireState) (closed : List Bool) (outs : List OutPort) : Type 0 where
  pub wired : Each (λ (p : OutPort). Fits wires (out_joint p)) outs
  pub inside : Each (λ (p : OutPort). p.target < length closed) outs
  pub differ : OutsDiffer outs
  pub gated : Gated closed outs
