-- How ends come to slots, and how they leave them.
use Rattle.std.specs.Prelude.{ℕ, false, ◌≡◌, ◌==◌, List, [], ◌∷◌, ◌++◌, if◌then◌else◌, slice_index_or}
use mathlib.Core.Option.{some}
use lib.ListN.{get_elem?}
use Rattle.ptl_types.specs.declared.headers.Lane.TheVariants.{Request}
use Rattle.rank_slots.specs.declared.turn_rank.TurnRank.{TurnRank}
use Rattle.rank_slots.specs.declared.ports.OutPort.{OutPort}
use Rattle.rank_slots.specs.declared.ports.InPort.{InPort}
use Rattle.rank_slots.specs.Lists.{Each}
use Rattle.rank_slots.specs.Slots.{InOk, OutOk}

-- ---- what may come to a slot
-- a further out end tells what the history says, of another lane than the others, and the node knows whether a request waits there
pub record MayGainOut (x : TurnRank) (p : OutPort) : Type 0 where
  pub ok : OutOk x.job.schedule.plan x.job.inputs x.node.value p
  pub apart : Each (λ (q : OutPort). q.target ≡ p.target → q.lane ≡ p.lane → ⊥) x.outs.items
  pub gated : p.lane ≡ Request → slice_index_or x.node.value.closed p.target false ≡ p.end.waits

pub record MayGainIn (x : TurnRank) (p : InPort) : Type 0 where
  pub ok : InOk x.job.schedule.plan x.node.value p
  pub apart : Each (λ (q : InPort). q.source ≡ p.source → q.lane ≡ p.lane → ⊥) x.ins.items

-- ---- what becomes of the slots, one by one
abbrev pub Slotwise : (ℕ → TurnRank → TurnRank → Type 0) → List TurnRank → List TurnRank → Type 0
Slotwise R old new = (r : ℕ) (x : TurnRank) → get_elem? new r ≡ some x → (y : TurnRank) × (get_elem? old r ≡ some y) × R r y x

-- of the same job, with the same node
pub record SameNode (r : ℕ) (y x : TurnRank) : Type 0 where
  pub job_is : x.job ≡ y.job
  pub node : x.node.value ≡ y.node.value

-- at rank s alone
abbrev pub at_rank : {A : Type 0} → ℕ → ℕ → A → List A
at_rank r s a = if s == r then a ∷ [] else []

-- the slot of rank s has one end more, which is its last
pub record GainsOut (s : ℕ) (p : OutPort) (r : ℕ) (y x : TurnRank) : Type 0 where
  pub same : SameNode r y x
  pub outs_are : x.outs.items ≡ y.outs.items ++ at_rank r s p
  pub ins_are : x.ins.items ≡ y.ins.items

pub record GainsIn (s : ℕ) (p : InPort) (r : ℕ) (y x : TurnRank) : Type 0 where
  pub same : SameNode r y x
  pub outs_are : x.outs.items ≡ y.outs.items
  pub ins_are : x.ins.items ≡ y.ins.items ++ at_rank r s p

-- it has one end fewer
abbrev pub LosesOut : ℕ → OutPort → ℕ → TurnRank → TurnRank → Type 0
LosesOut s p r y x = GainsOut s p r x y

abbrev pub LosesIn : ℕ → InPort → ℕ → TurnRank → TurnRank → Type 0
LosesIn s p r y x = GainsIn s p r x y
