-- Calls that make one kind of step, after what waited was tried again.
use Rattle.std.proofs.Common.{append-nil, ◌≡◌, ◌++◌, ◌∷◌, [], ◌∙◌, ℕ, Bool, true, false, List, sym, ap, refl, subst}
use Rattle.std.specs.Prelude.{Option, Some, None, IfSome, IfNone}
use mathlib.Core.Option.{some}
use mathlib.Core.List.{IsPrefix}
use lib.ListN.{get_elem?}
use Rattle.ptl_types.specs.declared.headers.Lane.{Lane}
use Rattle.ptl_types.specs.Messages.{Sent}
use Rattle.ni_model.specs.Ready.{is_ready}
use Rattle.ni_model.specs.State.{State}
use Rattle.cuts.specs.histories.History.Local.{Receive, Fire}
use Rattle.rank_node.specs.Node.{NodeState}
use Rattle.rank_slots.specs.declared.turn_rank.TurnRank.{TurnRank}
use Rattle.rank_slots.specs.declared.ports.InPort.{InPort}
use Rattle.rank_slots.specs.Missing.{AreShut, HasFlushed, MissedAt, PassedAt, ReceivedAt}
use Rattle.rank_slots.specs.Names.{Mark, history, mark, note}
use Rattle.rank_slots.specs.Steps.{Delivered, Fired, Grew, NoneFires}
use Rattle.rank_slots.proofs.Pairs.{same_at}

still : (x z : TurnRank) → HasFlushed x z → history z ≡ history x
still x z f = ap (λ (n : NodeState). n.diary.locals) f.node.same

-- ---- a firing
abbrev pub DidFire : TurnRank → TurnRank → ℕ → Type 0
DidFire x y t = (is_ready x.node.value.nic t ≡ true) × Grew (Fire t) (mark x) (mark y)

abbrev pub DidNot : TurnRank → TurnRank → Type 0
DidNot x y = HasFlushed x y × AreShut y.node.value

pub fired-from : (e : Option ℕ) (x z y : TurnRank) → HasFlushed x z → IfSome e (DidFire z y) → IfSome e (DidFire x y)
fired-from None x z y f h = tt
fired-from (Some t) x z y f h = (
  subst (λ (s : State). is_ready s t ≡ true) (ap (λ (n : NodeState). n.nic) f.node.same) h.0,
  h.1 ∙ ap (λ es. es ++ Fire t ∷ []) (still x z f),
)

pub shut-from : (e : Option ℕ) (x z y : TurnRank) → HasFlushed x z → IfNone e ((y ≡ z) × AreShut z.node.value) → IfNone e (DidNot x y)
shut-from None x z y f h = (subst (HasFlushed x) (sym h.0) f, subst (λ (s : TurnRank). AreShut s.node.value) (sym h.0) h.1)
shut-from (Some t) x z y f h = tt

pub fired-told : (e : Option ℕ) (x y : TurnRank) → IfSome e (DidFire x y) → IfNone e (DidNot x y)
    → (DidNot x y → (history y ≡ history x) × NoneFires (note x) (note y)) → Fired e (mark x) (mark y)
fired-told None x y did none told = told none
fired-told (Some t) x y did none told = did

pub longer-fired : (e : Option ℕ) (x y : TurnRank) → IfSome e (DidFire x y) → IfNone e (DidNot x y) → IsPrefix (history x) (history y)
longer-fired None x y did none = ([], append-nil (history x) ∙ sym (still x y none.0))
longer-fired (Some t) x y did none = (Fire t ∷ [], sym did.1)

-- ---- a receipt
pub came-from : (x z y : TurnRank) (at s : ℕ) (lane : Lane) (p : InPort) → HasFlushed x z → get_elem? z.ins.items at ≡ some p →
    p.source ≡ s → p.lane ≡ lane
    → ReceivedAt at z y → (m : Sent) × Grew (Receive s lane m) (mark x) (mark y)
came-from x z y at s lane p f there source kind h =
    let one = same_at z.ins.items at h.port p h.there there in
    let from : h.port.source ≡ s = ap (λ (o : InPort). o.source) one ∙ source in
    let on : h.port.lane ≡ lane = ap (λ (o : InPort). o.lane) one ∙ kind in
    (h.message, h.grew ∙ (λ i. still x z f i ++ Receive (from i) (on i) h.message ∷ []))

pub passed-from : (x z y : TurnRank) (at s : ℕ) (lane : Lane) (p : InPort) → HasFlushed x z → get_elem? z.ins.items at ≡ some p →
    p.source ≡ s → p.lane ≡ lane
    → MissedAt at z y → PassedAt s lane x y
passed-from x z y at s lane p f there source kind h = record {
  at = at;
  port = p;
  there = ap (λ (l : List InPort). get_elem? l at) (sym f.ins) ∙ there;
  source = source;
  lane_is = kind;
  between = z;
  flushed = f;
  missed = h;
}

pub longer-came : (answer : Bool) (s : ℕ) (lane : Lane) (a b : Mark) → Delivered s lane answer a b → IsPrefix a.0 b.0
longer-came true s lane a b h = let m = h.yes refl in (Receive s lane m.0 ∷ [], sym m.1)
longer-came false s lane a b h = ([], append-nil a.0 ∙ sym (h.no refl).0)
