-- What becomes of the slots when ends come and go.
use Rattle.std.proofs.Common.{◌≡◌, ℕ, Bool, true, false, List, [], ◌∷◌, ◌++◌, length, sym, refl, ap, set, ◌∙◌, subst, append-nil}
use Rattle.std.proofs.Common.{if◌then◌else◌, ⊎_elim, eq-eqb, get_or}
use Rattle.std.specs.Prelude.{Result, Ok, Err, IfOk}
use Rattle.std.proofs.lemmas.Bool.{ne_eqb}
use mathlib.Core.Option.{some}
use lib.ListN.{get_elem?}
use Rattle.atomic_table.proofs.Lists.{at_set}
use Rattle.ptl_types.specs.declared.headers.Lane.TheVariants.{Request}
use Rattle.plan_core.specs.Plan.{Plan}
use Rattle.plan_core.specs.Values.{Inputs}
use Rattle.rank_node.specs.Node.{NodeState}
use Rattle.rank_slots.specs.declared.turn_rank.TurnRank.{TurnRank}
use Rattle.rank_slots.specs.declared.ports.OutPort.{OutPort}
use Rattle.rank_slots.specs.declared.ports.InPort.{InPort}
use Rattle.rank_slots.specs.Lists.{Each}
use Rattle.rank_slots.specs.Slots.{InOk, OutOk, Tied}
use Rattle.rank_slots.specs.Moves.{GainsIn, GainsOut, SameNode, Slotwise, at_rank}
use Rattle.rank_slots.proofs.Snocs.{each_snoc, front_some, snoc_at}

-- one slot changes, and the others stay
pub slotwise_set : (R : ℕ → TurnRank → TurnRank → Type 0) (l : List TurnRank) (i : ℕ) (old new : TurnRank) → get_elem? l i ≡ some old →
    R i old new → ((r : ℕ) (y : TurnRank) → (r ≡ i → ⊥) → R r y y) → Slotwise R l (set l i new)
slotwise_set R l i old new at here others r x e = ⊎_elim
    (λ (is : (r ≡ i) × (new ≡ x)). (
      old,
      ap (get_elem? l) is.0 ∙ at,
      subst (λ (z : ℕ × TurnRank). R z.0 old z.1) (λ k. (sym is.0 k, is.1 k)) here,
    ))
    (λ (is : (r ≡ i → ⊥) × (get_elem? l r ≡ some x)). (x, is.1, others r x is.0)) (at_set l i r new x e)

pub here_is : {A : Type 0} (s : ℕ) (a : A) → at_rank s s a ≡ a ∷ []
here_is s a = ap (λ (b : Bool). if b then a ∷ [] else []) (eq-eqb s s refl)

else_is : {A : Type 0} (r s : ℕ) (a : A) → (r ≡ s → ⊥) → at_rank r s a ≡ []
else_is r s a n = ap (λ (b : Bool). if b then a ∷ [] else []) (ne_eqb s r (λ e. n (sym e)))

pub same-node : (r : ℕ) (x : TurnRank) → SameNode r x x
same-node r x = record { job_is = refl; node = refl }

pub same-back : (r : ℕ) (y x : TurnRank) → SameNode r y x → SameNode r x y
same-back r y x s = record { job_is = sym s.job_is; node = sym s.node }

pub gains_out : (s : ℕ) (p : OutPort) (y x : TurnRank) → SameNode s y x → x.ins ≡ y.ins → x.outs.items ≡ y.outs.items ++ p ∷ [] →
    GainsOut s p s y x
gains_out s p y x n i o = record { same = n; outs_are = o ∙ ap (λ l. y.outs.items ++ l) (sym (here_is s p)); ins_are = ap (λ v. v.items) i }

pub gains_no_out : (s : ℕ) (p : OutPort) (r : ℕ) (y : TurnRank) → (r ≡ s → ⊥) → GainsOut s p r y y
gains_no_out s p r y n = record {
  same = same-node r y;
  outs_are =
      sym (ap (λ l. y.outs.items ++ l) (else_is r s p n) ∙ append-nil y.outs.items);
  ins_are = refl;
}

pub gains_in : (s : ℕ) (p : InPort) (y x : TurnRank) → SameNode s y x → x.outs ≡ y.outs → x.ins.items ≡ y.ins.items ++ p ∷ [] →
    GainsIn s p s y x
gains_in s p y x n o i = record { same = n; ins_are = i ∙ ap (λ l. y.ins.items ++ l) (sym (here_is s p)); outs_are = ap (λ v. v.items) o }

pub gains_no_in : (s : ℕ) (p : InPort) (r : ℕ) (y : TurnRank) → (r ≡ s → ⊥) → GainsIn s p r y y
gains_no_in s p r y n = record {
  same = same-node r y;
  ins_are =
      sym (ap (λ l. y.ins.items ++ l) (else_is r s p n) ∙ append-nil y.ins.items);
  outs_are = refl;
}

pub on_ok : {A E : Type 0} {P Q : A → Type 0} (r : Result A E) → ((a : A) → P a → Q a) → IfOk r P → IfOk r Q
on_ok (Ok a) f h = f a h
on_ok (Err e) f h = tt

-- ---- slots that keep their nodes
pub chain : (a b c : List TurnRank) → Slotwise SameNode a b → Slotwise SameNode b c → Slotwise SameNode a c
chain a b c s t r x e = let y = t r x e in let z = s r y.0 y.1 in
    (z.0, z.1, record { job_is = y.2.job_is ∙ z.2.job_is; node = y.2.node ∙ z.2.node })

pub stay : (a : List TurnRank) → Slotwise SameNode a a
stay a r x e = (x, e, same-node r x)

-- ---- ends come
pub tied-more-out : (p : Plan) (inputs : Inputs) (m : NodeState) (outs : List OutPort) (ins : List InPort) (o : OutPort) (c : Bool) →
    Tied p inputs m outs ins → OutOk p inputs m o
    → Each (λ (q : OutPort). q.target ≡ o.target → q.lane ≡ o.lane → ⊥) outs →
    (o.lane ≡ Request → get_or m.closed o.target false ≡ o.end.waits) → Tied p inputs m (if c then outs ++ o ∷ [] else outs) ins
tied-more-out p inputs m outs ins o false tied ok apart gated = tied
tied-more-out p inputs m outs ins o true tied ok apart gated = record {
  compiled = tied.compiled;
  strays = tied.strays;
  heard = tied.heard;
  out = each_snoc (OutOk p inputs m) outs o tied.out ok;
  into = tied.into;
  outs_differ = λ i k a b ea eb goal lane. ⊎_elim
      (λ (oa : get_elem? outs i ≡ some a). ⊎_elim
      (λ (ob : get_elem? outs k ≡ some b). tied.outs_differ i k a b oa ob goal lane)
      (λ (nb : (k ≡ length outs) × (o ≡ b)). absurd (apart i a oa (goal ∙ sym (ap (λ (q : OutPort). q.target) nb.1))
      (lane ∙ sym (ap (λ (q : OutPort). q.lane) nb.1))))
      (snoc_at outs o k b eb))
      (λ (na : (i ≡ length outs) × (o ≡ a)). ⊎_elim
      (λ (ob : get_elem? outs k ≡ some b). absurd (apart k b ob (sym (ap (λ (q : OutPort). q.target) na.1 ∙ goal))
      (sym (ap (λ (q : OutPort). q.lane) na.1 ∙ lane))))
      (λ (nb : (k ≡ length outs) × (o ≡ b)). na.0 ∙ sym nb.0)
      (snoc_at outs o k b eb))
      (snoc_at outs o i a ea);
  ins_differ = tied.ins_differ;
  gated = each_snoc (λ (q : OutPort). q.lane ≡ Request → get_or m.closed q.target false ≡ q.end.waits) outs o tied.gated gated;
}

pub tied-more-in : (p : Plan) (inputs : Inputs) (m : NodeState) (outs : List OutPort) (ins : List InPort) (o : InPort) (c : Bool) →
    Tied p inputs m outs ins → InOk p m o
    → Each (λ (q : InPort). q.source ≡ o.source → q.lane ≡ o.lane → ⊥) ins → Tied p inputs m outs (if c then ins ++ o ∷ [] else ins)
tied-more-in p inputs m outs ins o false tied ok apart = tied
tied-more-in p inputs m outs ins o true tied ok apart = record {
  compiled = tied.compiled;
  strays = tied.strays;
  heard = tied.heard;
  out = tied.out;
  into = each_snoc (InOk p m) ins o tied.into ok;
  outs_differ = tied.outs_differ;
  ins_differ = λ i k a b ea eb goal lane. ⊎_elim
      (λ (oa : get_elem? ins i ≡ some a). ⊎_elim
      (λ (ob : get_elem? ins k ≡ some b). tied.ins_differ i k a b oa ob goal lane)
      (λ (nb : (k ≡ length ins) × (o ≡ b)). absurd (apart i a oa (goal ∙ sym (ap (λ (q : InPort). q.source) nb.1))
      (lane ∙ sym (ap (λ (q : InPort). q.lane) nb.1))))
      (snoc_at ins o k b eb))
      (λ (na : (i ≡ length ins) × (o ≡ a)). ⊎_elim
      (λ (ob : get_elem? ins k ≡ some b). absurd (apart k b ob (sym (ap (λ (q : InPort). q.source) na.1 ∙ goal))
      (sym (ap (λ (q : InPort). q.lane) na.1 ∙ lane))))
      (λ (nb : (k ≡ length ins) × (o ≡ b)). na.0 ∙ sym nb.0)
      (snoc_at ins o k b eb))
      (snoc_at ins o i a ea);
  gated = tied.gated;
}

-- ---- ends leave
pub tied-less : (p : Plan) (inputs : Inputs) (m : NodeState) (outs more : List OutPort) (ins others : List InPort) →
    Tied p inputs m (outs ++ more) (ins ++ others) → Tied p inputs m outs ins
tied-less p inputs m outs more ins others tied = record {
  compiled = tied.compiled;
  strays = tied.strays;
  heard = tied.heard;
  out = λ i x e. (let ok = tied.out i x (front_some outs more i x e) in
      record { used = ok.used; inside = ok.inside; bounds = ok.bounds; sent_is = ok.sent_is });
  into = λ i x e. (let ok = tied.into i x (front_some ins others i x e) in record { bounds = ok.bounds; got_is = ok.got_is });
  outs_differ = λ i k a b ea eb. tied.outs_differ i k a b (front_some outs more i a ea) (front_some outs more k b eb);
  ins_differ = λ i k a b ea eb. tied.ins_differ i k a b (front_some ins others i a ea) (front_some ins others k b eb);
  gated = λ i x e. tied.gated i x (front_some outs more i x e);
}
