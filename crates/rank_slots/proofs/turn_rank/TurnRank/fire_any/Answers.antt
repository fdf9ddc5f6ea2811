use Rattle.std.proofs.Common.{◌≡◌, ◌∙◌, length, refl, sym, subst}
use Rattle.std.specs.Prelude.{Some, slice_get}
use Rattle.rank_node.specs.Gates.{open_numbers}
use Rattle.rank_node.specs.Node.{NodeState}
use Rattle.rank_slots.proofs.Readies.{first-open, none-open}
use Rattle.rank_slots.proofs.turn_rank.TurnRank.fire_any.Goals as goal

pub fire-requires-clause-ready : goal.fire-requires-clause-ready
fire-requires-clause-ready g c = let n = c.args.self.now.node.value in let t = c.ready_at-number.result in
    (first-open n.closed n.nic t (subst (λ (m : NodeState). slice_get (open_numbers m.closed m.nic) 0 ≡ Some t) c.deref-2.ensures
    c.ready_at-number.ensures)).ready

pub fire-requires-clause-open : goal.fire-requires-clause-open
fire-requires-clause-open g c = let n = c.args.self.now.node.value in let t = c.ready_at-number.result in
    (first-open n.closed n.nic t (subst (λ (m : NodeState). slice_get (open_numbers m.closed m.nic) 0 ≡ Some t) c.deref-2.ensures
    c.ready_at-number.ensures)).goes

pub returns-then-ready-eq0-clause-none : goal.returns-then-ready-eq0-clause-none
returns-then-ready-eq0-clause-none g c = let n = c.args.self.now.node.value in (
  refl,
  none-open n.closed n.nic (subst (λ (m : NodeState). length (open_numbers m.closed m.nic) ≡ 0) c.deref.ensures
      (sym c.ready.ensures ∙ c.if-ready-eq0.true)),
)

pub returns-clause-some : goal.returns-clause-some
returns-clause-some g c = let n = c.args.self.now.node.value in let t = c.ready_at-number.result in (
  (first-open n.closed n.nic t (subst (λ (m : NodeState). slice_get (open_numbers m.closed m.nic) 0 ≡ Some t) c.deref-2.ensures
      c.ready_at-number.ensures)).ready,
  c.fire.ensures.grew,
)

pub returns-then-ready-eq0-clause-handles : goal.returns-then-ready-eq0-clause-handles
returns-then-ready-eq0-clause-handles g c = λ _. refl

pub returns-clause-handles : goal.returns-clause-handles
returns-clause-handles g c = c.fire.ensures.handles
