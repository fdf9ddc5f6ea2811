use Rattle.std.proofs.Common.{refl, subst, inr}
use Rattle.rank_slots.specs.declared.ports.InPort.{InPort}
use Rattle.rank_slots.specs.Missing.{Missed}
use Rattle.rank_slots.proofs.Pairs.{same_at}
use Rattle.rank_slots.proofs.Ties.{same-in}
use Rattle.rank_slots.proofs.turn_rank.TurnRank.pull.Goals as goal

pub returns-then-not-may_take-clause-none : goal.returns-then-not-may_take-clause-none
returns-then-not-may_take-clause-none g c = λ f. let s = c.args.self.now in record {
  node = refl;
  outs = refl;
  many = refl;
  others = λ j apart. refl;
  here = λ p q a b. subst (λ (z : InPort). Missed s.node.value s.outs.items p z) (same_at s.ins.items c.args.at p q a b)
      (record { same = same-in p; received = refl; why = inr ((c.if-not-may_take.ensures).no refl p a) });
}

pub returns-then-not-may_take-clause-handles : goal.returns-then-not-may_take-clause-handles
returns-then-not-may_take-clause-handles g c = λ _. refl

pub returns-clause-handles : goal.returns-clause-handles
returns-clause-handles g c = c.receive.ensures.handles
