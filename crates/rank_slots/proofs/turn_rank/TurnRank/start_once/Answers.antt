use Rattle.std.proofs.Common.{◌∙◌, ap, refl, sym}
use Rattle.rank_node.specs.Copies.{has_start}
use Rattle.rank_node.specs.Node.{NodeState}
use Rattle.rank_slots.proofs.turn_rank.TurnRank.start_once.Goals as goal

pub returns-then-started-clause-begun : goal.returns-then-started-clause-begun
returns-then-started-clause-begun g c = (
  sym (c.if-started.ensures ∙ ap (λ (n : NodeState). has_start n.diary.locals) c.deref.ensures),
  refl,
)

pub begin-requires-clause-first : goal.begin-requires-clause-first
begin-requires-clause-first g c = sym (c.if-started.ensures ∙ ap (λ (n : NodeState). has_start n.diary.locals) c.deref.ensures)

pub returns-clause-begun : goal.returns-clause-begun
returns-clause-begun g c = (
  sym (c.if-started.ensures ∙ ap (λ (n : NodeState). has_start n.diary.locals) c.deref.ensures),
  c.begin.ensures.grew,
)

pub returns-then-started-clause-handles : goal.returns-then-started-clause-handles
returns-then-started-clause-handles g c = λ _. refl

pub returns-clause-handles : goal.returns-clause-handles
returns-clause-handles g c = c.begin.ensures.handles
