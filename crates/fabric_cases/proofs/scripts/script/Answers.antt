use Rattle.std.proofs.Common.{◌∙◌, List, length, ap, arith}
use Rattle.rank_slots.specs.declared.turn_rank.TurnRank.{TurnRank}
use Rattle.fabric_cases.proofs.scripts.script.Goals as goal

pub made-requires : goal.made-requires
made-requires g c = let e = ap (λ (l : List TurnRank). length l) c.fire-fired.ensures.hand.0.1 in let n = c.requires.slots in
    omega (arith, e, n)

pub made-requires-2 : goal.made-requires-2
made-requires-2 g c = let e = ap (λ (l : List TurnRank). length l) c.fire-fired_early.ensures.hand.0.1 in let n = c.requires.slots in
    omega (arith, e, n)

pub returns-clause-one : goal.returns-clause-one
returns-clause-one g c = (
  c.fire-fired.ensures.hand,
  c.fire-fired.ensures.fired.2.parts ∙ (c.deliver-moved_early.ensures.delivered.2.parts ∙ c.start-first.ensures.begun.2.parts),
)

pub returns-clause-two : goal.returns-clause-two
returns-clause-two g c = (c.fire-fired_early.ensures.hand, c.fire-fired_early.ensures.fired.2.parts ∙ c.start-second.ensures.begun.2.parts)
