use Rattle.std.proofs.Common.{List, length, ap, arith}
use Rattle.rank_slots.specs.declared.turn_rank.TurnRank.{TurnRank}
use Rattle.fabric_cases.proofs.alone.made.Goals as goal

pub made-requires : goal.made-requires
made-requires c = let e = ap (λ (l : List TurnRank). length l) c.requires.hand.0.1 in let n = c.requires.slots in omega (arith, e, n)

pub made-requires-2 : goal.made-requires-2
made-requires-2 c = let e = ap (λ (l : List TurnRank). length l) c.requires.hand.0.1 in let n = c.requires.slots in omega (arith, e, n)
