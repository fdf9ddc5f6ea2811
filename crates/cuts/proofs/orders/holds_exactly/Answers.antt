use Rattle.cuts.proofs.orders.Holding.{holds_from}
use Rattle.cuts.proofs.orders.Steps.{ends_hold, holds_ends}
use Rattle.cuts.proofs.orders.holds_exactly.Goals as goal

pub returns-clause-moves : goal.returns-clause-moves
returns-clause-moves c = λ ranks lists. ((λ v. (v.moves, v.taken.made, v.says)), (λ x. holds_from ranks lists x.0 x.1 x.2))

pub returns-clause-steps : goal.returns-clause-steps
returns-clause-steps c = λ ranks lists. (holds_ends ranks lists, ends_hold ranks lists)
