use Rattle.std.proofs.Common.{◌≡◌, map, subst}
use Rattle.rank_node.specs.Copies.{Diary, listed}
use Rattle.rank_node.proofs.history.History.steps.Goals as goal

pub returns-clause-listed : goal.returns-clause-listed
returns-clause-listed c = subst (λ (d : Diary). map listed d.locals ≡ d.steps) c.self.view_is c.self.invariant.0
