use Rattle.std.proofs.Common.{subst}
use Rattle.plan_terms.specs.terms.Terms.{IsTable}
use Rattle.plan_terms.proofs.terms.Solving.{solved}
use Rattle.plan_terms.proofs.terms.table.Terms.are_solved.Goals as goal

pub returns : goal.returns
returns c = λ inputs bytes. solved c.args.self.now inputs (subst IsTable c.self.view_is c.self.invariant) bytes
