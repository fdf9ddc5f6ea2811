use Rattle.std.proofs.Common.{arith}
use Rattle.std.proofs.lemmas.List.{ext_get_or}
use Rattle.plan_terms.specs.terms.Terms.{no_member}
use Rattle.plan_terms.proofs.terms.term.same_members.Goals as goal

pub returns : goal.returns
returns c = λ _. ext_get_or no_member c.args.a.now c.args.b.now (omega arith) (λ k h. c.loop-k.invariant k (omega arith))
