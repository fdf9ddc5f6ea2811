use Rattle.std.proofs.Common.{arith}
use Rattle.plan_terms.proofs.terms.Runs.{run_list}
use Rattle.plan_terms.proofs.terms.words.are_from.Goals as goal

pub returns : goal.returns
returns c = λ _. run_list c.args.first c.args.places.now (λ k h. c.loop-k.invariant k (omega arith))
