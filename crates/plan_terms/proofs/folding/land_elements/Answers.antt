-- An element more in each turn.
use Rattle.std.proofs.Common.{arith}
use Rattle.plan_terms.proofs.Landing.{all_folded}
use Rattle.plan_terms.proofs.folding.land_elements.Goals as goal

pub returns-clause-combined : goal.returns-clause-combined
returns-clause-combined c =
    all_folded c.loop-i.terms c.args.op c.args.ty c.args.folds.now c.loop-i.folds c.args.places.now c.loop-i.i
    (let n = c.loop-i.invariant.many in let t = c.loop-i-test.false in omega (arith, n, t))
    c.loop-i.invariant.many c.loop-i.invariant.folded
