use Rattle.coll_meaning.specs.Steps.{IsThere}
use Rattle.coll_meaning.proofs.meaning.all_steps.Given as goal

abbrev pub invariant-loop-k : goal.invariant-loop-k
invariant-loop-k l = IsThere l.shape l.kept l.fn.inputs l.k l.held
