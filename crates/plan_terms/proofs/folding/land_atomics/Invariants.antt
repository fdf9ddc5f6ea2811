use Rattle.std.proofs.Common.{drop}
use Rattle.plan_terms.specs.terms.Terms.{Keeps}
use Rattle.plan_terms.proofs.Landing.{AreLandedTo}
use Rattle.plan_terms.proofs.folding.land_atomics.Given as goal

abbrev pub invariant-loop-l : goal.invariant-loop-l
invariant-loop-l l = record {
  keeps : Keeps l.initial.terms l.terms;
  landed : AreLandedTo l.terms l.next.plan.now l.fn.op l.next.number l.next.before.now l.links (drop l.l-index l.links) l.initial.folds
      l.folds;
}
