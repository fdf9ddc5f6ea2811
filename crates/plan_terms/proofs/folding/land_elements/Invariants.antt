use Rattle.std.proofs.Common.{◌≡◌, length}
use Rattle.plan_terms.specs.terms.Terms.{Keeps}
use Rattle.plan_terms.proofs.Landing.{AreFoldedTo}
use Rattle.plan_terms.proofs.folding.land_elements.Given as goal

abbrev pub invariant-loop-i : goal.invariant-loop-i
invariant-loop-i l = record {
  keeps : Keeps l.initial.terms l.terms;
  many : length l.folds ≡ length l.initial.folds;
  folded : AreFoldedTo l.terms l.op l.ty l.initial.folds l.folds l.places l.i;
}
