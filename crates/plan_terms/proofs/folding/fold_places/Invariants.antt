use Rattle.std.proofs.Common.{take}
use Rattle.plan_terms.specs.terms.Terms.{Keeps}
use Rattle.plan_terms.proofs.Landing.{ArePlacesOf}
use Rattle.plan_terms.proofs.folding.fold_places.Given as goal

abbrev pub invariant-loop-fold : goal.invariant-loop-fold
invariant-loop-fold l = record {
  keeps : Keeps l.initial.terms l.terms;
  are : ArePlacesOf l.terms l.op l.ty l.places.items (take l.fold-index l.folds);
}
