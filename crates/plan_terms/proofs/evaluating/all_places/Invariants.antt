use Rattle.plan_terms.specs.terms.Terms.{Keeps}
use Rattle.plan_terms.specs.Cells.{AreCells}
use Rattle.plan_terms.proofs.evaluating.all_places.Given as goal

abbrev pub invariant-loop-c : goal.invariant-loop-c
invariant-loop-c l = record {
  keeps : Keeps l.initial.terms l.terms;
  are : AreCells l.plan l.count l.terms l.c l.cells.items;
}
