use Rattle.std.proofs.Common.{drop}
use Rattle.plan_terms.proofs.Landing.{ArePutTo}
use Rattle.plan_terms.proofs.evaluating.land_all.Given as goal

abbrev pub invariant-loop-l : goal.invariant-loop-l
invariant-loop-l l = ArePutTo l.plan l.before l.links (drop l.l-index l.links) l.initial.places l.places
