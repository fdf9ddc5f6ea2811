use Rattle.order_check.specs.Open.{HearsNothing}
use Rattle.order_check.proofs.allowing.hears_nothing.Given as goal

abbrev pub invariant-loop-source : goal.invariant-loop-source
invariant-loop-source l = HearsNothing l.world l.r l.source
