use Rattle.std.proofs.Common.{below_more}
use Rattle.order_check.specs.Open.{HearsNoneOf}
use Rattle.order_check.proofs.allowing.hears_nothing.Goals as goal

pub loop-source-preserved : goal.loop-source-preserved
loop-source-preserved c =
    below_more (λ s. HearsNoneOf c.args.world.now c.args.r s) c.loop-source.source c.loop-source.invariant
    (c.hears_none_of.ensures.0 c.if-not-hears_none_of.false)
