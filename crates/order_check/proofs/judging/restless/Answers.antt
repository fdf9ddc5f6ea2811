use Rattle.std.proofs.Common.{◌∙◌, arith, below_more, sym}
use Rattle.order_check.specs.Open.{IsQuiet}
use Rattle.order_check.proofs.judging.restless.Goals as goal

pub returns-then-not-is_quiet : goal.returns-then-not-is_quiet
returns-then-not-is_quiet c = (
  (let t = c.loop-r-test.true in let n = c.ranks-r-end.ensures in omega (arith, t, n)),
  c.loop-r.invariant,
  λ quiet. let q = sym c.if-not-is_quiet.true ∙ c.is_quiet.ensures.1 quiet in cc,
)

pub loop-r-preserved : goal.loop-r-preserved
loop-r-preserved c =
    below_more (λ q. IsQuiet c.args.world.now q) c.loop-r.r c.loop-r.invariant (c.is_quiet.ensures.0 c.if-not-is_quiet.false)
