use Rattle.std.proofs.Common.{sym, ◌∙◌, arith}
use Rattle.triggered_ops.proofs.Passing.{more-gone, all-gone}
use Rattle.triggered_ops.proofs.spots.waiting_from.Goals as goal

pub loop-place-preserved : goal.loop-place-preserved
loop-place-preserved g c = more-gone c.args.spots.now.spots c.args.from c.loop-place.place _ (omega arith) c.loop-place.invariant
    (sym c.waits.ensures ∙ c.if-waits.false)

pub returns-clause-none : goal.returns-clause-none
returns-clause-none g c = all-gone c.args.spots.now.spots c.args.from c.loop-place.place (omega arith) c.loop-place.invariant
