use Rattle.std.proofs.Common.{sym, ◌∙◌}
use Rattle.triggered_ops.proofs.Found.{found-here}
use Rattle.triggered_ops.proofs.Passing.{op-gone}
use Rattle.triggered_ops.proofs.spots.Spots.waiting_at.Goals as goal

pub returns-else-waits-clause-none : goal.returns-else-waits-clause-none
returns-else-waits-clause-none g c = found-here c.args.self.now.spots c.args.number c.in-Some.place c.requires c.in-Some.ensures.found
    ∙ op-gone c.args.self.now.spots c.in-Some.place (sym c.waits.ensures ∙ c.if-waits.false)
