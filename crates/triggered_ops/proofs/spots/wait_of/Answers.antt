use Rattle.std.proofs.Common.{sym, ap}
use Rattle.triggered_ops.specs.Layout.{wait_with}
use Rattle.triggered_ops.proofs.spots.wait_of.Goals as goal

pub returns-in-None : goal.returns-in-None
returns-in-None g c = sym (ap (wait_with c.args.spot.now) c.in-None.is)
