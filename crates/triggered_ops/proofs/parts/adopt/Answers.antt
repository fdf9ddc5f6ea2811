use Rattle.std.proofs.Common.{rules, arith}
use Rattle.triggered_ops.specs.Layout.{wait_at}
use Rattle.triggered_ops.proofs.Entering.{adopted}
use Rattle.triggered_ops.proofs.parts.adopt.Goals as goal

pub returns-then-is_none-3 : goal.returns-then-is_none-3
returns-then-is_none-3 g c = record {
  hung = adopted (wait_at c.args.spots.now.spots) c.args.threads.now c.args.stamps.now c.requires.hung c.args.ct.slot c.args.ct.stamp
      (omega arith) (search rules) (search rules) (search rules);
}
