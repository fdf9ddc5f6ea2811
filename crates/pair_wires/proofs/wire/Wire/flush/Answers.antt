use Rattle.std.proofs.Common.{Option, subst, sym}
use Rattle.ptl_types.specs.Messages.{Sent}
use Rattle.pair_wires.specs.Bounds.{KeepsBounds}
use Rattle.pair_wires.specs.Ends.{followed_by}
use Rattle.pair_wires.proofs.BoundsKept.{pushed-keeps}
use Rattle.pair_wires.proofs.wire.Wire.flush.Goals as goal

pub invariant_of-end-2 : goal.invariant_of-end-2
invariant_of-end-2 g c = record {
  idle = c.end.invariant.idle;
  pushes = c.end.invariant.pushes;
  counted = c.end.invariant.counted;
  bounded = subst (λ (w : Option Sent). KeepsBounds c.end.inside.pass.me.0.client.bounds
      (followed_by c.end.inside.pass.me.0.client.sent w)) (sym c.take.ensures.after)
      (pushed-keeps _ _ c.end.inside.waiting c.end.invariant.bounded);
}
