use Rattle.std.proofs.Common.{◌≡◌, ◌<◌, length}
use Rattle.std.specs.Prelude.{AllPairs}
use Rattle.triggered_ops.specs.Operations.{Operation, cancelled}
use Rattle.portals_ni.specs.declared.posted_op.PostedOp.{PostedOp}
use Rattle.portals_ni.specs.Uses.{AreUsed}
use Rattle.portals_ni.proofs.triggers.drop_on.Given as goal

abbrev pub invariant-loop-number : goal.invariant-loop-number
invariant-loop-number l = record {
  used : AreUsed l.pending l.cts l.mds;
  rising : AllPairs (λ (p q : Operation PostedOp). p.number < q.number) l.pending.waiting;
  rest : cancelled l.ct l.pending ≡ cancelled l.ct l.fn.pending;
}

abbrev pub decreases-loop-number : goal.decreases-loop-number
decreases-loop-number l = length l.pending.waiting
