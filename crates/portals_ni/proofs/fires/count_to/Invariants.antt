use Rattle.std.proofs.Common.{◌≡◌, ◌≤◌, ◌+◌, drop, filter, length}
use Rattle.ni_model.specs.Ready.{is_rank, posted_at, target_of}
use Rattle.triggered_ops.specs.Operations.{due_numbers, posted_all}
use Rattle.portals_ni.specs.Pendings.{action_in, due_numbers_to}
use Rattle.portals_ni.proofs.fires.count_to.Given as goal

abbrev pub invariant-loop-i : goal.invariant-loop-i
invariant-loop-i l = record {
  at_most : l.count ≤ l.i;
  same : l.count + length (filter (λ t. is_rank l.target (target_of (posted_at t (posted_all action_in l.pending))))
      (drop l.i (due_numbers l.pending))) ≡ length (due_numbers_to l.target l.pending);
}
