use Rattle.std.proofs.Common.{◌≡◌, length}
use Rattle.ni_model.specs.Ready.{ready_numbers, target_at}
use Rattle.rank_node.proofs.Opened.{below_of}
use Rattle.rank_node.proofs.choice.open_count.Given as goal

abbrev pub invariant-loop-d : goal.invariant-loop-d
invariant-loop-d l = l.count ≡ length (below_of l.gates l.d (target_at l.nic) (ready_numbers l.nic))
