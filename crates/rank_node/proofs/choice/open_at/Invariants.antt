use Rattle.ni_model.specs.Ready.{ready_numbers, target_at}
use Rattle.rank_node.specs.Gates.{goes_out}
use Rattle.rank_node.proofs.Opened.{IsAhead}
use Rattle.rank_node.proofs.choice.open_at.Given as goal

abbrev pub invariant-loop-position : goal.invariant-loop-position
invariant-loop-position l = IsAhead (λ t. goes_out l.gates (target_at l.nic t)) (ready_numbers l.nic) l.i l.position l.rest
