use Rattle.pair_wires.specs.Wires.{IsInOf}
use Rattle.fabric_cases.proofs.wires.wires.receive_all.Given as goal

abbrev pub invariant-loop : goal.invariant-loop
invariant-loop g l = (goal.iterator-loop g).can_next l.iterator' × (goal.iterator-loop g).is_finite l.iterator' × IsInOf l.wire l.into
