use Rattle.std.proofs.Common.{◌≡◌, ◌≤◌, length}
use Rattle.pair_wires.specs.Wires.{IsInOf}
use Rattle.fabric_cases.proofs.wires.wires.receive_what_was_announced.Given as goal

abbrev pub invariant-loop-number : goal.invariant-loop-number
invariant-loop-number g l = IsInOf l.wire l.into × (length l.into.received ≡ l.number) × (l.count ≤ l.into.told) × (l.in_order ≡ l.number)
