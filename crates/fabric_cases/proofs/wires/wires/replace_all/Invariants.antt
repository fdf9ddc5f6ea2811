use Rattle.std.proofs.Common.{false, ◌≡◌, ◌+◌, ◌≤◌, length}
use Rattle.pair_wires.specs.Bounds.{KeepsBounds}
use Rattle.pair_wires.specs.Wires.{IsOutOf, IsInOf}
use Rattle.fabric_cases.proofs.wires.wires.replace_all.Given as goal

abbrev pub invariant-loop-number : goal.invariant-loop-number
invariant-loop-number g l = IsOutOf l.wire l.out × IsInOf l.wire l.into × (l.out.waits ≡ false) × KeepsBounds l.wire.bounds l.out.sent ×
    (length l.out.sent ≤ l.number + 3)
