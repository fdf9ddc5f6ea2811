use Rattle.std.proofs.Common.{◌≡◌}
use Rattle.worlds.proofs.tasks.Lanes.{bytes_below}
use Rattle.worlds.proofs.tasks.receipts.bytes_to.Given as goal

abbrev pub invariant-loop-source : goal.invariant-loop-source
invariant-loop-source l = l.bytes ≡ bytes_below l.schedule.plan l.r l.source
