use Rattle.std.proofs.Common.{ℕ, ◌<◌}
use Rattle.cuts.specs.orders.Verdict.{IsWhole}
use Rattle.worlds.specs.World.{histories_in}
use Rattle.order_check.specs.Listing.{lists_of}
use Rattle.order_check.proofs.judging.unfinished.Given as goal

abbrev pub invariant-loop-r : goal.invariant-loop-r
invariant-loop-r l = (q : ℕ) → q < l.r → IsWhole (lists_of l.orders) (histories_in l.world) q
