use Rattle.worlds.specs.Later.{IsLater}
use Rattle.order_check.specs.Listing.{lists_of}
use Rattle.order_check.specs.Work.{IsWork, work_left}
use Rattle.order_check.proofs.taking.take_all.Given as goal

abbrev pub invariant-loop-r : goal.invariant-loop-r
invariant-loop-r l = record {
  later : IsLater l.fn.world l.world;
  work : IsWork l.world (lists_of l.orders) l.queue.items;
}

abbrev pub decreases-loop-r : goal.decreases-loop-r
decreases-loop-r l = work_left l.world (lists_of l.orders) l.queue.items
