use Rattle.std.proofs.Common.{◌≡◌, None, ◌≤◌, ◌+◌, find, length}
use Rattle.chain_list.specs.Chain.{first_or}
use Rattle.match_lists.specs.Buckets.{on_thread}
use Rattle.match_lists.specs.Indexed.{takes}
use Rattle.match_lists.specs.Trails.{place_in}
use Rattle.match_lists.proofs.Walking.{from_place}
use Rattle.match_lists.proofs.match_list.first_on.Given as goal

abbrev pub invariant-loop-next : goal.invariant-loop-next
invariant-loop-next g l = record {
  live : place_in l.next ≡ first_or (from_place (place_in l.next) (on_thread l.limit l.thread l.chain.entries)) None;
  first : find (takes l.header) (on_thread l.limit l.thread l.chain.entries)
      ≡ find (takes l.header) (from_place (place_in l.next) (on_thread l.limit l.thread l.chain.entries));
  steps : l.steps + length (from_place (place_in l.next) (on_thread l.limit l.thread l.chain.entries))
      ≤ l.fn.steps + length (on_thread l.limit l.thread l.chain.entries);
}

abbrev pub decreases-loop-next : goal.decreases-loop-next
decreases-loop-next g l = length (from_place (place_in l.next) (on_thread l.limit l.thread l.chain.entries))
