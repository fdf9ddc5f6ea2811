use Rattle.std.proofs.Common.{◌≡◌, None, ◌≤◌, ◌+◌, ◌*◌, length}
use Rattle.ni_model.specs.Refusals.{entry_names_ct}
use Rattle.chain_list.specs.Chain.{first_or}
use Rattle.match_lists.specs.Lists.{values}
use Rattle.match_lists.proofs.Walking.{from_place}
use Rattle.match_lists.proofs.walk.some_names.Given as goal

abbrev pub invariant-loop-next : goal.invariant-loop-next
invariant-loop-next g l = record {
  live : l.next ≡ first_or (from_place l.next l.chain.entries) None;
  first : entry_names_ct l.ct (values l.chain.entries) ≡ entry_names_ct l.ct (values (from_place l.next l.chain.entries));
  steps : l.steps + 2 * length (from_place l.next l.chain.entries) ≤ l.fn.steps + 2 * length l.chain.entries;
}

abbrev pub decreases-loop-next : goal.decreases-loop-next
decreases-loop-next g l = length (from_place l.next l.chain.entries)
