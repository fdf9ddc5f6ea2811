-- A length fits 64 bits.
use Rattle.std.proofs.Common.{◌≡◌, ◌≤◌, ◌*◌, take}
use Rattle.std.specs.List.{sum_by}
use Rattle.plan_judge.proofs.whole.bytes_of_links.Given as goal

abbrev pub invariant-loop-link : goal.invariant-loop-link
invariant-loop-link l = (l.bytes ≡ sum_by (λ k. k.length) (take l.link-index l.links)) × (l.bytes ≤ l.link-index * 18446744073709551616)
