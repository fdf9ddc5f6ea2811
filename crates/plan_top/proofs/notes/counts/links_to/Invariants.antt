use Rattle.std.proofs.Common.{◌≡◌, ◌==◌, ◌≤◌, filter, length}
use Rattle.plan_core.specs.Plan.{from_to, link}
use Rattle.plan_top.proofs.notes.counts.links_to.Given as goal

abbrev pub invariant-loop-l : goal.invariant-loop-l
invariant-loop-l l = (l.count ≡ length (filter (λ k. (link l.plan k).target == l.c) (from_to 0 l.l))) × (l.count ≤ l.l)
