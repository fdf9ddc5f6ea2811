use Rattle.std.proofs.Common.{◌≡◌, ◌==◌, ◌-◌, ◌^◌, filter, min}
use Rattle.std.specs.Prelude.{sum_by, if◌then◌else◌}
use Rattle.plan_core.specs.Plan.{from_to, is_bump, link}
use Rattle.plan_top.proofs.notes.counts.bytes_to.Given as goal

abbrev pub invariant-loop-l : goal.invariant-loop-l
invariant-loop-l l =
    l.bytes ≡ min (sum_by (λ k. if is_bump (link l.plan k).kind then 0 else (link l.plan k).length)
    (filter (λ k. (link l.plan k).target == l.c) (from_to 0 l.l))) (2 ^ 64 - 1)
