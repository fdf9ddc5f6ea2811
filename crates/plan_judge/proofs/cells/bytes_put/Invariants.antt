-- A length fits 64 bits.
use Rattle.std.proofs.Common.{◌≡◌, ◌≤◌, ◌*◌, take}
use Rattle.std.specs.List.{sum_by}
use Rattle.std.specs.Prelude.{if◌then◌else◌}
use Rattle.plan_core.specs.Plan.{is_bump, link}
use Rattle.plan_judge.proofs.cells.bytes_put.Given as goal

abbrev pub invariant-loop-l : goal.invariant-loop-l
invariant-loop-l l =
    (l.bytes ≡ sum_by (λ k. if is_bump (link l.plan k).kind then 0 else (link l.plan k).length) (take l.l-index l.links))
    × (l.bytes ≤ l.l-index * 18446744073709551616)
