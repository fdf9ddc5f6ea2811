use Rattle.std.proofs.Common.{ℕ, Bool, ◌≡◌, ◌==◌, ◌≤◌, filter}
use Rattle.std.specs.Prelude.{count_by}
use Rattle.plan_core.specs.Plan.{cell, from_to, link}
use Rattle.plan_core.specs.calls.RankOps.{is_message}
use Rattle.plan_top.proofs.notes.counts.sends_of.Given as goal

abbrev pub invariant-loop-l : goal.invariant-loop-l
invariant-loop-l l =
    let mine : ℕ → Bool = λ k. (cell l.plan (link l.plan k).source).rank == l.r in
    (l.count ≡ count_by (is_message l.plan) (filter mine (from_to 0 l.l))) × (l.count ≤ l.l)
