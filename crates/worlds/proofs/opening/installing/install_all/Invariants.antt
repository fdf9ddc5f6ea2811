use Rattle.std.proofs.Common.{ℕ, ◌<◌, ◌≡◌, length}
use Rattle.worlds.specs.parts.Layout.{node_at}
use Rattle.worlds.specs.opening.Fresh.{IsFresh}
use Rattle.worlds.proofs.opening.installing.install_all.Given as goal

abbrev pub invariant-loop-r : goal.invariant-loop-r
invariant-loop-r l = record {
  size : length l.nodes.items ≡ l.r;
  fresh : (k : ℕ) → k < l.r → IsFresh l.job.schedule.plan l.job.inputs l.job.schedule.plan.ranks l.strays k (node_at l.nodes.items k);
}
