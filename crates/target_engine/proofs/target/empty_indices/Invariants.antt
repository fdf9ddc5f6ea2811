use Rattle.std.proofs.Common.{◌≡◌, ◌≤◌, vec_capacity, vec_len}
use Rattle.std.specs.Prelude.{All}
use Rattle.target_engine.specs.PortalTable.{IsUnused}
use Rattle.target_engine.proofs.target.empty_indices.Given as goal

abbrev pub invariant-loop-i : goal.invariant-loop-i
invariant-loop-i l = record {
  unused : All (IsUnused l.limits.entries l.records) l.indices.items;
  so_many : vec_len l.indices ≡ l._i;
  room : l.limits.pts ≤ vec_capacity l.indices;
}
