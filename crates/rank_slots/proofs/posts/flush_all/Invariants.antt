use Rattle.std.proofs.Common.{◌≡◌, ◌<◌, ◌≤◌, ℕ, true, false, length}
use mathlib.Core.Option.{some}
use lib.ListN.{get_elem?}
use Rattle.rank_slots.specs.declared.ports.OutPort.{OutPort}
use Rattle.rank_slots.specs.Ports.{AreEnds, Flushed, Regated}
use Rattle.rank_slots.proofs.posts.flush_all.Given as goal

-- those before were tried, the others are as they were
abbrev pub invariant-loop-at : goal.invariant-loop-at
invariant-loop-at g l = record {
  many : length l.outs.items ≡ length l.initial.outs.items;
  node : Regated l.initial.node l.node;
  ends : AreEnds l.network.wires.now l.node.closed l.outs.items;
  tried : (i : ℕ) (p q : OutPort) → i < l.at → get_elem? l.initial.outs.items i ≡ some p → get_elem? l.outs.items i ≡ some q → Flushed p q;
  later : (i : ℕ) → l.at ≤ i → get_elem? l.outs.items i ≡ get_elem? l.initial.outs.items i;
  free : l.free ≡ true → (i : ℕ) (q : OutPort) → i < l.at → get_elem? l.outs.items i ≡ some q → q.end.waits ≡ false;
}
