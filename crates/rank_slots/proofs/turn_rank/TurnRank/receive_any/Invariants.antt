use Rattle.std.proofs.Common.{◌≡◌, ◌<◌, ◌≤◌, ℕ, length}
use mathlib.Core.Option.{some}
use lib.ListN.{get_elem?}
use Rattle.rank_slots.specs.declared.ports.InPort.{InPort}
use Rattle.rank_slots.specs.Names.{plate}
use Rattle.rank_slots.specs.Missing.{Missed}
use Rattle.rank_slots.proofs.turn_rank.TurnRank.receive_any.Given as goal

-- those before were passed over, the others are as they were
abbrev pub invariant-loop-at : goal.invariant-loop-at
invariant-loop-at g l = record {
  job : l.self.job ≡ l.initial.self.job;
  node : l.self.node.value ≡ l.initial.self.node.value;
  outs : l.self.outs.items ≡ l.initial.self.outs.items;
  name : plate l.self ≡ plate l.initial.self;
  many : length l.self.ins.items ≡ length l.initial.self.ins.items;
  passed : (i : ℕ) (p q : InPort) → i < l.at → get_elem? l.initial.self.ins.items i ≡ some p → get_elem? l.self.ins.items i ≡ some q →
      Missed l.initial.self.node.value l.initial.self.outs.items p q;
  later : (i : ℕ) → l.at ≤ i → get_elem? l.self.ins.items i ≡ get_elem? l.initial.self.ins.items i;
}
