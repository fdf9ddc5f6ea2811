use Rattle.std.proofs.Common.{◌≡◌, ◌++◌, length}
use Rattle.std.specs.Vec.Iter.{into_iter_items, into_iter_len}
use Rattle.rank_wiring.specs.Opening.{AreFirst, AreLines, IsHanded, SameOuts, wires_in}
use Rattle.rank_slots.specs.Moves.{Slotwise}
use Rattle.rank_wiring.proofs.open.hand_load.Given as goal

abbrev pub invariant-loop-line : goal.invariant-loop-line
invariant-loop-line l = record {
  len : into_iter_len l.line-iterator ≡ length (into_iter_items l.line-iterator);
  rest : l.yielded ++ into_iter_items l.line-iterator ≡ into_iter_items l.initial.line-iterator;
  wires : l.wires.items ≡ l.initial.wires.items ++ wires_in l.yielded;
  lines : AreLines (length l.wires.items) (into_iter_items l.line-iterator);
  lanes : AreFirst l.job (l.wires.items ++ wires_in (into_iter_items l.line-iterator));
  handed : IsHanded l.job l.wires.items l.slots;
  count : length l.slots ≡ length l.initial.slots;
  outs : Slotwise SameOuts l.initial.slots l.slots;
}
