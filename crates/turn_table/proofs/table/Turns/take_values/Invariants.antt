use Rattle.std.proofs.Common.{◌≡◌, ℕ, ◌-◌, ◌<◌, ◌≤◌, false, get_or, length, vec_capacity}
use mathlib.Core.Option.{some}
use lib.ListN.{get_elem?}
use Rattle.std.specs.Mem.Slots.{slots_filled, slots_items, slots_len}
use Rattle.std.specs.Mem.Slots.Ownership.{Filled}
use Rattle.turn_table.specs.Rules.{Ends}
use Rattle.turn_table.proofs.table.Turns.take_values.Given as goal

-- the values of the first i slots were moved
abbrev pub invariant-loop-i : goal.invariant-loop-i
invariant-loop-i g l = record {
  filled : Filled (slots_filled l.closed.slots) l.i (slots_len l.closed.slots);
  gone : (k : ℕ) → k < l.i → get_or (slots_filled l.closed.slots) k false ≡ false;
  items : slots_items l.closed.slots ≡ slots_items l.initial.closed.slots;
  len : slots_len l.closed.slots ≡ l.count;
  within : l.i ≤ l.count;
  moved : length l.room.items ≡ l.i;
  roomy : l.count ≤ vec_capacity l.room;
  ended : (k : ℕ) (x : g.row.T.Denot) → get_elem? l.room.items k ≡ some x → Ends g.T.Past.past g.T.Past.name l.fn.self.start
      l.fn.seat.me.0 k x;
}

abbrev pub decreases-loop-i : goal.decreases-loop-i
decreases-loop-i g l = l.count - l.i
