use Rattle.std.proofs.Common.{◌≡◌, ◌≤◌, map, length, vec_capacity, Some}
use Rattle.turn_table.proofs.life.into_slots.Given as goal

abbrev pub invariant-loop-value : goal.invariant-loop-value
invariant-loop-value g l = (l.slots.items ≡ map Some l.yielded) × (length l.fn.values.items ≤ vec_capacity l.slots)
