use Rattle.std.proofs.Common.{◌≡◌, ◌+◌, ◌≤◌, length, vec_capacity}
use Rattle.std.specs.Prelude.{All, ◌^◌}
use Rattle.turn_table.specs.Hands.{IsNew, parts_of}
use Rattle.turn_table.proofs.table.Turns.split_all.Given as goal

abbrev pub invariant-loop : goal.invariant-loop
invariant-loop g l = record {
  first : IsNew l.self l.first;
  parts : l.first.knows.parts + length l.list.items ≡ 2 ^ 32;
  one_each : parts_of l.list.items ≡ length l.list.items;
  long : length l.list.items + 1 ≡ l.counter;
  others : All (λ h. IsNew l.self h) l.list.items;
  roomy : l.count ≤ vec_capacity l.list;
}
