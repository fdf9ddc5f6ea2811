use Rattle.std.proofs.Common.{◌≡◌, ◌-◌, ◌++◌, replicate}
use Rattle.std.specs.Vec.{vec_capacity, vec_len}
use Rattle.chain_list.proofs.places.fill_with.Given as goal

abbrev pub invariant-loop-place : goal.invariant-loop-place
invariant-loop-place g l = record {
  items : l.entries.items ≡ l.fn.entries.items ++ replicate (l._place - vec_len l.fn.entries) l.fn.blank;
  len : vec_len l.entries ≡ l._place;
  capacity : vec_capacity l.entries ≡ vec_capacity l.fn.entries;
}
