use Rattle.std.proofs.Common.{◌≡◌, ◌+◌, ◌-◌, ◌<◌, ℕ, get_or}
use Rattle.std.specs.Vec.{vec_capacity, vec_len}
use Rattle.chain_list.proofs.nodes.free_range.Given as goal

abbrev pub invariant-loop-i : goal.invariant-loop-i
invariant-loop-i l = record {
  len : vec_len l.free ≡ vec_len l.fn.free + l.i;
  kept : (k : ℕ) → k < vec_len l.fn.free → get_or l.free.items k 0 ≡ get_or l.fn.free.items k 0;
  added : (k : ℕ) → k < l.i → get_or l.free.items (vec_len l.fn.free + k) 0 ≡ l.to - 1 - k;
  capacity : vec_capacity l.free ≡ vec_capacity l.fn.free;
}
