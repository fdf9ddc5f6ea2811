use Rattle.std.proofs.Common.{◌≡◌, ◌+◌, length}
use Rattle.std.specs.Vec.Iter.{into_iter_items, into_iter_len}
use Rattle.rank_wiring.specs.Opening.{AllFanned, AreBuilt}
use Rattle.rank_wiring.proofs.open.in_order.Given as goal

abbrev pub invariant-loop-place : goal.invariant-loop-place
invariant-loop-place l = record {
  len : into_iter_len l.place-iterator ≡ length (into_iter_items l.place-iterator);
  slots : length l.slots.items + length (into_iter_items l.place-iterator) ≡ length l.fn.places.items;
  loads : length l.loads.items ≡ length l.slots.items;
  fanned : AllFanned l.job l.slots.items l.loads.items;
  places : AreBuilt l.job (length l.slots.items) (into_iter_items l.place-iterator);
}
