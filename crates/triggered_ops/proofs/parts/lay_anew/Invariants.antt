-- The operations up to a place are laid.
use Rattle.std.proofs.Common.{◌≡◌, length}
use Rattle.triggered_ops.specs.Hung.{IsPacking, IsThinner}
use Rattle.triggered_ops.specs.Layout.{numbers_of, operations_in, packed}
use Rattle.triggered_ops.proofs.parts.lay_anew.Given as goal

abbrev pub invariant-loop-place : goal.invariant-loop-place
invariant-loop-place g l = record {
  packs : IsPacking l.spots l.threads l.stamps l.kept l.place;
  value : operations_in (packed l.kept l.place l.spots.spots) ≡ operations_in l.fn.spots.spots;
  numbers : IsThinner (numbers_of l.fn.spots.spots) (numbers_of (packed l.kept l.place l.spots.spots));
  long : length l.spots.spots ≡ l.place-end;
  room : l.spots.room ≡ l.fn.spots.room;
  places : l.threads.places ≡ l.fn.threads.places;
}
