use Rattle.std.proofs.Common.{◌≡◌, map}
use Rattle.number_lists.specs.Numbers.{from_to}
use Rattle.coll_shape.specs.Meaning.{place_from}
use Rattle.coll_meaning.proofs.PlaceAt.{Stands}
use Rattle.coll_meaning.proofs.places.places_of.Given as goal

abbrev pub invariant-loop-r : goal.invariant-loop-r
invariant-loop-r l = record {
  stands : Stands l.group l.next l.r;
  places : l.places.items ≡ map (place_from 0 l.group) (from_to 0 l.r);
}
