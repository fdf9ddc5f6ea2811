use Rattle.std.proofs.Common.{◌≡◌, map}
use Rattle.number_lists.specs.Numbers.{from_to}
use Rattle.rank_process.specs.lines.Places.{place_held}
use Rattle.rank_process.proofs.lines.places.places_of.Given as goal

abbrev pub invariant-loop-buffer : goal.invariant-loop-buffer
invariant-loop-buffer l = l.places.items ≡ map (place_held l.schedule l.me) (from_to 0 l.buffer)
