use Rattle.std.proofs.Common.{◌≡◌, drop}
use Rattle.match_lists.specs.unexpected.Places.{header_at}
use Rattle.match_lists.proofs.unexpected.number_of.Given as goal

abbrev pub invariant-loop-x : goal.invariant-loop-x
invariant-loop-x l = header_at l.pt l.i l.unexpected ≡ header_at l.pt l.left (drop l.x-index l.unexpected)
