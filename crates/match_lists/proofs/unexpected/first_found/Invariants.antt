use Rattle.std.proofs.Common.{◌≡◌, drop}
use Rattle.ni_model.specs.Headers.{oldest}
use Rattle.match_lists.proofs.unexpected.first_found.Given as goal

abbrev pub invariant-loop-x : goal.invariant-loop-x
invariant-loop-x l = oldest l.pt l.entry l.unexpected ≡ oldest l.pt l.entry (drop l.x-index l.unexpected)
