use Rattle.std.proofs.Common.{◌≡◌, drop}
use Rattle.ni_model.specs.Headers.{names_entry}
use Rattle.match_lists.proofs.unexpected.some_lies_in.Given as goal

abbrev pub invariant-loop-x : goal.invariant-loop-x
invariant-loop-x l = names_entry l.entry l.unexpected ≡ names_entry l.entry (drop l.x-index l.unexpected)
