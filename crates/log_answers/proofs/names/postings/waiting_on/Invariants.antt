use Rattle.std.proofs.Common.{◌≡◌, ◌++◌}
use Rattle.log_answers.specs.names.Postings.{waiting_on}
use Rattle.log_answers.proofs.names.postings.waiting_on.Given as goal

-- those that were found with those that are left are all
abbrev pub invariant-loop-number : goal.invariant-loop-number
invariant-loop-number l = l.found.items ++ waiting_on l.ct l.number-iterator ≡ waiting_on l.ct l.waiting
