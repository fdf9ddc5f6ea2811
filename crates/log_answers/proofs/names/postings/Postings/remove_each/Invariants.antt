use Rattle.std.proofs.Common.{◌≡◌, drop}
use Rattle.log_answers.specs.names.Postings.{each_removed}
use Rattle.log_answers.proofs.names.postings.Postings.remove_each.Given as goal

-- without those that are left it is what is meant
abbrev pub invariant-loop-number : goal.invariant-loop-number
invariant-loop-number l = each_removed (drop l.number-index l.numbers) l.self ≡ each_removed l.numbers l.fn.self
