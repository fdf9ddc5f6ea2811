use Rattle.std.proofs.Common.{◌≡◌, map}
use Rattle.number_lists.specs.Numbers.{from_to}
use Rattle.plan_words.specs.Takes.{takes_of}
use Rattle.plan_words.proofs.takes.takes_of_ranks.Given as goal

abbrev pub invariant-loop-r : goal.invariant-loop-r
invariant-loop-r l = l.takes.items ≡ map (takes_of l.schedule.plan) (from_to 0 l.r)
