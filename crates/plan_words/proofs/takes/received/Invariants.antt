use Rattle.std.proofs.Common.{◌*◌, ◌≡◌, ◌≤◌, sum_by}
use Rattle.number_lists.specs.Numbers.{from_to}
use Rattle.plan_words.specs.Takes.{to_other}
use Rattle.plan_words.proofs.takes.received.Given as goal

abbrev pub invariant-loop-s : goal.invariant-loop-s
invariant-loop-s l = record {
  sum : l.received ≡ sum_by ((λ s. to_other l.schedule.plan s l.r)) (from_to 0 l.s);
  at_most : l.received ≤ l.s * 134217728;
}
