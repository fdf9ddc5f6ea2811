use Rattle.std.proofs.Common.{◌*◌, ◌≡◌, ◌≤◌, sum_by}
use Rattle.number_lists.specs.Numbers.{from_to}
use Rattle.plan_words.specs.Takes.{to_other}
use Rattle.plan_words.proofs.takes.sent.Given as goal

abbrev pub invariant-loop-d : goal.invariant-loop-d
invariant-loop-d l = record {
  sum : l.sent ≡ sum_by ((to_other l.schedule.plan l.r)) (from_to 0 l.d);
  at_most : l.sent ≤ l.d * 134217728;
}
