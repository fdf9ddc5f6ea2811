-- One rank more in each turn.
use Rattle.std.proofs.Common.{◌+◌, ◌≡◌, ap, ap₂, ◌∙◌, sym, sum_by, arith}
use Rattle.number_lists.specs.Numbers.{from_to}
use Rattle.plan_words.specs.Takes.{to_other}
use Rattle.plan_words.proofs.Sums.{sum-more}
use Rattle.plan_words.proofs.takes.sent.Goals as goal

pub overflow_add-sent : goal.overflow_add-sent
overflow_add-sent c =
    let few = c.loop-d.invariant.at_most in
    let next = c.to_other-sent.ensures.at_most in
    let ranks = c.ranks-d-end.ensures.at_most in
    let test = c.loop-d-test.true in
    omega (arith, few, next, ranks, test)

pub loop-d-preserved : goal.loop-d-preserved
loop-d-preserved c = record {
  sum = ap₂ (λ a b. a + b) c.loop-d.invariant.sum c.to_other-sent.ensures.value
      ∙ sym (sum-more ((to_other c.args.schedule.now.plan c.args.r)) c.loop-d.d);
  at_most = let few = c.loop-d.invariant.at_most in let next = c.to_other-sent.ensures.at_most in omega (arith, few, next);
}

pub returns : goal.returns
returns c =
    let test = c.loop-d-test.false in
    let end = c.loop-d.auto.d-end in
    let ranks = c.ranks-d-end.ensures.value in
    let all : c.loop-d.d ≡ c.args.schedule.now.plan.ranks = omega (arith, test, end, ranks) in
    c.loop-d.invariant.sum ∙ ap (λ n. sum_by ((to_other c.args.schedule.now.plan c.args.r)) (from_to 0 n)) all
