-- One rank more in each turn.
use Rattle.std.proofs.Common.{◌+◌, ◌≡◌, ap, ap₂, ◌∙◌, sym, sum_by, arith}
use Rattle.number_lists.specs.Numbers.{from_to}
use Rattle.plan_words.specs.Takes.{to_other}
use Rattle.plan_words.proofs.Sums.{sum-more}
use Rattle.plan_words.proofs.takes.received.Goals as goal

pub overflow_add-received : goal.overflow_add-received
overflow_add-received c =
    let few = c.loop-s.invariant.at_most in
    let next = c.to_other-received.ensures.at_most in
    let ranks = c.ranks-s-end.ensures.at_most in
    let test = c.loop-s-test.true in
    omega (arith, few, next, ranks, test)

pub loop-s-preserved : goal.loop-s-preserved
loop-s-preserved c = record {
  sum = ap₂ (λ a b. a + b) c.loop-s.invariant.sum c.to_other-received.ensures.value
      ∙ sym (sum-more ((λ s. to_other c.args.schedule.now.plan s c.args.r)) c.loop-s.s);
  at_most = let few = c.loop-s.invariant.at_most in let next = c.to_other-received.ensures.at_most in omega (arith, few, next);
}

pub returns : goal.returns
returns c =
    let test = c.loop-s-test.false in
    let end = c.loop-s.auto.s-end in
    let ranks = c.ranks-s-end.ensures.value in
    let all : c.loop-s.s ≡ c.args.schedule.now.plan.ranks = omega (arith, test, end, ranks) in
    c.loop-s.invariant.sum ∙ ap (λ n. sum_by ((λ s. to_other c.args.schedule.now.plan s c.args.r)) (from_to 0 n)) all
