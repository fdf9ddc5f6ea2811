-- One step of the text more in each turn.
use Rattle.std.proofs.Common.{◌+◌, ◌∙◌, ap, ap₂, arith, sym}
use Rattle.std.proofs.lemmas.List.{get_or_default}
use Rattle.coll_lang.specs.declared.choices.ChoiceKind.TheVariants.{Elect}
use Rattle.plan_choice.specs.texts.machine.Choices.{choice_at}
use Rattle.plan_choice.specs.texts.machine.Counted.{told_steps}
use Rattle.plan_choice.proofs.ranks.Numbers.{sum-more}
use Rattle.plan_choice.proofs.ranks.installing.told_in.Goals as goal

pub loop-i-preserved : goal.loop-i-preserved
loop-i-preserved c =
    let ks = c.args.kinds.now in
    let at_most = c.loop-i.invariant.at_most in
    let more = c.told-sum.ensures.at_most in
    record {
      sum =
          ap₂ (λ x y. x + y) c.loop-i.invariant.sum
          (c.told-sum.ensures.value ∙ ap told_steps (get_or_default ks c.loop-i.i _ Elect c.loop-i-test.true))
          ∙ sym (sum-more (λ s. told_steps (choice_at ks s)) c.loop-i.i);
      at_most = omega (arith, at_most, more);
    }
