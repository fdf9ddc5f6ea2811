-- One step of the text more in each turn.
use Rattle.std.proofs.Common.{◌+◌, ◌≤◌, ◌≡◌, ◌∙◌, ap, ap₂, arith, length, map, subst, sym}
use Rattle.std.proofs.lemmas.List.{get_or_default}
use Rattle.coll_lang.specs.declared.choices.ChoiceKind.TheVariants.{Elect}
use Rattle.plan_choice.specs.texts.machine.Choices.{choice_at}
use Rattle.plan_choice.specs.texts.view.Calls.Call.{Trigger}
use Rattle.plan_choice.specs.texts.view.Install.{before, counters_in, things_in, works_of}
use Rattle.plan_choice.proofs.texts.view.Stamps.{before-le}
use Rattle.plan_choice.specs.ranks.Given.{AreMade}
use Rattle.plan_choice.proofs.ranks.Made.{made-none}
use Rattle.plan_choice.proofs.ranks.Whole.{before-more, counters_small, descriptors_small, posted_more, wide_on, works_until}
use Rattle.plan_choice.proofs.ranks.installing.post_all.Goals as goal

pub loop-step-init : goal.loop-step-init
loop-step-init c = record {
  made = made-none c.args.kinds.now c.args.nic.now c.args.kept.now c.requires.all;
  counter = omega arith;
  descriptor = omega arith;
}

pub post_step-requires-clause-wide : goal.post_step-requires-clause-wide
post_step-requires-clause-wide c =
    wide_on c.args.nic.now c.loop-step.nic c.requires.wide c.loop-step.invariant.made.ranks c.loop-step.invariant.made.limits

pub post_step-requires-clause-all : goal.post_step-requires-clause-all
post_step-requires-clause-all c = c.loop-step.invariant.made.all

pub post_step-requires-clause-counters : goal.post_step-requires-clause-counters
post_step-requires-clause-counters c =
    subst (λ k. c.loop-step.counter + counters_in k ≤ length c.args.kept.now.counters)
    (sym (get_or_default c.args.kinds.now c.loop-step.step _ Elect c.loop-step-test.true))
    (let i = c.loop-step.invariant.counter in
    let l = before-le counters_in c.args.kinds.now c.loop-step.step (length c.args.kinds.now) c.loop-step-test.true in
    let r = c.requires.counters in
    omega (arith, i, l, r))

pub post_step-requires-clause-first : goal.post_step-requires-clause-first
post_step-requires-clause-first c = let r = c.requires.counters in omega (arith, r)

pub post_step-requires-clause-descriptors : goal.post_step-requires-clause-descriptors
post_step-requires-clause-descriptors c =
    subst (λ k. c.loop-step.descriptor + things_in k ≤ length c.args.kept.now.descriptors)
    (sym (get_or_default c.args.kinds.now c.loop-step.step _ Elect c.loop-step-test.true))
    (let i = c.loop-step.invariant.descriptor in
    let l = before-le things_in c.args.kinds.now c.loop-step.step (length c.args.kinds.now) c.loop-step-test.true in
    let r = c.requires.descriptors in
    omega (arith, i, l, r))

pub post_step-requires-clause-small : goal.post_step-requires-clause-small
post_step-requires-clause-small c =
    let i = c.loop-step.invariant.counter in
    let j = c.loop-step.invariant.descriptor in
    let t = c.loop-step-test.true in
    let f = c.requires.at_most in
    let s = counters_small c.args.kinds.now c.loop-step.step (omega (arith, t, f)) in
    let u = descriptors_small c.args.kinds.now c.loop-step.step (omega (arith, t, f)) in
    (omega (arith, i, s), omega (arith, j, u))

pub overflow_add-counter : goal.overflow_add-counter
overflow_add-counter c =
    let i = c.loop-step.invariant.counter in
    let t = c.loop-step-test.true in
    let f = c.requires.at_most in
    let s = counters_small c.args.kinds.now c.loop-step.step (omega (arith, t, f)) in
    let m = c.counters_of-counter.ensures.at_most in
    omega (arith, i, s, m)

pub overflow_add-descriptor : goal.overflow_add-descriptor
overflow_add-descriptor c =
    let i = c.loop-step.invariant.descriptor in
    let t = c.loop-step-test.true in
    let f = c.requires.at_most in
    let s = descriptors_small c.args.kinds.now c.loop-step.step (omega (arith, t, f)) in
    let m = c.things_of-descriptor.ensures.at_most in
    omega (arith, i, s, m)

pub loop-step-preserved : goal.loop-step-preserved
loop-step-preserved c =
    let ks = c.args.kinds.now in
    let t = c.loop-step.step in
    let is = get_or_default ks t _ Elect c.loop-step-test.true in
    record {
      made =
          posted_more ks t c.args.nic.now c.loop-step.nic c.post_step.new.nic c.args.kept.now c.loop-step.invariant.made
          (subst (λ k. AreMade ks (map Trigger (works_of k t)) c.loop-step.nic c.post_step.new.nic c.args.kept.now c.args.kept.now) is
          (c.in_ok-post_step.ensures ks (sym is) c.loop-step.invariant.counter c.loop-step.invariant.descriptor));
      counter =
          ap₂ (λ x y. x + y) c.loop-step.invariant.counter (c.counters_of-counter.ensures.value ∙ ap counters_in is)
          ∙ (let e = before-more counters_in ks t in let q : 2 + before counters_in ks t + counters_in (choice_at ks t)
          ≡ 2 + before counters_in ks (t + 1) = omega (arith, e) in q);
      descriptor =
          ap₂ (λ x y. x + y) c.loop-step.invariant.descriptor (c.things_of-descriptor.ensures.value ∙ ap things_in is)
          ∙ sym (before-more things_in ks t);
    }

pub returns : goal.returns
returns c =
    let f = c.loop-step-test.false in
    let e = c.loop-step.auto.step-end in
    subst (λ n. AreMade c.args.kinds.now (map Trigger (works_until c.args.kinds.now n)) c.args.nic.now c.loop-step.nic c.args.kept.now
    c.args.kept.now) (let q : c.loop-step.step ≡ length c.args.kinds.now = omega (arith, e, f) in q) c.loop-step.invariant.made
