-- One step of the text more in each turn.
use Rattle.std.proofs.Common.{◌+◌, ◌≤◌, ◌≡◌, ◌∙◌, ap, ap₂, arith, flat_map, length, subst, sym}
use Rattle.std.proofs.lemmas.List.{get_or_default}
use Rattle.coll_lang.specs.declared.choices.ChoiceKind.TheVariants.{Elect}
use Rattle.plan_core.specs.Plan.{from_to}
use Rattle.plan_choice.specs.texts.machine.Choices.{choice_at}
use Rattle.plan_choice.specs.texts.view.Calls.{step_calls}
use Rattle.plan_choice.specs.texts.view.Install.{before, counters_in, things_in}
use Rattle.plan_choice.specs.ranks.Given.{AreMade}
use Rattle.plan_choice.proofs.ranks.Made.{made-none}
use Rattle.plan_choice.proofs.ranks.Whole.{before-more, counters_now, counters_small, made_more, room_counters, room_descriptors}
use Rattle.plan_choice.proofs.ranks.installing.make_steps.Goals as goal

pub loop-step-init : goal.loop-step-init
loop-step-init c = record { made = made-none c.args.kinds.now c.args.nic.now c.args.kept.now c.requires.all; counter = omega arith }

pub make_step-requires-clause-next : goal.make_step-requires-clause-next
make_step-requires-clause-next c =
    c.loop-step.invariant.counter
    ∙ sym (counters_now c.args.kinds.now c.requires.at_most c.args.nic.now c.loop-step.nic c.args.kept.now c.loop-step.kept c.loop-step.step
    c.requires.two c.requires.none c.requires.room c.loop-step.invariant.made)

pub make_step-requires-clause-all : goal.make_step-requires-clause-all
make_step-requires-clause-all c = c.loop-step.invariant.made.all

pub make_step-requires-clause-small : goal.make_step-requires-clause-small
make_step-requires-clause-small c =
    let i = c.loop-step.invariant.counter in
    let t = c.loop-step-test.true in
    let f = c.requires.at_most in
    let s = counters_small c.args.kinds.now c.loop-step.step (omega (arith, t, f)) in
    omega (arith, i, s)

pub make_step-requires-clause-counters : goal.make_step-requires-clause-counters
make_step-requires-clause-counters c =
    subst (λ k. length c.loop-step.kept.counters + counters_in k ≤ c.loop-step.kept.room.counters)
    (sym (get_or_default c.args.kinds.now c.loop-step.step _ Elect c.loop-step-test.true))
    (room_counters c.args.kinds.now c.requires.at_most c.args.nic.now c.loop-step.nic c.args.kept.now c.loop-step.kept c.loop-step.step
    c.requires.two c.requires.none c.requires.room c.loop-step.invariant.made c.loop-step-test.true)

pub make_step-requires-clause-descriptors : goal.make_step-requires-clause-descriptors
make_step-requires-clause-descriptors c =
    subst (λ k. length c.loop-step.kept.descriptors + things_in k ≤ c.loop-step.kept.room.descriptors)
    (sym (get_or_default c.args.kinds.now c.loop-step.step _ Elect c.loop-step-test.true))
    (room_descriptors c.args.kinds.now c.requires.at_most c.args.nic.now c.loop-step.nic c.args.kept.now c.loop-step.kept c.loop-step.step
    c.requires.two c.requires.none c.requires.room c.loop-step.invariant.made c.loop-step-test.true)

pub overflow_add-counter : goal.overflow_add-counter
overflow_add-counter c =
    let i = c.loop-step.invariant.counter in
    let t = c.loop-step-test.true in
    let f = c.requires.at_most in
    let s = counters_small c.args.kinds.now c.loop-step.step (omega (arith, t, f)) in
    let m = c.counters_of-counter.ensures.at_most in
    omega (arith, i, s, m)

pub loop-step-preserved : goal.loop-step-preserved
loop-step-preserved c =
    let ks = c.args.kinds.now in
    let t = c.loop-step.step in
    let is = get_or_default ks t _ Elect c.loop-step-test.true in
    record {
      made =
          made_more ks c.requires.at_most c.args.nic.now c.loop-step.nic c.args.kept.now c.loop-step.kept t c.requires.two c.requires.none
          c.requires.room c.loop-step.invariant.made c.make_step.new.nic c.make_step.new.kept
          (c.in_ok-make_step.ensures ks (sym is) c.loop-step.invariant.counter);
      counter =
          ap₂ (λ x y. x + y) c.loop-step.invariant.counter (c.counters_of-counter.ensures.value ∙ ap counters_in is)
          ∙ (let e = before-more counters_in ks t in let q : 2 + before counters_in ks t + counters_in (choice_at ks t)
          ≡ 2 + before counters_in ks (t + 1) = omega (arith, e) in q);
    }

pub returns : goal.returns
returns c =
    let f = c.loop-step-test.false in
    let e = c.loop-step.auto.step-end in
    subst (λ n. AreMade c.args.kinds.now (flat_map (step_calls c.args.kinds.now) (from_to 0 n)) c.args.nic.now c.loop-step.nic
    c.args.kept.now
    c.loop-step.kept) (let q : c.loop-step.step ≡ length c.args.kinds.now = omega (arith, e, f) in q) c.loop-step.invariant.made
