-- Four words more in each turn.
use Rattle.std.proofs.Common.{◌≡◌, ◌++◌, ◌∙◌, ap, ap₂, arith, flat_map, length, sym}
use Rattle.coll_lang.specs.declared.choices.ChoiceKind.TheVariants.{Elect}
use Rattle.std.proofs.lemmas.List.{get_or_default}
use Rattle.plan_core.specs.Plan.{from_to}
use Rattle.ptl_types.specs.Filled.{Filled}
use Rattle.plan_choice.specs.texts.machine.Machine.{first_word}
use Rattle.plan_choice.specs.texts.view.Calls.{first_bytes}
use Rattle.plan_choice.specs.texts.view.Install.{four_words, given_word}
use Rattle.plan_choice.proofs.ranks.Numbers.{flat-more}
use Rattle.plan_choice.proofs.ranks.region.region.Goals as goal

pub loop-step-init : goal.loop-step-init
loop-step-init c = c.in_ok-bytes.ensures.items

pub loop-step-preserved : goal.loop-step-preserved
loop-step-preserved c =
    let ks = c.args.kinds.now in
    c.in_ok-push_step.ensures
    ∙ ap₂ (λ v k. v ++ four_words (first_word k) (given_word k c.args.rank) 0 0) c.loop-step.invariant
    (get_or_default ks c.loop-step.step _ Elect c.loop-step-test.true)
    ∙ sym (flat-more (first_bytes ks c.args.rank) c.loop-step.step)

pub returns : goal.returns
returns c =
    let f = c.loop-step-test.false in
    let e = c.loop-step.auto.step-end in
    ap (λ (b : Filled). b.list) c.from_vec.ensures
    ∙ c.loop-step.invariant
    ∙ ap (λ n. flat_map (first_bytes c.args.kinds.now c.args.rank) (from_to 0 n))
    (let q : c.loop-step.step ≡ length c.args.kinds.now = omega (arith, e, f) in q)
