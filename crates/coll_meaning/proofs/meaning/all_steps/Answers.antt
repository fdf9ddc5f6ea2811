use Rattle.std.proofs.Common.{◌≡◌, ◌<◌, suc, ◌+◌, length, ap, sym, subst, arith}
use Rattle.coll_meaning.specs.Steps.{IsThere}
use Rattle.coll_meaning.proofs.There.{asked_there, few_there, there_first, there_next}
use Rattle.coll_meaning.proofs.meaning.all_steps.Goals as goal

pub loop-k-init : goal.loop-k-init
loop-k-init c = subst (IsThere c.args.shape.now c.args.kept.now c.args.inputs.now 0) (sym c.of-held.ensures)
    (there_first c.args.shape.now c.args.kept.now c.args.inputs.now c.requires)

pub take_step-requires : goal.take_step-requires
take_step-requires c =
    let l : c.loop-k.k < length c.args.shape.now.steps = subst (λ v. c.loop-k.k < length v) c.steps-k-end.ensures.value c.loop-k-test.true
    in
    record {
      step = l;
      at_most = few_there c.args.shape.now c.args.kept.now c.args.inputs.now c.loop-k.k c.loop-k.held c.recall_form.ensures.shape l
          c.loop-k.invariant;
      asked = asked_there c.args.shape.now c.args.kept.now c.args.inputs.now c.loop-k.k c.recall_form.ensures.shape c.requires l
          c.loop-k.held c.loop-k.invariant;
    }

pub loop-k-preserved : goal.loop-k-preserved
loop-k-preserved c =
    let l : c.loop-k.k < length c.args.shape.now.steps = subst (λ v. c.loop-k.k < length v) c.steps-k-end.ensures.value c.loop-k-test.true
    in
    let e : suc c.loop-k.k ≡ c.loop-k.k + 1 = omega arith in
    subst (λ v. IsThere c.args.shape.now c.args.kept.now c.args.inputs.now v c.take_step.new.held) e
    (there_next c.args.shape.now c.args.kept.now c.args.inputs.now c.loop-k.k c.recall_form.ensures.shape c.requires l c.loop-k.held
    c.loop-k.invariant c.take_step.new.held c.in_ok-take_step.ensures)

pub returns : goal.returns
returns c =
    let t : length c.steps-k-end.result.now ≡ length c.args.shape.now.steps = ap length c.steps-k-end.ensures.value in
    let e : c.loop-k.k ≡ length c.args.shape.now.steps = omega (arith, t) in
    subst (λ v. IsThere c.args.shape.now c.args.kept.now c.args.inputs.now v c.loop-k.held) e c.loop-k.invariant
