use Rattle.std.proofs.Common.{◌∷◌, ◌++◌, subst, arith}
use Rattle.std.specs.List.{flat_map}
use Rattle.ptl_types.specs.declared.steps.LocalStep.{LocalStep}
use Rattle.ptl_types.specs.declared.steps.LocalStep.TheVariants.{Start}
use Rattle.run_text.specs.Putting.{Takes}
use Rattle.run_text.specs.Orders.{step_word}
use Rattle.run_text.proofs.Taking.{Takes-next, Fails-next, Puts-stops, flat_map-drop}
use Rattle.run_text.proofs.orders.put_steps.Goals as goal

pub returns-in_err-put_step : goal.returns-in_err-put_step
returns-in_err-put_step g c =
    let old = g.K.Sink.outflow c.args.sink.now in
    let before = g.K.Sink.outflow c.loop-step.sink in
    let f = λ (w : LocalStep). 32 ∷ step_word w in
    let text = c.args.out.now ++ flat_map f c.args.steps.now in
    let split = flat_map-drop f c.args.steps.now c.loop-step.step-index Start (omega arith) in
    Puts-stops _ _ c.args.out.now c.put_step.new.out (flat_map f c.args.steps.now) _ c.from_residual.ensures.0
    (Fails-next old before _ text c.loop-step.out _ _ (subst (λ rest. Takes old before text (c.loop-step.out ++ rest)) split
    c.loop-step.invariant) c.in_err-put_step.ensures)

pub loop-step-preserved : goal.loop-step-preserved
loop-step-preserved g c =
    let old = g.K.Sink.outflow c.args.sink.now in
    let before = g.K.Sink.outflow c.loop-step.sink in
    let f = λ (w : LocalStep). 32 ∷ step_word w in
    let text = c.args.out.now ++ flat_map f c.args.steps.now in
    let split = flat_map-drop f c.args.steps.now c.loop-step.step-index Start (omega arith) in
    Takes-next old before _ text c.loop-step.out _ _ _ (subst (λ rest. Takes old before text (c.loop-step.out ++ rest)) split
    c.loop-step.invariant) c.in_ok-put_step.ensures
