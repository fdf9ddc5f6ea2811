-- Each turn makes the chooser's step; where there is none the results are decided.
use Rattle.std.proofs.Common.{arith}
use Rattle.worlds.proofs.Ends.{none_in}
use Rattle.worlds.proofs.Stepping.{In-slice_get}
use Rattle.plan_choice.specs.World.{steps_in}
use Rattle.plan_choice.proofs.Running.{fallen, later_on, no_run, run_more, same_world}
use Rattle.plan_choice.proofs.Standing.{decided, still}
use Rattle.plan_choice.proofs.world.ChoiceWorld.run_chosen.Goals as goal

pub loop-n-init : goal.loop-n-init
loop-n-init g c = record {
  later = same_world c.args.self.now;
  run = no_run g.C.Chooser.answer g.C.Chooser.after c.args.self.now c.args.chooser.now;
}

pub enabled_step-step-requires : goal.enabled_step-step-requires
enabled_step-step-requires g c = let n = c.enabled-n.ensures.number in let t = c.choose-i.ensures.below in omega (arith, n, t)

pub step-requires : goal.step-requires
step-requires g c = In-slice_get (steps_in c.loop-n.self) c.choose-i.result c.enabled_step-step.result c.enabled_step-step.ensures

pub loop-n-smaller : goal.loop-n-smaller
loop-n-smaller g c =
    fallen c.loop-n.self c.step.new.self c.enabled_step-step.result c.enabled-n.ensures.kept c.step.ensures.kept c.step.ensures.later
    (In-slice_get (steps_in c.loop-n.self) c.choose-i.result c.enabled_step-step.result c.enabled_step-step.ensures) c.step.ensures.made

pub loop-n-preserved : goal.loop-n-preserved
loop-n-preserved g c = record {
  later = later_on c.args.self.now c.loop-n.self c.step.new.self c.loop-n.invariant.later c.step.ensures.later;
  run =
      run_more g.C.Chooser.answer g.C.Chooser.after c.args.self.now c.loop-n.self c.step.new.self c.args.chooser.now c.loop-n.chooser
      c.choose-i.new.self c.enabled-n.result c.choose-i.result c.enabled_step-step.result c.loop-n.invariant.run c.loop-n.invariant.later
      c.enabled-n.ensures.kept c.enabled-n.ensures.number c.choose-i.ensures.answer c.choose-i.ensures.after c.enabled_step-step.ensures
      c.step.ensures.made;
}

pub returns-then-n-eq0-clause-none : goal.returns-then-n-eq0-clause-none
returns-then-n-eq0-clause-none g c = let n = c.enabled-n.ensures.number in
    none_in (steps_in c.loop-n.self) (omega (arith, n, c.if-n-eq0.true))

pub returns-then-n-eq0-clause-rest : goal.returns-then-n-eq0-clause-rest
returns-then-n-eq0-clause-rest g c =
    let n = c.enabled-n.ensures.number in
    still c.loop-n.self (none_in (steps_in c.loop-n.self) (omega (arith, n, c.if-n-eq0.true)))

pub returns-then-n-eq0-clause-decided : goal.returns-then-n-eq0-clause-decided
returns-then-n-eq0-clause-decided g c =
    let n = c.enabled-n.ensures.number in
    decided c.loop-n.self c.enabled-n.ensures.kept (none_in (steps_in c.loop-n.self) (omega (arith, n, c.if-n-eq0.true)))

pub returns-then-n-eq0-clause-later : goal.returns-then-n-eq0-clause-later
returns-then-n-eq0-clause-later g c = c.loop-n.invariant.later

pub returns-then-n-eq0-clause-chosen : goal.returns-then-n-eq0-clause-chosen
returns-then-n-eq0-clause-chosen g c = c.loop-n.invariant.run
