-- Each turn makes an enabled step; where there is none the results are decided.
use Rattle.std.proofs.Common.{arith}
use Rattle.worlds.specs.Runs.IsRun.{Begun}
use Rattle.worlds.proofs.Ends.{none_in}
use Rattle.worlds.proofs.Stepping.{In-slice_get}
use Rattle.plan_choice.specs.World.{steps_in}
use Rattle.plan_choice.proofs.Running.{fallen, later_on, leads_on, same_world}
use Rattle.plan_choice.proofs.Standing.{decided, still}
use Rattle.plan_choice.proofs.world.ChoiceWorld.run_to_rest.Goals as goal

pub loop-self-init : goal.loop-self-init
loop-self-init c = record { later = same_world c.args.self.now; leads = Begun }

pub enabled_step-step-requires : goal.enabled_step-step-requires
enabled_step-step-requires c = let n = c.enabled.ensures.number in let t = c.loop-self-test.true in omega (arith, n, t)

pub step-requires : goal.step-requires
step-requires c = In-slice_get (steps_in c.loop-self.self) 0 c.enabled_step-step.result c.enabled_step-step.ensures

pub loop-self-smaller : goal.loop-self-smaller
loop-self-smaller c =
    fallen c.loop-self.self c.step.new.self c.enabled_step-step.result c.enabled.ensures.kept c.step.ensures.kept c.step.ensures.later
    (In-slice_get (steps_in c.loop-self.self) 0 c.enabled_step-step.result c.enabled_step-step.ensures) c.step.ensures.made

pub loop-self-preserved : goal.loop-self-preserved
loop-self-preserved c = record {
  later = later_on c.args.self.now c.loop-self.self c.step.new.self c.loop-self.invariant.later c.step.ensures.later;
  leads =
      leads_on c.args.self.now c.loop-self.self c.step.new.self c.enabled_step-step.result c.loop-self.invariant.leads
      c.loop-self.invariant.later c.enabled.ensures.kept
      (In-slice_get (steps_in c.loop-self.self) 0 c.enabled_step-step.result c.enabled_step-step.ensures) c.step.ensures.made;
}

pub returns-clause-none : goal.returns-clause-none
returns-clause-none c = let n = c.enabled.ensures.number in let t = c.loop-self-test.false in
    none_in (steps_in c.loop-self.self) (omega (arith, n, t))

pub returns-clause-rest : goal.returns-clause-rest
returns-clause-rest c =
    let n = c.enabled.ensures.number in
    let t = c.loop-self-test.false in
    still c.loop-self.self (none_in (steps_in c.loop-self.self) (omega (arith, n, t)))

pub returns-clause-decided : goal.returns-clause-decided
returns-clause-decided c =
    let n = c.enabled.ensures.number in
    let t = c.loop-self-test.false in
    decided c.loop-self.self c.enabled.ensures.kept (none_in (steps_in c.loop-self.self) (omega (arith, n, t)))

pub returns-clause-later : goal.returns-clause-later
returns-clause-later c = c.loop-self.invariant.later

pub returns-clause-steps : goal.returns-clause-steps
returns-clause-steps c = c.loop-self.invariant.leads
