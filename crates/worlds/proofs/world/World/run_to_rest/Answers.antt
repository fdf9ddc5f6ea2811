-- Each turn makes a possible step; where there is none the world is at rest.
use Rattle.std.proofs.Common.{◌∙◌, arith, refl}
use Rattle.worlds.specs.Runs.IsRun.{Begun}
use Rattle.worlds.specs.World.{steps_in}
use Rattle.worlds.proofs.Ends.{all_values, barriers_in, complete, given_slots, none_in, rests, slots_given}
use Rattle.worlds.proofs.Stepping.{In-slice_get, fallen, later_on, leads_on, same_world}
use Rattle.worlds.proofs.world.World.run_to_rest.Goals as goal

pub loop-self-init : goal.loop-self-init
loop-self-init c = (same_world c.args.self.now, refl, λ slots agree. Begun)

pub enabled_step-step-requires : goal.enabled_step-step-requires
enabled_step-step-requires c = λ slots agree. let n = c.enabled.ensures.number slots agree in let t = c.loop-self-test.true in omega
    (arith, n, t)

pub step-requires : goal.step-requires
step-requires c = λ slots agree. In-slice_get (steps_in c.loop-self.self slots) 0 c.enabled_step-step.result
    (c.enabled_step-step.ensures slots agree)

pub loop-self-smaller : goal.loop-self-smaller
loop-self-smaller c =
    fallen c.loop-self.self c.step.new.self c.enabled_step-step.result c.enabled.ensures.kept c.step.ensures.kept c.step.ensures.later
    (λ slots agree. In-slice_get (steps_in c.loop-self.self slots) 0 c.enabled_step-step.result (c.enabled_step-step.ensures slots agree))
    c.step.ensures.made

pub loop-self-preserved : goal.loop-self-preserved
loop-self-preserved c = (
  later_on c.args.self.now c.loop-self.self c.step.new.self c.loop-self.invariant.0 c.step.ensures.later,
  c.step.ensures.strays ∙ c.loop-self.invariant.1,
  leads_on c.args.self.now c.loop-self.self c.step.new.self c.enabled_step-step.result c.loop-self.invariant.2 c.loop-self.invariant.0
      c.step.ensures.later
      (λ slots agree. In-slice_get (steps_in c.loop-self.self slots) 0 c.enabled_step-step.result
      (c.enabled_step-step.ensures slots agree)) c.step.ensures.made,
)

pub returns-clause-none : goal.returns-clause-none
returns-clause-none c = λ slots agree. let n = c.enabled.ensures.number slots agree in let t = c.loop-self-test.false in none_in
    (steps_in c.loop-self.self slots) (omega (arith, n, t))

pub returns-clause-rest : goal.returns-clause-rest
returns-clause-rest c = λ slots agree.
    let n = c.enabled.ensures.number slots agree in
    let t = c.loop-self-test.false in
    rests c.loop-self.self slots c.enabled.ensures.kept agree (none_in (steps_in c.loop-self.self slots) (omega (arith, n, t)))

pub returns-clause-complete : goal.returns-clause-complete
returns-clause-complete c = λ slots agree r h.
    let n = c.enabled.ensures.number slots agree in
    let t = c.loop-self-test.false in
    complete c.loop-self.self slots c.enabled.ensures.kept agree (none_in (steps_in c.loop-self.self slots) (omega (arith, n, t))) r h

pub returns-clause-values : goal.returns-clause-values
returns-clause-values c =
    let n = c.enabled.ensures.number (given_slots c.loop-self.self) (slots_given c.loop-self.self c.enabled.ensures.kept) in
    let t = c.loop-self-test.false in
    all_values c.loop-self.self c.enabled.ensures.kept
    (none_in (steps_in c.loop-self.self (given_slots c.loop-self.self)) (omega (arith, n, t)))

pub returns-clause-barriers : goal.returns-clause-barriers
returns-clause-barriers c = λ slots agree. barriers_in c.loop-self.self slots c.enabled.ensures.kept agree
