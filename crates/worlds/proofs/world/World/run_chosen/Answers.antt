-- Each turn makes the chooser's step; where there is none the world is at rest.
use Rattle.std.proofs.Common.{◌∙◌, arith, refl}
use Rattle.worlds.specs.World.{steps_in}
use Rattle.worlds.proofs.Ends.{all_values, barriers_in, complete, given_slots, none_in, rests, slots_given}
use Rattle.worlds.proofs.Stepping.{In-slice_get, fallen, later_on, no_run, run_more, same_world}
use Rattle.worlds.proofs.world.World.run_chosen.Goals as goal

pub loop-n-init : goal.loop-n-init
loop-n-init g c = (same_world c.args.self.now, refl, no_run g.C.Chooser.answer g.C.Chooser.after c.args.self.now c.args.chooser.now)

pub enabled_step-step-requires : goal.enabled_step-step-requires
enabled_step-step-requires g c = λ slots agree. let n = c.enabled-n.ensures.number slots agree in let t = c.choose-i.ensures.below in
    omega (arith, n, t)

pub step-requires : goal.step-requires
step-requires g c = λ slots agree. In-slice_get (steps_in c.loop-n.self slots) c.choose-i.result c.enabled_step-step.result
    (c.enabled_step-step.ensures slots agree)

pub loop-n-smaller : goal.loop-n-smaller
loop-n-smaller g c =
    fallen c.loop-n.self c.step.new.self c.enabled_step-step.result c.enabled-n.ensures.kept c.step.ensures.kept c.step.ensures.later
    (λ slots agree. In-slice_get (steps_in c.loop-n.self slots) c.choose-i.result c.enabled_step-step.result
    (c.enabled_step-step.ensures slots agree)) c.step.ensures.made

pub loop-n-preserved : goal.loop-n-preserved
loop-n-preserved g c = (
  later_on c.args.self.now c.loop-n.self c.step.new.self c.loop-n.invariant.0 c.step.ensures.later,
  c.step.ensures.strays ∙ c.loop-n.invariant.1,
  run_more g.C.Chooser.answer g.C.Chooser.after c.args.self.now c.loop-n.self c.step.new.self c.args.chooser.now c.loop-n.chooser
      c.choose-i.new.self c.enabled-n.result c.choose-i.result c.enabled_step-step.result
      c.loop-n.invariant.2 c.loop-n.invariant.0 c.step.ensures.later c.enabled-n.ensures.number c.choose-i.ensures.answer
      c.choose-i.ensures.after c.enabled_step-step.ensures c.step.ensures.made,
)

pub returns-then-n-eq0-clause-none : goal.returns-then-n-eq0-clause-none
returns-then-n-eq0-clause-none g c = λ slots agree. let n = c.enabled-n.ensures.number slots agree in none_in
    (steps_in c.loop-n.self slots) (omega (arith, n, c.if-n-eq0.true))

pub returns-then-n-eq0-clause-rest : goal.returns-then-n-eq0-clause-rest
returns-then-n-eq0-clause-rest g c = λ slots agree.
    let n = c.enabled-n.ensures.number slots agree in
    rests c.loop-n.self slots c.enabled-n.ensures.kept agree (none_in (steps_in c.loop-n.self slots) (omega (arith, n, c.if-n-eq0.true)))

pub returns-then-n-eq0-clause-complete : goal.returns-then-n-eq0-clause-complete
returns-then-n-eq0-clause-complete g c = λ slots agree r h.
    let n = c.enabled-n.ensures.number slots agree in
    complete c.loop-n.self slots c.enabled-n.ensures.kept agree
    (none_in (steps_in c.loop-n.self slots) (omega (arith, n, c.if-n-eq0.true))) r h

pub returns-then-n-eq0-clause-values : goal.returns-then-n-eq0-clause-values
returns-then-n-eq0-clause-values g c =
    let n = c.enabled-n.ensures.number (given_slots c.loop-n.self) (slots_given c.loop-n.self c.enabled-n.ensures.kept) in
    all_values c.loop-n.self c.enabled-n.ensures.kept (none_in (steps_in c.loop-n.self (given_slots c.loop-n.self))
    (omega (arith, n, c.if-n-eq0.true)))

pub returns-then-n-eq0-clause-barriers : goal.returns-then-n-eq0-clause-barriers
returns-then-n-eq0-clause-barriers g c = λ slots agree. barriers_in c.loop-n.self slots c.enabled-n.ensures.kept agree
