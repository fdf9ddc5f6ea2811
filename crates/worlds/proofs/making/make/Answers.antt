-- By the kind of the step.
use Rattle.std.proofs.Common.{subst, sym}
use Rattle.worlds.specs.parts.Steps.{IsStepped}
use Rattle.worlds.proofs.making.make.Goals as goal

pub returns-in-Start-clause-step : goal.returns-in-Start-clause-step
returns-in-Start-clause-step c = λ p inputs k.
    subst (λ x. IsStepped p inputs x c.args.nodes.now c.args.traffic.now c.start.new.nodes c.start.new.traffic) (sym c.in-Start.is)
    (c.start.ensures.step p inputs k)

pub returns-in-Deliver-clause-step : goal.returns-in-Deliver-clause-step
returns-in-Deliver-clause-step c = λ p inputs k.
    subst (λ x. IsStepped p inputs x c.args.nodes.now c.args.traffic.now c.deliver.new.nodes c.deliver.new.traffic) (sym c.in-Deliver.is)
    (c.deliver.ensures.step p inputs k)

pub returns-in-Fire-clause-step : goal.returns-in-Fire-clause-step
returns-in-Fire-clause-step c = λ p inputs k.
    subst (λ x. IsStepped p inputs x c.args.nodes.now c.args.traffic.now c.fire.new.nodes c.fire.new.traffic) (sym c.in-Fire.is)
    (c.fire.ensures.step p inputs k)
