use Rattle.log_verdict.proofs.Places.{no_place}
use Rattle.log_verdict.proofs.steps.make.Goals as goal

pub returns-in_ok-step-in_default : goal.returns-in_ok-step-in_default
returns-in_ok-step-in_default c =
    no_place c.args.call.now c.args.rank c.args.said c.args.scene.now _
    (record { not_Open = c.in_default.not-Open; not_Deliver = c.in_default.not-Deliver })
    c.in_ok-step-in_default.ensures
