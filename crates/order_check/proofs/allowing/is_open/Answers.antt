use Rattle.std.proofs.Common.{sym, subst}
use Rattle.plan_core.specs.Members.{In}
use Rattle.worlds.specs.World.{steps_in}
use Rattle.worlds.proofs.Ends.{given_slots, slots_given}
use Rattle.order_check.proofs.Open.{is_allowed, is_listed}
use Rattle.order_check.proofs.allowing.is_open.Goals as goal

pub returns : goal.returns
returns c =
    let w = c.args.world.now in
    let is = c.requires.standing in
    let slots = given_slots w in
    let agree = slots_given w is in
    let told = c.is_enabled.ensures slots agree in (
      λ t. is_allowed w is slots agree c.requires.wide c.args.r c.args.step c.requires.rank
          (subst (λ x. In x (steps_in w slots)) c.step_at.ensures (told.0 t)),
      λ o. told.1 (subst (λ x. In x (steps_in w slots)) (sym c.step_at.ensures)
          (is_listed w is slots agree c.requires.wide c.args.r c.args.step c.requires.rank o)),
    )
