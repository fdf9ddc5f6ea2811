-- What is possible is what the parts allow.
use Rattle.std.proofs.Common.{subst, sym}
use Rattle.plan_core.specs.Members.{In}
use Rattle.worlds.specs.Allowed.{Allows}
use Rattle.worlds.specs.World.{AreSlots, WorldState, steps_in}
use Rattle.worlds.proofs.Behind.{allowed_in, listed_now}
use Rattle.worlds.proofs.world.World.is_enabled.Goals as goal

pub returns : goal.returns
returns c = λ slots agree.
    let s = c.self.inside in
    let back = subst (λ (w : WorldState). AreSlots w slots) (sym c.self.view_is) agree in (
      λ t. subst (λ (w : WorldState). In c.args.step (steps_in w slots)) c.self.view_is
          (listed_now s.job s.nodes.items s.traffic c.self.invariant slots back c.args.step
          (subst (λ ns. Allows ns s.traffic c.args.step) c.deref.ensures.value (c.allows.ensures.0 t))),
      λ i. c.allows.ensures.1 (subst (λ ns. Allows ns s.traffic c.args.step) (sym c.deref.ensures.value)
          (allowed_in s.job s.nodes.items s.traffic c.self.invariant slots back c.args.step
          (subst (λ (w : WorldState). In c.args.step (steps_in w slots)) (sym c.self.view_is) i))),
    )
