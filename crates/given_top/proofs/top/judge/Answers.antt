use Rattle.std.proofs.Common.{refl}
use Rattle.given_top.proofs.top.judge.Goals as goal

pub returns : goal.returns
returns g c =
    rw c.without.ensures
    (c.plan_main.ensures.0, c.plan_main.ensures.1, (c.plan_main.ensures.2, refl), c.plan_main.ensures.3)
