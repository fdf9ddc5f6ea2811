use Rattle.std.proofs.Common.{refl}
use Rattle.plan_top.proofs.Telling.{explained}
use Rattle.given_top.proofs.Beside.{usage_tells}
use Rattle.given_top.proofs.ReadTexts.{rose_at}
use Rattle.given_top.proofs.top.say_usage.Goals as goal

pub returns : goal.returns
returns g c =
    rw c.without.ensures (
      record {
        allowed = c.usage-status.ensures.allowed;
        text = c.usage-status.ensures.text;
        write_fault = rose_at _ _ _ _ c.usage-status.ensures.text;
        untouched = refl;
        world = refl;
      },
      explained _ _ _ _ _ (usage_tells _ _ _ _ c.usage-status.ensures) c.say_beside.ensures,
    )
