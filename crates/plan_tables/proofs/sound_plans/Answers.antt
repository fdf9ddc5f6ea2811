-- By `Room`.
use Rattle.plan_tables.proofs.Room.{sound-tabled}
use Rattle.plan_tables.proofs.sound_plans.Goals as goal

pub returns : goal.returns
returns c = λ p inputs s. sound-tabled p inputs s
