-- By `Final`.
use Rattle.schedule_compiler.proofs.shapes.Final.{fine-shape, sound}
use Rattle.schedule_compiler.proofs.shapes.laws.plan_sound.Goals as goal

pub returns-clause-sound : goal.returns-clause-sound
returns-clause-sound c = λ o a none. sound o a none

pub returns-clause-ranks : goal.returns-clause-ranks
returns-clause-ranks c = λ o a. (fine-shape o a).ranks
