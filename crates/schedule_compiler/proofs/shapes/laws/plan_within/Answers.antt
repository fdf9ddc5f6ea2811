-- By `Final`.
use Rattle.schedule_compiler.proofs.shapes.Final.{few_links}
use Rattle.schedule_compiler.proofs.shapes.laws.plan_within.Goals as goal

pub returns : goal.returns
returns c = λ o a none. few_links o a none
