use Rattle.std.proofs.Common.{◌∙◌}
use Rattle.rank_threads.proofs.fabric.Fabric.work_once.Goals as goal

pub returns-clause-parts : goal.returns-clause-parts
returns-clause-parts g c = c.sweep.ensures.parts ∙ c.visit_all.ensures.parts
