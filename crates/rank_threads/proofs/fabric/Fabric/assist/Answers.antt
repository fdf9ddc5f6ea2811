use Rattle.std.proofs.Common.{◌∙◌}
use Rattle.rank_threads.proofs.fabric.Fabric.assist.Goals as goal

pub loop-preserved : goal.loop-preserved
loop-preserved g c = record { hand = c.work_once-worked.ensures.hand; parts = c.work_once-worked.ensures.parts ∙ c.loop.invariant.parts }
