use Rattle.std.proofs.Common.{◌∙◌}
use Rattle.rank_threads.proofs.fabric.Fabric.visit.Goals as goal

pub loop-preserved : goal.loop-preserved
loop-preserved g c = record { hand = c.follow.ensures.hand; parts = c.follow.ensures.parts ∙ c.loop.invariant.parts }
