use Rattle.std.proofs.Common.{◌∙◌}
use Rattle.rank_threads.proofs.fabric.Fabric.run.Goals as goal

pub loop-preserved : goal.loop-preserved
loop-preserved g c = record {
  hand = c.sweep.ensures.hand;
  parts = c.sweep.ensures.parts ∙ (c.visit_all.ensures.parts ∙ c.loop.invariant.parts);
}
