use Rattle.std.proofs.Common.{◌∙◌}
use Rattle.rank_threads.proofs.fabric.Fabric.visit_all.Goals as goal

pub loop-preserved : goal.loop-preserved
loop-preserved g c = record {
  hand = c.round-worked.ensures.hand;
  parts = c.round-worked.ensures.parts ∙ (c.visit_own.ensures.parts ∙ c.loop.invariant.parts);
}
