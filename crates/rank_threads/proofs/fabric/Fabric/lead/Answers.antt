use Rattle.std.proofs.Common.{◌∙◌}
use Rattle.rank_threads.proofs.fabric.Fabric.lead.Goals as goal

pub loop-preserved : goal.loop-preserved
loop-preserved g c = record {
  hand = c.probe_all.ensures.hand;
  parts = c.probe_all.ensures.parts ∙ (c.run.ensures.parts ∙ c.loop.invariant.parts);
  lanes = c.probe_all.ensures.lanes;
}

pub returns-in-Rest : goal.returns-in-Rest
returns-in-Rest g c = record {
  hand = c.probe_all.ensures.hand;
  parts = c.probe_all.ensures.parts ∙ (c.run.ensures.parts ∙ c.loop.invariant.parts);
  lanes = c.probe_all.ensures.lanes;
  answer = c.in-Rest.ensures;
  noted = c.probe_all.ensures.noted;
}
