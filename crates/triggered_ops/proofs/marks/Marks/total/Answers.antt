use Rattle.std.proofs.Common.{◌∙◌}
use Rattle.triggered_ops.proofs.marks.Words.{sum-counts}
use Rattle.triggered_ops.proofs.marks.Marks.total.Goals as goal

pub returns : goal.returns
returns c = c.total.ensures.sum ∙ sum-counts c.self.inside.words.items c.self.inside.counts c.args.self.now c.self.invariant c.self.view_is
