use Rattle.std.proofs.Common.{sym, ap, ◌∙◌}
use Rattle.coll_shape.specs.Rows.{joined}
use Rattle.coll_shape.proofs.Rows.{rows-joined}
use Rattle.coll_shape.proofs.inputs.Inputs.lists.Goals as goal

pub returns : goal.returns
returns c = record {
  value = c.as_slice.ensures.value ∙ (sym
      (rows-joined c.self.inside.ranks c.self.inside.inputs c.self.inside.lists.items c.self.invariant) ∙ ap joined c.self.view_is);
}
