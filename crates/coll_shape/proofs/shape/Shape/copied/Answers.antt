use Rattle.std.proofs.Common.{◌∙◌}
use Rattle.coll_shape.proofs.Formed.{copy-keeps}
use Rattle.coll_shape.proofs.shape.Shape.copied.Goals as goal

pub invariant_of-result : goal.invariant_of-result
invariant_of-result c = copy-keeps c.self.inside.parts c.in-Ok.parts c.self.inside.everyone c.in-Ok-copied.everyone c.in-Ok.ensures
    (c.in-Ok-copied.ensures ∙ c.as_slice.ensures.value) c.self.invariant
