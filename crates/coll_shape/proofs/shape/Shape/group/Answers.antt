use Rattle.std.proofs.Common.{None, get_or, ap, ◌∙◌}
use Rattle.coll_shape.proofs.Formed.{members-told, same_members}
use Rattle.coll_shape.proofs.shape.Shape.group.Goals as goal

pub returns : goal.returns
returns c = record {
  value =
      c.members_of.ensures
      ∙ (same_members _ _ _ _ _ _ c.as_slice-2.ensures.value c.as_slice-3.ensures.value
      (c.number_at-on.ensures ∙ ap (λ on. get_or on c.args.step None) c.as_slice.ensures.value)
      ∙ members-told c.self.inside.parts c.self.inside.everyone c.args.self.now c.args.step c.self.invariant c.self.view_is);
}
