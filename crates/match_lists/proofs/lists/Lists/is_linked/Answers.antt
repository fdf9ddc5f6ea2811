use Rattle.std.proofs.Common.{◌≡◌, Some, None, get_or, ap, sym, ◌∙◌, ◌+◌}
use Rattle.ni_model.specs.Lists.{is_linked}
use Rattle.match_lists.specs.Slots.{where_linked}
use Rattle.match_lists.specs.Lists.{entries}
use Rattle.match_lists.proofs.UnlinkLemmas.{linked-absent, linked-there}
use Rattle.match_lists.proofs.lists.Lists.is_linked.Goals as goal

pub returns-in-Some : goal.returns-in-Some
returns-in-Some c =
    let h = c.args.handle in
    let table = c.self.inside.by_slot.items in
    let told : where_linked h (get_or table h.slot None) ≡ Some c.in-Some.linked_at = sym c.where_linked.ensures ∙ c.in-Some.is in
    c.same_list.ensures ∙ sym (linked-there _ _ _ _ _ (c.self.inside.priority.given + c.self.inside.overflow.given) c.args.list h
    c.in-Some.linked_at c.self.invariant c.nodes-priority.ensures.apart c.nodes-overflow.ensures.apart told)
    ∙ ap (λ v. is_linked h (entries c.args.list v)) c.self.view_is

pub returns-in-None : goal.returns-in-None
returns-in-None c =
    let h = c.args.handle in
    let table = c.self.inside.by_slot.items in
    let told : where_linked h (get_or table h.slot None) ≡ None = sym c.where_linked.ensures ∙ c.in-None.is in
    sym (linked-absent _ _ _ _ _ (c.self.inside.priority.given + c.self.inside.overflow.given) c.args.list h c.self.invariant told)
    ∙ ap (λ v. is_linked h (entries c.args.list v)) c.self.view_is
