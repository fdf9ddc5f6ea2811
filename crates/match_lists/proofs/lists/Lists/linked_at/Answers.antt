use Rattle.std.proofs.Common.{◌≡◌, Some, None, get_or, find, sym, ap, ◌∙◌}
use Rattle.std.specs.Option.{option_copied}
use Rattle.ni_model.specs.Arrive.{or_else}
use Rattle.match_lists.specs.Slots.{where_linked}
use Rattle.match_lists.specs.Lists.{both, values, is_named, linked_as}
use Rattle.match_lists.proofs.UnlinkLemmas.{absent, slot-below, unlink-priority, unlink-overflow}
use Rattle.match_lists.proofs.lists.Lists.linked_at.Goals as goal

pub returns-in_err-linked_at-clause-linked : goal.returns-in_err-linked_at-clause-linked
returns-in_err-linked_at-clause-linked g c =
    let h = c.args.handle in
    let table = c.self.inside.by_slot.items in
    let told : where_linked h (get_or table h.slot None) ≡ None = sym c.where_linked.ensures ∙ c.in_err-linked_at.was in
    let none = absent _ _ _ _ _ h c.self.invariant told in
    let lacks : linked_as h (both (values c.self.inside.priority.entries) (values c.self.inside.overflow.entries) c.self.inside.limit
    c.self.inside.slots 0) ≡ None = (λ i. or_else (none.2 i) (none.3 i)) in
    ap option_copied c.from_residual.ensures ∙ sym lacks ∙ ap (λ v. linked_as h v) c.self.view_is

pub returns-in-Priority-clause-linked : goal.returns-in-Priority-clause-linked
returns-in-Priority-clause-linked g c =
    let h = c.args.handle in
    let table = c.self.inside.by_slot.items in
    let told : where_linked h (get_or table h.slot None) ≡ Some c.in_ok-linked_at.linked_at = sym c.where_linked.ensures
    ∙ c.in_ok-linked_at.was in
    let slot = slot-below _ _ _ _ _ h c.in_ok-linked_at.linked_at c.self.invariant told in
    let u = unlink-priority _ _ _ _ _ c.self.inside.priority.given h c.in_ok-linked_at.linked_at c.self.invariant
    c.nodes-priority.ensures.apart told c.in-Priority.is slot in
    c.get.ensures.value ∙ u.1.value_is ∙ sym (ap (λ f. or_else f (find (is_named h) (values c.self.inside.overflow.entries)))
    u.1.named_is) ∙ ap (λ v. linked_as h v) c.self.view_is

pub returns-in-Overflow-clause-linked : goal.returns-in-Overflow-clause-linked
returns-in-Overflow-clause-linked g c =
    let h = c.args.handle in
    let table = c.self.inside.by_slot.items in
    let told : where_linked h (get_or table h.slot None) ≡ Some c.in_ok-linked_at.linked_at = sym c.where_linked.ensures
    ∙ c.in_ok-linked_at.was in
    let slot = slot-below _ _ _ _ _ h c.in_ok-linked_at.linked_at c.self.invariant told in
    let u = unlink-overflow _ _ _ _ _ c.self.inside.overflow.given h c.in_ok-linked_at.linked_at c.self.invariant
    c.nodes-overflow.ensures.apart told c.in-Overflow.is slot in
    c.get-in-Overflow.ensures.value ∙ u.1.value_is ∙ sym (λ i. or_else (u.1.others_lack i) (u.1.named_is i))
    ∙ ap (λ v. linked_as h v) c.self.view_is
