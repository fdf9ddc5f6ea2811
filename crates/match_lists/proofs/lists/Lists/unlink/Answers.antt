use Rattle.std.proofs.Common.{◌≡◌, ◌+◌, Some, None, get_or, sym, ap, subst, ◌∙◌}
use Rattle.ni_model.specs.Arrive.{or_else}
use Rattle.match_lists.specs.Fields.{IsLists}
use Rattle.match_lists.specs.Slots.{where_linked}
use Rattle.match_lists.specs.Lists.{both, values, linked_as, entry_of}
use Rattle.match_lists.proofs.UnlinkLemmas.{absent, slot-below, unlink-priority, unlink-overflow, taken-priority, taken-overflow}
use Rattle.match_lists.proofs.lists.Lists.unlink.Goals as goal

pub returns-in_err-linked_at-clause-entry : goal.returns-in_err-linked_at-clause-entry
returns-in_err-linked_at-clause-entry g c =
    let h = c.args.handle in
    let table = c.self.inside.by_slot.items in
    let told : where_linked h (get_or table h.slot None) ≡ None = sym c.where_linked.ensures ∙ c.in_err-linked_at.was in
    let none = absent _ _ _ _ _ h c.self.invariant told in
    let lacks : linked_as h (both (values c.self.inside.priority.entries) (values c.self.inside.overflow.entries) c.self.inside.limit
    c.self.inside.slots 0) ≡ None = (λ i. or_else (none.2 i) (none.3 i)) in
    c.from_residual.ensures ∙ sym (ap entry_of lacks) ∙ ap (λ v. entry_of (linked_as h v)) c.self.view_is

pub returns-in_err-linked_at-clause-lists : goal.returns-in_err-linked_at-clause-lists
returns-in_err-linked_at-clause-lists g c =
    let h = c.args.handle in
    let table = c.self.inside.by_slot.items in
    let told : where_linked h (get_or table h.slot None) ≡ None = sym c.where_linked.ensures ∙ c.in_err-linked_at.was in
    let none = absent _ _ _ _ _ h c.self.invariant told in
    rw (← c.self.view_is) (λ i. both (sym none.0 i) (sym none.1 i) c.self.inside.limit c.self.inside.slots
    (c.self.inside.priority.given + c.self.inside.overflow.given))

pub unreachable-requires : goal.unreachable-requires
unreachable-requires g c =
    let h = c.args.handle in
    let table = c.self.inside.by_slot.items in
    let told : where_linked h (get_or table h.slot None) ≡ Some c.in_ok-linked_at.linked_at = sym c.where_linked.ensures
    ∙ c.in_ok-linked_at.was in
    let slot = slot-below _ _ _ _ _ h c.in_ok-linked_at.linked_at c.self.invariant told in
    let u = unlink-priority _ _ _ _ _ c.self.inside.priority.given h c.in_ok-linked_at.linked_at c.self.invariant
    c.nodes-priority.ensures.apart told c.in-Priority.is slot in
    let none : None ≡ Some u.1.value = sym c.in_default.is ∙ c.unlink.ensures.value ∙ u.1.value_is in
    cc

pub unreachable-requires-in_default-unlink : goal.unreachable-requires-in_default-unlink
unreachable-requires-in_default-unlink g c =
    let h = c.args.handle in
    let table = c.self.inside.by_slot.items in
    let told : where_linked h (get_or table h.slot None) ≡ Some c.in_ok-linked_at.linked_at = sym c.where_linked.ensures
    ∙ c.in_ok-linked_at.was in
    let slot = slot-below _ _ _ _ _ h c.in_ok-linked_at.linked_at c.self.invariant told in
    let u = unlink-overflow _ _ _ _ _ c.self.inside.overflow.given h c.in_ok-linked_at.linked_at c.self.invariant
    c.nodes-overflow.ensures.apart told c.in-Overflow.is slot in
    let none : None ≡ Some u.1.value = sym c.in_default-unlink.is ∙ c.unlink-in-Overflow.ensures.value ∙ u.1.value_is in
    cc

pub invariant_of-self : goal.invariant_of-self
invariant_of-self g c =
    let h = c.args.handle in
    let table = c.self.inside.by_slot.items in
    let told : where_linked h (get_or table h.slot None) ≡ Some c.in_ok-linked_at.linked_at = sym c.where_linked.ensures
    ∙ c.in_ok-linked_at.was in
    let slot = slot-below _ _ _ _ _ h c.in_ok-linked_at.linked_at c.self.invariant told in
    let taken = taken-priority _ _ _ _ _ _ h c.in_ok-linked_at.linked_at c.in-Some.linked c.self.invariant c.nodes-priority.ensures.apart
    told c.in-Priority.is slot c.in-Some.ensures.value c.in-Some.ensures.taken in
    subst (λ t. IsLists c.unlink.new.self c.self.inside.overflow t c.self.inside.limit c.self.inside.slots) (sym c.set.ensures.items)
    taken.0

pub invariant_of-self-in-Overflow : goal.invariant_of-self-in-Overflow
invariant_of-self-in-Overflow g c =
    let h = c.args.handle in
    let table = c.self.inside.by_slot.items in
    let told : where_linked h (get_or table h.slot None) ≡ Some c.in_ok-linked_at.linked_at = sym c.where_linked.ensures
    ∙ c.in_ok-linked_at.was in
    let slot = slot-below _ _ _ _ _ h c.in_ok-linked_at.linked_at c.self.invariant told in
    let taken = taken-overflow _ _ _ _ _ _ h c.in_ok-linked_at.linked_at c.in-Some-unlink.linked c.self.invariant
    c.nodes-overflow.ensures.apart told c.in-Overflow.is slot c.in-Some-unlink.ensures.value c.in-Some-unlink.ensures.taken in
    subst (λ t. IsLists c.self.inside.priority c.unlink-in-Overflow.new.self t c.self.inside.limit c.self.inside.slots)
    (sym c.set-in-Overflow.ensures.items) taken.0

pub returns-in-Some-clause-entry : goal.returns-in-Some-clause-entry
returns-in-Some-clause-entry g c =
    let h = c.args.handle in
    let table = c.self.inside.by_slot.items in
    let told : where_linked h (get_or table h.slot None) ≡ Some c.in_ok-linked_at.linked_at = sym c.where_linked.ensures
    ∙ c.in_ok-linked_at.was in
    let slot = slot-below _ _ _ _ _ h c.in_ok-linked_at.linked_at c.self.invariant told in
    let taken = taken-priority _ _ _ _ _ _ h c.in_ok-linked_at.linked_at c.in-Some.linked c.self.invariant c.nodes-priority.ensures.apart
    told c.in-Priority.is slot c.in-Some.ensures.value c.in-Some.ensures.taken in
    sym (ap entry_of taken.1) ∙ ap (λ v. entry_of (linked_as h v)) c.self.view_is

pub returns-in-Some-clause-lists : goal.returns-in-Some-clause-lists
returns-in-Some-clause-lists g c =
    let h = c.args.handle in
    let table = c.self.inside.by_slot.items in
    let told : where_linked h (get_or table h.slot None) ≡ Some c.in_ok-linked_at.linked_at = sym c.where_linked.ensures
    ∙ c.in_ok-linked_at.was in
    let slot = slot-below _ _ _ _ _ h c.in_ok-linked_at.linked_at c.self.invariant told in
    let taken = taken-priority _ _ _ _ _ _ h c.in_ok-linked_at.linked_at c.in-Some.linked c.self.invariant c.nodes-priority.ensures.apart
    told c.in-Priority.is slot c.in-Some.ensures.value c.in-Some.ensures.taken in
    rw (← c.self.view_is) taken.2

pub returns-in-Some-unlink-clause-entry : goal.returns-in-Some-unlink-clause-entry
returns-in-Some-unlink-clause-entry g c =
    let h = c.args.handle in
    let table = c.self.inside.by_slot.items in
    let told : where_linked h (get_or table h.slot None) ≡ Some c.in_ok-linked_at.linked_at = sym c.where_linked.ensures
    ∙ c.in_ok-linked_at.was in
    let slot = slot-below _ _ _ _ _ h c.in_ok-linked_at.linked_at c.self.invariant told in
    let taken = taken-overflow _ _ _ _ _ _ h c.in_ok-linked_at.linked_at c.in-Some-unlink.linked c.self.invariant
    c.nodes-overflow.ensures.apart told c.in-Overflow.is slot c.in-Some-unlink.ensures.value c.in-Some-unlink.ensures.taken in
    sym (ap entry_of taken.1) ∙ ap (λ v. entry_of (linked_as h v)) c.self.view_is

pub returns-in-Some-unlink-clause-lists : goal.returns-in-Some-unlink-clause-lists
returns-in-Some-unlink-clause-lists g c =
    let h = c.args.handle in
    let table = c.self.inside.by_slot.items in
    let told : where_linked h (get_or table h.slot None) ≡ Some c.in_ok-linked_at.linked_at = sym c.where_linked.ensures
    ∙ c.in_ok-linked_at.was in
    let slot = slot-below _ _ _ _ _ h c.in_ok-linked_at.linked_at c.self.invariant told in
    let taken = taken-overflow _ _ _ _ _ _ h c.in_ok-linked_at.linked_at c.in-Some-unlink.linked c.self.invariant
    c.nodes-overflow.ensures.apart told c.in-Overflow.is slot c.in-Some-unlink.ensures.value c.in-Some-unlink.ensures.taken in
    rw (← c.self.view_is) taken.2
