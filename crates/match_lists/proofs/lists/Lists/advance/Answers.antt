use Rattle.std.proofs.Common.{◌≡◌, ◌<◌, ◌^◌, true, ◌+◌, Option, Some, None, get_or, sym, ap, subst, ◌∙◌}
use Rattle.std.specs.Option.{is_some, IfSome}
use Rattle.chain_list.specs.Chain.{ChainList, chain_list, changed}
use Rattle.ni_model.specs.declared.Linked.{Linked}
use Rattle.ni_model.specs.Arrive.{or_else}
use Rattle.match_lists.specs.Fields.{IsLists}
use Rattle.match_lists.specs.Slots.{where_linked}
use Rattle.match_lists.specs.Lists.{both, values, linked_as, running_at}
use Rattle.match_lists.proofs.UnlinkLemmas.{absent, slot-below, unlink-priority, unlink-overflow, advance-priority, advance-overflow}
use Rattle.match_lists.proofs.UnlinkLemmas.{linked-priority, linked-overflow}
use Rattle.match_lists.proofs.lists.Lists.advance.Goals as goal

pub unreachable-requires : goal.unreachable-requires
unreachable-requires g c =
    let h = c.args.handle in
    let table = c.self.inside.by_slot.items in
    let told : where_linked h (get_or table h.slot None) ≡ None = sym c.where_linked.ensures ∙ c.in_default.is in
    let none = absent _ _ _ _ _ h c.self.invariant told in
    let lacks : linked_as h (both (values c.self.inside.priority.entries) (values c.self.inside.overflow.entries) c.self.inside.limit
    c.self.inside.slots 0) ≡ None = (λ i. or_else (none.2 i) (none.3 i)) in
    let is = subst (λ v. is_some (linked_as h v) ≡ true) (sym c.self.view_is) c.requires.linked in
    let not = sym (ap is_some lacks) ∙ is in
    cc

pub advance-requires-clause-live : goal.advance-requires-clause-live
advance-requires-clause-live g c =
    let h = c.args.handle in
    let table = c.self.inside.by_slot.items in
    let told : where_linked h (get_or table h.slot None) ≡ Some c.in-Some.linked_at = sym c.where_linked.ensures ∙ c.in-Some.is in
    let slot = slot-below _ _ _ _ _ h c.in-Some.linked_at c.self.invariant told in
    let u = unlink-priority _ _ _ _ _ c.self.inside.priority.given h c.in-Some.linked_at c.self.invariant c.nodes-priority.ensures.apart
    told c.in-Priority.is slot in
    let value = u.1.value in
    ap is_some u.1.value_is

pub advance-requires-clause-fits : goal.advance-requires-clause-fits
advance-requires-clause-fits g c =
    let h = c.args.handle in
    let table = c.self.inside.by_slot.items in
    let told : where_linked h (get_or table h.slot None) ≡ Some c.in-Some.linked_at = sym c.where_linked.ensures ∙ c.in-Some.is in
    let slot = slot-below _ _ _ _ _ h c.in-Some.linked_at c.self.invariant told in
    let u = unlink-priority _ _ _ _ _ c.self.inside.priority.given h c.in-Some.linked_at c.self.invariant c.nodes-priority.ensures.apart
    told c.in-Priority.is slot in
    let value = u.1.value in
    let named : linked_as h c.args.self.now ≡ Some value =
    ap (λ v. linked_as h v) (sym c.self.view_is) ∙ linked-priority c.self.inside.priority c.self.inside.overflow h c.in-Some.linked_at
    value u.1 (sym u.1.value_is) in
    subst (λ (o : Option Linked). IfSome o (λ x. x.running + c.args.by < 2 ^ 64)) (named ∙ sym u.1.value_is) c.requires.fits

pub invariant_of-self : goal.invariant_of-self
invariant_of-self g c =
    let h = c.args.handle in
    let table = c.self.inside.by_slot.items in
    let told : where_linked h (get_or table h.slot None) ≡ Some c.in-Some.linked_at = sym c.where_linked.ensures ∙ c.in-Some.is in
    let slot = slot-below _ _ _ _ _ h c.in-Some.linked_at c.self.invariant told in
    let u = unlink-priority _ _ _ _ _ c.self.inside.priority.given h c.in-Some.linked_at c.self.invariant c.nodes-priority.ensures.apart
    told c.in-Priority.is slot in
    let value = u.1.value in
    let named : linked_as h c.args.self.now ≡ Some value =
    ap (λ v. linked_as h v) (sym c.self.view_is) ∙ linked-priority c.self.inside.priority c.self.inside.overflow h c.in-Some.linked_at
    value u.1 (sym u.1.value_is) in
    let new = subst (λ o. IfSome o (λ x. c.advance.new.self ≡ chain_list
    (changed c.in-Some.linked_at.key (running_at (x.running + c.args.by) x) c.self.inside.priority.entries)
    c.self.inside.priority.spare c.self.inside.priority.given)) u.1.value_is c.advance.ensures.chain in
    let moved = advance-priority _ _ _ _ _ (value.running + c.args.by) h c.in-Some.linked_at value c.self.invariant
    c.nodes-priority.ensures.apart told c.in-Priority.is slot (sym u.1.value_is) in
    subst (λ (q : ChainList Linked). IsLists q c.self.inside.overflow table c.self.inside.limit c.self.inside.slots) (sym new) moved.0

pub returns-in-Priority-clause-lists : goal.returns-in-Priority-clause-lists
returns-in-Priority-clause-lists g c =
    let h = c.args.handle in
    let table = c.self.inside.by_slot.items in
    let told : where_linked h (get_or table h.slot None) ≡ Some c.in-Some.linked_at = sym c.where_linked.ensures ∙ c.in-Some.is in
    let slot = slot-below _ _ _ _ _ h c.in-Some.linked_at c.self.invariant told in
    let u = unlink-priority _ _ _ _ _ c.self.inside.priority.given h c.in-Some.linked_at c.self.invariant c.nodes-priority.ensures.apart
    told c.in-Priority.is slot in
    let value = u.1.value in
    let named : linked_as h c.args.self.now ≡ Some value =
    ap (λ v. linked_as h v) (sym c.self.view_is) ∙ linked-priority c.self.inside.priority c.self.inside.overflow h c.in-Some.linked_at
    value u.1 (sym u.1.value_is) in
    let new = subst (λ o. IfSome o (λ x. c.advance.new.self ≡ chain_list
    (changed c.in-Some.linked_at.key (running_at (x.running + c.args.by) x) c.self.inside.priority.entries)
    c.self.inside.priority.spare c.self.inside.priority.given)) u.1.value_is c.advance.ensures.chain in
    let moved = advance-priority _ _ _ _ _ (value.running + c.args.by) h c.in-Some.linked_at value c.self.invariant
    c.nodes-priority.ensures.apart told c.in-Priority.is slot (sym u.1.value_is) in
    rw named (rw (← c.self.view_is)
    (ap (λ (q : ChainList Linked). both (values q.entries) (values c.self.inside.overflow.entries) c.self.inside.limit c.self.inside.slots
    (q.given + c.self.inside.overflow.given)) new
    ∙ (λ i. both (moved.1 i) (sym moved.2 i) c.self.inside.limit c.self.inside.slots
    (c.self.inside.priority.given + c.self.inside.overflow.given))))

pub advance-requires-in-Overflow-clause-live : goal.advance-requires-in-Overflow-clause-live
advance-requires-in-Overflow-clause-live g c =
    let h = c.args.handle in
    let table = c.self.inside.by_slot.items in
    let told : where_linked h (get_or table h.slot None) ≡ Some c.in-Some.linked_at = sym c.where_linked.ensures ∙ c.in-Some.is in
    let slot = slot-below _ _ _ _ _ h c.in-Some.linked_at c.self.invariant told in
    let u = unlink-overflow _ _ _ _ _ c.self.inside.overflow.given h c.in-Some.linked_at c.self.invariant c.nodes-overflow.ensures.apart
    told c.in-Overflow.is slot in
    let value = u.1.value in
    ap is_some u.1.value_is

pub advance-requires-in-Overflow-clause-fits : goal.advance-requires-in-Overflow-clause-fits
advance-requires-in-Overflow-clause-fits g c =
    let h = c.args.handle in
    let table = c.self.inside.by_slot.items in
    let told : where_linked h (get_or table h.slot None) ≡ Some c.in-Some.linked_at = sym c.where_linked.ensures ∙ c.in-Some.is in
    let slot = slot-below _ _ _ _ _ h c.in-Some.linked_at c.self.invariant told in
    let u = unlink-overflow _ _ _ _ _ c.self.inside.overflow.given h c.in-Some.linked_at c.self.invariant c.nodes-overflow.ensures.apart
    told c.in-Overflow.is slot in
    let value = u.1.value in
    let named : linked_as h c.args.self.now ≡ Some value =
    ap (λ v. linked_as h v) (sym c.self.view_is) ∙ linked-overflow c.self.inside.priority c.self.inside.overflow h c.in-Some.linked_at
    value u.1 (sym u.1.value_is) in
    subst (λ (o : Option Linked). IfSome o (λ x. x.running + c.args.by < 2 ^ 64)) (named ∙ sym u.1.value_is) c.requires.fits

pub invariant_of-self-in-Overflow : goal.invariant_of-self-in-Overflow
invariant_of-self-in-Overflow g c =
    let h = c.args.handle in
    let table = c.self.inside.by_slot.items in
    let told : where_linked h (get_or table h.slot None) ≡ Some c.in-Some.linked_at = sym c.where_linked.ensures ∙ c.in-Some.is in
    let slot = slot-below _ _ _ _ _ h c.in-Some.linked_at c.self.invariant told in
    let u = unlink-overflow _ _ _ _ _ c.self.inside.overflow.given h c.in-Some.linked_at c.self.invariant c.nodes-overflow.ensures.apart
    told c.in-Overflow.is slot in
    let value = u.1.value in
    let named : linked_as h c.args.self.now ≡ Some value =
    ap (λ v. linked_as h v) (sym c.self.view_is) ∙ linked-overflow c.self.inside.priority c.self.inside.overflow h c.in-Some.linked_at
    value u.1 (sym u.1.value_is) in
    let new = subst (λ o. IfSome o (λ x. c.advance-in-Overflow.new.self ≡ chain_list
    (changed c.in-Some.linked_at.key (running_at (x.running + c.args.by) x) c.self.inside.overflow.entries)
    c.self.inside.overflow.spare c.self.inside.overflow.given)) u.1.value_is c.advance-in-Overflow.ensures.chain in
    let moved = advance-overflow _ _ _ _ _ (value.running + c.args.by) h c.in-Some.linked_at value c.self.invariant
    c.nodes-overflow.ensures.apart told c.in-Overflow.is slot (sym u.1.value_is) in
    subst (λ (q : ChainList Linked). IsLists c.self.inside.priority q table c.self.inside.limit c.self.inside.slots) (sym new) moved.0

pub returns-in-Overflow-clause-lists : goal.returns-in-Overflow-clause-lists
returns-in-Overflow-clause-lists g c =
    let h = c.args.handle in
    let table = c.self.inside.by_slot.items in
    let told : where_linked h (get_or table h.slot None) ≡ Some c.in-Some.linked_at = sym c.where_linked.ensures ∙ c.in-Some.is in
    let slot = slot-below _ _ _ _ _ h c.in-Some.linked_at c.self.invariant told in
    let u = unlink-overflow _ _ _ _ _ c.self.inside.overflow.given h c.in-Some.linked_at c.self.invariant c.nodes-overflow.ensures.apart
    told c.in-Overflow.is slot in
    let value = u.1.value in
    let named : linked_as h c.args.self.now ≡ Some value =
    ap (λ v. linked_as h v) (sym c.self.view_is) ∙ linked-overflow c.self.inside.priority c.self.inside.overflow h c.in-Some.linked_at
    value u.1 (sym u.1.value_is) in
    let new = subst (λ o. IfSome o (λ x. c.advance-in-Overflow.new.self ≡ chain_list
    (changed c.in-Some.linked_at.key (running_at (x.running + c.args.by) x) c.self.inside.overflow.entries)
    c.self.inside.overflow.spare c.self.inside.overflow.given)) u.1.value_is c.advance-in-Overflow.ensures.chain in
    let moved = advance-overflow _ _ _ _ _ (value.running + c.args.by) h c.in-Some.linked_at value c.self.invariant
    c.nodes-overflow.ensures.apart told c.in-Overflow.is slot (sym u.1.value_is) in
    rw named (rw (← c.self.view_is)
    (ap (λ (q : ChainList Linked). both (values c.self.inside.priority.entries) (values q.entries) c.self.inside.limit c.self.inside.slots
    (c.self.inside.priority.given + q.given)) new
    ∙ (λ i. both (sym moved.2 i) (moved.1 i) c.self.inside.limit c.self.inside.slots
    (c.self.inside.priority.given + c.self.inside.overflow.given))))
