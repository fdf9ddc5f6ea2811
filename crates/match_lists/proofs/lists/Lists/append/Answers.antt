use Rattle.std.proofs.Common.{◌≡◌, ◌<◌, Some, false, set, subst, sym, arith}
use Rattle.ptl_types.specs.declared.entries.List.{List as EntryList}
use Rattle.match_lists.specs.Fields.{IsLists}
use Rattle.match_lists.specs.Lists.{has_slot, linked_count}
use Rattle.match_lists.proofs.SlotLemmas.{IsLists-priority, IsLists-overflow, length-values}
use Rattle.match_lists.proofs.lists.Lists.append.Goals as goal

pub invariant_of-self : goal.invariant_of-self
invariant_of-self g c =
    let free = subst (λ v. has_slot c.args.handle.slot v ≡ false) (sym c.self.view_is) c.requires.free in
    let slot = subst (λ v. c.args.handle.slot < v.slots) (sym c.self.view_is) c.requires.slot in
    let room = subst (λ v. linked_count v < v.limit) (sym c.self.view_is) c.requires.room in
    subst (λ t. IsLists c.push_back-key.new.self c.self.inside.overflow t c.self.inside.limit c.self.inside.slots)
    (sym c.set.ensures.items) (subst (λ (k : EntryList). IsLists c.push_back-key.new.self c.self.inside.overflow
    (set c.self.inside.by_slot.items c.args.handle.slot (Some
    (record { list = k; handle = c.args.handle; key = c.push_back-key.result }))) c.self.inside.limit c.self.inside.slots)
    (sym c.in-Priority.is)
    (IsLists-priority _ _ _ _ _ _ _ _ c.self.invariant c.push_back-key.ensures.chain
    (omega (
      arith,
      room,
      c.self.invariant.room,
      length-values c.self.inside.priority.entries,
      length-values c.self.inside.overflow.entries,
    )) slot free))

pub invariant_of-self-in-Overflow : goal.invariant_of-self-in-Overflow
invariant_of-self-in-Overflow g c =
    let free = subst (λ v. has_slot c.args.handle.slot v ≡ false) (sym c.self.view_is) c.requires.free in
    let slot = subst (λ v. c.args.handle.slot < v.slots) (sym c.self.view_is) c.requires.slot in
    let room = subst (λ v. linked_count v < v.limit) (sym c.self.view_is) c.requires.room in
    subst (λ t. IsLists c.self.inside.priority c.push_back-key-in-Overflow.new.self t c.self.inside.limit c.self.inside.slots)
    (sym c.set-in-Overflow.ensures.items) (subst (λ (k : EntryList). IsLists c.self.inside.priority
    c.push_back-key-in-Overflow.new.self (set c.self.inside.by_slot.items c.args.handle.slot
    (Some (record { list = k; handle = c.args.handle; key = c.push_back-key-in-Overflow.result }))) c.self.inside.limit
    c.self.inside.slots) (sym c.in-Overflow.is)
    (IsLists-overflow _ _ _ _ _ _ _ _ c.self.invariant c.push_back-key-in-Overflow.ensures.chain
    (omega (
      arith,
      room,
      c.self.invariant.overflow_room,
      length-values c.self.inside.priority.entries,
      length-values c.self.inside.overflow.entries,
    )) slot free))
