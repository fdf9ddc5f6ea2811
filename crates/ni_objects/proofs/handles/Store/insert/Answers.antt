use Rattle.std.proofs.Common.{◌≡◌, length, ap, arith, ◌∙◌, is_some}
use Rattle.std.proofs.lemmas.Bool.Decides.{nat_tests}
use Rattle.ni_objects.proofs.handles.Growth.{length-table_of, table-put}
use Rattle.ni_objects.proofs.handles.Slots.{has_slot-table}
use Rattle.ni_objects.proofs.handles.Store.insert.Goals as goal

pub insert_reserved-slot-requires : goal.insert_reserved-slot-requires
insert_reserved-slot-requires g c =
    let e : length c.args.self.now.live ≡ _ = length-table_of c.self.inside.slab c.self.inside.given c.self.inside.limit c.args.self.now
    c.self.view_is in
    let l : c.self.inside.limit ≡ c.args.self.now.limit = ap (λ t. t.limit) c.self.view_is in
    grind (arith, nat_tests, e, l, c.is_full.ensures, c.if-is_full.false, c.self.invariant.room)

pub returns-clause-ok : goal.returns-clause-ok
returns-clause-ok g c = table-put c.insert_reserved-slot.result (record { stamp = c.self.inside.given; value = c.args.value })
    c.self.inside.slab c.insert_reserved-slot.new.self c.self.inside.limit c.args.self.now c.self.view_is c.self.invariant.stamps
    c.insert_reserved-slot.ensures.was_vacant c.insert_reserved-slot.ensures.updates

pub returns-clause-free : goal.returns-clause-free
returns-clause-free g c = has_slot-table c.insert_reserved-slot.result c.self.inside.slab c.self.inside.given c.self.inside.limit
    c.args.self.now c.self.view_is ∙ ap is_some c.insert_reserved-slot.ensures.was_vacant
