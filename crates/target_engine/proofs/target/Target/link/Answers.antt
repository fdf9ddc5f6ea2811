use Rattle.std.proofs.Common.{◌≡◌, ◌+◌, true, false, refl, ap, ◌∙◌, arith}
use Rattle.std.specs.Prelude.{is_some, slice_set}
use Rattle.ni_model.specs.Tables.{handle, is_full}
use Rattle.ni_model.specs.Lists.{index_at}
use Rattle.ni_model.specs.Append.{is_allocated, fresh, linked_at}
use Rattle.target_engine.specs.PortalTable.{seen_in}
use Rattle.target_engine.proofs.Counted.{counted-linked, counted-room, queues-linked, whole-lent}
use Rattle.target_engine.proofs.Kept.{full-kept, or-right, kept-linked, kept-may_link}
use Rattle.target_engine.proofs.Recorded.{recorded-slot}
use Rattle.target_engine.proofs.target.Target.link.Goals as goal

pub unreachable-requires : goal.unreachable-requires
unreachable-requires c =
    let full : is_full c.self.inside.records.by_entry ≡ true = c.in-Err.ensures.full.0 refl in
    let not_full : is_full c.self.inside.records.by_entry ≡ false =
    or-right _ _ (full-kept c.self.inside.limit c.self.inside.linked c.self.inside.indices.items c.self.inside.records.by_entry
    c.self.inside.headers c.self.invariant.kept ∙ rw (← c.self.view_is) at c.requires.room) in
    cc

pub add-requires : goal.add-requires
add-requires c =
    let i = c.self.inside in
    record {
      room = counted-room i.limit i.linked i.indices.items i.headers i.records c.args.entry.ct c.self.invariant.kept
          c.self.invariant.counted (omega arith);
    }

pub link_at-requires-clause-there : goal.link_at-requires-clause-there
link_at-requires-clause-there c = ap (λ x. is_some (index_at c.args.pt (seen_in x))) c.deref_mut.ensures.value
    ∙ ap (is_allocated c.args.pt) c.self.view_is ∙ c.requires.index

pub link_at-requires-clause-may : goal.link_at-requires-clause-may
link_at-requires-clause-may c =
    let room = rw (← c.self.view_is) at c.requires.room in
    rw c.deref_mut.ensures.value (kept-may_link c.in-Ok.me.slot c.self.inside.limit c.self.inside.linked c.self.inside.indices.items
    c.self.inside.records.by_entry c.self.inside.headers c.self.invariant.kept room c.in-Ok.ensures.slot c.in-Ok.ensures.free)

pub invariant_of-self : goal.invariant_of-self
invariant_of-self c =
    let there : is_some (index_at c.args.pt (seen_in c.self.inside.indices.items)) ≡ true = ap (is_allocated c.args.pt) c.self.view_is
    ∙ c.requires.index in
    let i = c.self.inside in
    let was = c.deref_mut.result.now in
    let new = c.link_at.new.indices in
    let pt = c.args.pt in
    let entry = c.args.entry in
    let me = c.in-Ok.me in
    let stays = c.link_at.auto.indices in
    let kept =
    kept-linked i.limit i.indices.len pt me.slot i.linked c.args.list entry me i.indices.items was new i.records.by_entry
    c.insert.new.self i.headers c.self.invariant.kept c.deref_mut.ensures.value (stays ∙ c.deref_mut.ensures.len)
    c.link_at.ensures.after c.link_at.ensures.kept c.in-Ok.ensures.ok (ap (λ n. handle me.slot n) c.in-Ok.ensures.stamp) there
    c.in-Ok.ensures.free in
    whole-lent i.limit i.indices.len (i.linked + 1) i.indices.items was new
    (slice_set (seen_in i.indices.items) pt (linked_at c.args.list (fresh me entry) (index_at pt (seen_in i.indices.items))))
    (record i.records { by_entry = c.insert.new.self; cts = c.add.new.self }) i.headers i.eqs
    c.deref_mut.ensures.value stays (stays ∙ c.deref_mut.ensures.len) kept
    (rw (c.in-Ok.ensures.ok, c.add.ensures.does) (counted-linked me.slot pt entry.ct i.headers.unexpected i.records
    c.self.invariant.counted))
    (c.link_at.ensures.after ∙ ap (λ x. slice_set (seen_in x) pt (linked_at c.args.list (fresh me entry) (index_at pt (seen_in x))))
    c.deref_mut.ensures.value)
    (queues-linked pt c.args.list (fresh me entry) (seen_in i.indices.items) i.eqs c.self.invariant.queues) c.self.invariant.long
    c.self.invariant.small

pub returns-clause-free : goal.returns-clause-free
returns-clause-free c = rw (← c.self.view_is) (recorded-slot c.in-Ok.me.slot (seen_in c.self.inside.indices.items)
    c.self.inside.headers.unexpected c.self.inside.records.by_entry c.self.invariant.kept.recorded c.in-Ok.ensures.free)

pub returns-clause-below : goal.returns-clause-below
returns-clause-below c = rw (← c.self.view_is) (omega (arith, c.in-Ok.ensures.slot, c.self.invariant.kept.limit))
