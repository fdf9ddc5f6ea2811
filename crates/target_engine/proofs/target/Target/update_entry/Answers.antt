use Rattle.std.proofs.Common.{length, ap, refl, ◌∙◌}
use Rattle.std.proofs.lemmas.List.{with_items_is}
use Rattle.target_engine.specs.PortalTable.{seen_in, linked_in, linked_after}
use Rattle.ni_model.specs.Lists.{index_at}
use Rattle.ni_model.specs.Arrive.{indices_after}
use Rattle.target_engine.specs.declared.entry_records.Records.{Records}
use Rattle.target_engine.proofs.Counted.{counted-updated, queues-updated, whole-lent}
use Rattle.target_engine.proofs.Kept.{kept-updated, seen-updated, given-after}
use Rattle.target_engine.proofs.target.Target.update_entry.Goals as goal

pub update_entry_at-requires : goal.update_entry_at-requires
update_entry_at-requires c =
    ap (λ x. linked_in c.args.found.now.linked.handle (index_at c.args.header.now.pt (seen_in x))) c.deref_mut.ensures.value
    ∙ ap (λ s. linked_in c.args.found.now.linked.handle (index_at c.args.header.now.pt s.indices)) c.self.view_is ∙ c.requires.entry

pub invariant_of-self : goal.invariant_of-self
invariant_of-self c =
    let i = c.self.inside in
    let f = c.args.found.now in
    let h = c.args.header.now in
    let was = c.deref_mut.result.now in
    let new = c.update_entry_at.new.indices in
    let stays = c.update_entry_at.auto.indices in
    let after = c.forget.ensures.records in
    let place = ap (λ s. s.indices) c.self.view_is in
    let shown =
    seen-updated i.limit i.linked f h i.indices.items was new i.records.by_entry i.headers c.args.self.now.indices c.self.invariant.kept
    c.deref_mut.ensures.value c.update_entry_at.ensures.after place c.requires.there in
    rw c.forget.ensures.linked
    (whole-lent i.limit i.indices.len (linked_after f h i.linked) i.indices.items was new (indices_after f h (seen_in i.indices.items))
    c.forget.new.records i.headers i.eqs
    c.deref_mut.ensures.value stays (stays ∙ c.deref_mut.ensures.len)
    (kept-updated i.limit i.indices.len i.linked f h i.indices.items was new i.records.by_entry c.forget.new.records.by_entry i.headers
    c.args.self.now.indices c.self.invariant.kept c.deref_mut.ensures.value (stays ∙ c.deref_mut.ensures.len)
    c.update_entry_at.ensures.after c.update_entry_at.ensures.kept (ap (λ (r : Records). r.by_entry) after) place c.requires.there)
    (rw after (counted-updated f h i.headers.unexpected i.records c.self.invariant.counted c.self.invariant.kept.recorded.once))
    shown (queues-updated f h (seen_in i.indices.items) i.eqs c.self.invariant.queues)
    (ap (λ (r : Records). length r.waiting) after ∙ c.self.invariant.long) c.self.invariant.small)

pub returns : goal.returns
returns c =
    let whole = with_items_is c.self.inside.indices c.update_entry_at.new.indices (c.update_entry_at.auto.indices
    ∙ c.deref_mut.ensures.len) in
    let e = seen-updated c.self.inside.limit c.self.inside.linked c.args.found.now c.args.header.now c.self.inside.indices.items
    c.deref_mut.result.now c.update_entry_at.new.indices c.self.inside.records.by_entry c.self.inside.headers c.args.self.now.indices
    c.self.invariant.kept c.deref_mut.ensures.value c.update_entry_at.ensures.after (ap (λ s. s.indices) c.self.view_is) c.requires.there in
    rw (← c.self.view_is, whole, e, c.forget.ensures.records, given-after) refl
