use Rattle.std.proofs.Common.{◌≡◌, ◌<◌, true, None, length, refl, sym, ap, ◌∙◌, arith}
use Rattle.std.specs.Prelude.{is_some, slice_set}
use Rattle.std.proofs.lemmas.List.{length-map}
use Rattle.ni_model.specs.Lists.{index_at, entries_in}
use Rattle.target_engine.specs.PortalTable.{seen, seen_in}
use Rattle.target_engine.proofs.Counted.{queues-freed, some-within, whole-lent}
use Rattle.target_engine.proofs.Kept.{kept-put, kept-lists, no-entries}
use Rattle.target_engine.proofs.target.Target.pt_free.Goals as goal

pub free_at-requires-clause-empty : goal.free_at-requires-clause-empty
free_at-requires-clause-empty c = rw (c.deref_mut.ensures.value, ← c.deref-2.ensures.value)
    (no-entries _ (sym c.holds_entries.ensures ∙ c.if-holds_entries.false))

pub free_at-requires-clause-lists : goal.free_at-requires-clause-lists
free_at-requires-clause-lists c = rw c.deref_mut.ensures.value
    (kept-lists c.self.inside.limit c.self.inside.linked c.self.inside.indices.items c.self.inside.records.by_entry c.self.inside.headers
    c.self.invariant.kept)

pub invariant_of-self : goal.invariant_of-self
invariant_of-self c =
    let none : entries_in (index_at c.args.index (seen_in c.self.inside.indices.items)) ≡ 0 =
    rw (← c.deref-2.ensures.value) (no-entries _ (sym c.holds_entries.ensures ∙ c.if-holds_entries.false)) in
    let i = c.self.inside in
    let was = c.deref_mut.result.now in
    let new = c.free_at.new.indices in
    let stays = c.free_at.auto.indices in
    let there : is_some (index_at c.args.index (seen_in i.indices.items)) ≡ true =
    rw (← c.deref.ensures.value) (sym c.is_allocated.ensures ∙ c.if-not-is_allocated.false) in
    let lt : c.args.index < length (seen_in i.indices.items) =
    omega (
      arith,
      some-within c.args.index i.indices.items i.records.waiting there c.self.invariant.long,
      c.self.invariant.long,
      length-map i.indices.items seen,
    ) in
    whole-lent i.limit i.indices.len i.linked i.indices.items was new (slice_set (seen_in i.indices.items) c.args.index None) i.records
    i.headers c.remove.new.self
    c.deref_mut.ensures.value stays (stays ∙ c.deref_mut.ensures.len)
    (kept-put i.limit i.indices.len c.args.index i.linked i.indices.items was new None i.records.by_entry i.headers c.self.invariant.kept
    c.deref_mut.ensures.value (stays ∙ c.deref_mut.ensures.len) c.free_at.ensures.after
    c.free_at.ensures.kept refl none)
    c.self.invariant.counted (c.free_at.ensures.after ∙ ap (λ x. slice_set (seen_in x) c.args.index None) c.deref_mut.ensures.value)
    (rw (c.remove.ensures.does, c.queue_at.ensures, c.deref-3.ensures.value)
    (queues-freed c.args.index (seen_in i.indices.items) i.eqs c.self.invariant.queues lt)) c.self.invariant.long c.self.invariant.small
