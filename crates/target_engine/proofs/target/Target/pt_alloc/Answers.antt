use Rattle.std.proofs.Common.{◌≡◌, ◌<◌, false, Option, Some, None, length, refl, sym, ap, ◌∙◌, arith}
use Rattle.std.specs.Prelude.{is_some, slice_set}
use Rattle.std.proofs.lemmas.List.{length-map}
use Rattle.ni_model.specs.Lists.{Index, index_at, entries_in}
use Rattle.ni_model.specs.Calls.{new_index}
use Rattle.target_engine.specs.PortalTable.{seen, seen_in}
use Rattle.target_engine.proofs.Counted.{queues-allocated, queues-room, whole-lent}
use Rattle.target_engine.proofs.Kept.{kept-put, kept-lists, none-in}
use Rattle.target_engine.proofs.target.Target.pt_alloc.Goals as goal

none-there : (o : Option Index) → is_some o ≡ false → o ≡ None
none-there None e = refl
none-there (Some i) e = cc

pub add-requires : goal.add-requires
add-requires c = record {
  room = queues-room c.self.inside.indices.items c.self.inside.eqs c.args.eq c.self.invariant.queues
      c.self.invariant.small;
}

pub allocate_at-requires-clause-empty : goal.allocate_at-requires-clause-empty
allocate_at-requires-clause-empty c = rw (c.deref_mut.ensures.value, ← c.deref.ensures.value)
    (none-in _ (sym c.is_allocated.ensures ∙ c.if-is_allocated.false))

pub allocate_at-requires-clause-lists : goal.allocate_at-requires-clause-lists
allocate_at-requires-clause-lists c = rw c.deref_mut.ensures.value
    (kept-lists c.self.inside.limit c.self.inside.linked c.self.inside.indices.items c.self.inside.records.by_entry c.self.inside.headers
    c.self.invariant.kept)

pub invariant_of-self : goal.invariant_of-self
invariant_of-self c =
    let none : entries_in (index_at c.args.index (seen_in c.self.inside.indices.items)) ≡ 0 =
    rw (← c.deref.ensures.value) (none-in _ (sym c.is_allocated.ensures ∙ c.if-is_allocated.false)) in
    let i = c.self.inside in
    let was = c.deref_mut.result.now in
    let new = c.allocate_at.new.indices in
    let stays = c.allocate_at.auto.indices in
    let o = Some (new_index c.args.eq) in
    let lt : c.args.index < length (seen_in i.indices.items) = omega (arith, length-map i.indices.items seen) in
    let free : index_at c.args.index (seen_in i.indices.items) ≡ None =
    rw (← c.deref.ensures.value) (none-there _ (sym c.is_allocated.ensures ∙ c.if-is_allocated.false)) in
    whole-lent i.limit i.indices.len i.linked i.indices.items was new (slice_set (seen_in i.indices.items) c.args.index o) i.records
    i.headers c.add.new.self
    c.deref_mut.ensures.value stays (stays ∙ c.deref_mut.ensures.len)
    (kept-put i.limit i.indices.len c.args.index i.linked i.indices.items was new o i.records.by_entry i.headers c.self.invariant.kept
    c.deref_mut.ensures.value (stays ∙ c.deref_mut.ensures.len) c.allocate_at.ensures.after
    c.allocate_at.ensures.kept refl none)
    c.self.invariant.counted (c.allocate_at.ensures.after ∙ ap (λ x. slice_set (seen_in x) c.args.index o) c.deref_mut.ensures.value)
    (rw c.add.ensures.does (queues-allocated c.args.index c.args.eq (seen_in i.indices.items) i.eqs c.self.invariant.queues lt free))
    c.self.invariant.long c.self.invariant.small
