use Rattle.std.proofs.Common.{◌≡◌, ℕ, true, Some, length, sym, refl, ap, ◌∙◌}
use Rattle.ptl_types.specs.declared.entries.Entry.{Entry}
use Rattle.ni_model.specs.Arrive.{Parts, parts}
use Rattle.ni_model.specs.Headers.{oldest, without_oldest}
use Rattle.ni_model.specs.Append.{append, append_once, append_priority}
use Rattle.target_engine.specs.declared.entry_records.Records.{Records}
use Rattle.target_engine.proofs.Counted.{counted-gone, long-gone}
use Rattle.target_engine.proofs.Headers.{unexpected-oldest}
use Rattle.target_engine.proofs.Kept.{kept-fewer, kept-frees}
use Rattle.target_engine.proofs.Slots.{free_entry_slot}
use Rattle.target_engine.proofs.Records.{given-by}
use Rattle.target_engine.proofs.target.Target.append_once.Goals as goal

by-once : (slot pt : ℕ) (e : Entry) (p : Parts) → e.use_once ≡ true → append_once slot pt e p (oldest pt e p.side.headers.unexpected)
    ≡ append_priority slot pt e p
by-once slot pt e p u = rw u refl

pub invariant_of-self-2 : goal.invariant_of-self-2
invariant_of-self-2 c =
    let o : oldest c.args.args.pt c.args.args.entry c.self.inside.headers.unexpected ≡ Some c.in-Some.unexpected =
    sym c.take_oldest.ensures.oldest
    ∙ c.in-Some.is in
    let i = c.self.inside in
    let hs = i.headers.unexpected in
    let unexpected = c.in-Some.unexpected in
    let gone = c.take_header.ensures.gone in
    record {
      kept =
          kept-fewer i.limit i.linked c.args.args.pt c.args.args.entry unexpected i.indices.items i.records.by_entry
          c.take_header.new.records.by_entry i.headers c.take_oldest.new.self c.self.invariant.kept o c.take_oldest.ensures.rest
          (ap (λ (r : Records). r.by_entry) gone);
      counted =
          rw (c.take_oldest.ensures.rest, gone)
          (counted-gone unexpected hs (without_oldest c.args.args.pt c.args.args.entry hs) i.records c.self.invariant.counted
          c.self.invariant.kept.recorded.once (λ p. unexpected-oldest p c.args.args.pt c.args.args.entry hs unexpected o));
      queues = c.self.invariant.queues;
      long = ap (λ (r : Records). length r.waiting) gone ∙ long-gone unexpected i.records ∙ c.self.invariant.long;
      small = c.self.invariant.small;
    }

pub returns-clause-appends : goal.returns-clause-appends
unfolding append
returns-clause-appends c =
    λ region.
    let s = free_entry_slot c.args.self.now.indices c.take_oldest.new.self.unexpected in
    let o : oldest c.args.args.pt c.args.args.entry c.self.inside.headers.unexpected ≡ Some c.in-Some.unexpected =
    sym c.take_oldest.ensures.oldest
    ∙ c.in-Some.is in
    let freed = kept-frees c.self.inside.limit c.self.inside.linked c.args.args.pt c.args.args.entry c.in-Some.unexpected
    c.self.inside.indices.items c.self.inside.records.by_entry c.self.inside.headers c.self.invariant.kept o in
    record {
      slot = s.0;
      free = s.1;
      ended =
          rw (← by-once s.0 c.args.args.pt c.args.args.entry (parts c.args.self.now region c.args.cts.now c.args.eqs.now) c.requires.once)
          (rw (
            ← c.self.view_is,
            o,
            c.take_header.ensures.counts,
            c.take_header.ensures.events,
            c.take_header.ensures.gone,
            given-by,
            c.overflow_counter.ensures,
            c.deref.ensures.value,
            c.take_oldest.ensures.rest,
            freed,
          ) refl);
    }
