use Rattle.std.proofs.Common.{◌≡◌, Some, length, sym, refl, ap, ◌∙◌}
use Rattle.ni_model.specs.Headers.{oldest, without_oldest}
use Rattle.ni_model.specs.Append.{search}
use Rattle.target_engine.specs.declared.entry_records.Records.{Records}
use Rattle.target_engine.proofs.Counted.{counted-gone, long-gone}
use Rattle.target_engine.proofs.Headers.{unexpected-oldest}
use Rattle.target_engine.proofs.Kept.{kept-fewer, kept-frees}
use Rattle.target_engine.proofs.Records.{given-by}
use Rattle.target_engine.proofs.target.Target.delete_oldest.Goals as goal

pub invariant_of-self-2 : goal.invariant_of-self-2
invariant_of-self-2 c =
    let o : oldest c.args.pt c.args.entry.now c.self.inside.headers.unexpected ≡ Some c.in-Some.unexpected =
    sym c.take_oldest.ensures.oldest ∙ c.in-Some.is in
    let i = c.self.inside in
    let hs = i.headers.unexpected in
    let unexpected = c.in-Some.unexpected in
    let gone = c.frees-freed.ensures.gone in
    record {
      kept =
          kept-fewer i.limit i.linked c.args.pt c.args.entry.now unexpected i.indices.items i.records.by_entry
          c.frees-freed.new.records.by_entry i.headers c.take_oldest.new.self c.self.invariant.kept o c.take_oldest.ensures.rest
          (ap (λ (r : Records). r.by_entry) gone);
      counted =
          rw (c.take_oldest.ensures.rest, gone)
          (counted-gone unexpected hs (without_oldest c.args.pt c.args.entry.now hs) i.records c.self.invariant.counted
          c.self.invariant.kept.recorded.once (λ p. unexpected-oldest p c.args.pt c.args.entry.now hs unexpected o));
      queues = c.self.invariant.queues;
      long = ap (λ (r : Records). length r.waiting) gone ∙ long-gone unexpected i.records ∙ c.self.invariant.long;
      small = c.self.invariant.small;
    }

pub returns : goal.returns
unfolding search
returns c =
    λ region cts.
    let o : oldest c.args.pt c.args.entry.now c.self.inside.headers.unexpected ≡ Some c.in-Some.unexpected =
    sym c.take_oldest.ensures.oldest ∙ c.in-Some.is in
    let freed = kept-frees c.self.inside.limit c.self.inside.linked c.args.pt c.args.entry.now c.in-Some.unexpected
    c.self.inside.indices.items c.self.inside.records.by_entry c.self.inside.headers c.self.invariant.kept o in
    rw (
      ← c.self.view_is,
      o,
      c.raise_gone.ensures,
      c.frees-freed.ensures.freed,
      c.frees-freed.ensures.gone,
      given-by,
      c.deref-2.ensures.value,
      c.deref-3.ensures.value,
      c.take_oldest.ensures.rest,
      freed,
    ) refl
