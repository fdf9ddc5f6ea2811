use Rattle.std.proofs.Common.{length, ap, sym, subst, ◌∙◌}
use Rattle.ni_model.specs.Conditions.{HasRoom}
use Rattle.target_engine.specs.declared.entry_records.Records.{Records}
use Rattle.target_engine.proofs.Counted.{counted-unexpected, counted-index, long-unexpected}
use Rattle.target_engine.proofs.Kept.{kept-at_most, kept-unexpected}
use Rattle.target_engine.proofs.target.Target.note.Goals as goal

pub note_header-requires-clause-at_most : goal.note_header-requires-clause-at_most
note_header-requires-clause-at_most c = kept-at_most c.self.inside.limit c.self.inside.linked c.self.inside.indices.items
    c.self.inside.records.by_entry c.self.inside.headers c.args.found.now.linked.handle c.self.invariant.kept

pub note_header-requires-clause-index : goal.note_header-requires-clause-index
note_header-requires-clause-index c =
    let i = c.self.inside in
    counted-index c.args.header.now.pt i.headers.limit i.headers.unexpected i.records c.self.invariant.counted c.self.invariant.kept.held
    c.self.invariant.kept.small

pub invariant_of-self : goal.invariant_of-self
invariant_of-self c =
    let room = subst (λ s. HasRoom c.args.found.now.list s.headers) (sym c.self.view_is) c.requires.room in
    let i = c.self.inside in
    let f = c.args.found.now in
    let h = c.args.header.now in
    let after = c.note_header.ensures.records in
    record {
      kept =
          kept-unexpected i.limit i.linked f h i.indices.items i.records.by_entry c.note_header.new.records.by_entry i.headers
          c.note_header.new.headers c.args.self.now.indices c.self.invariant.kept room (ap (λ s. s.indices) c.self.view_is)
          c.requires.there c.note_header.ensures.headers (ap (λ (r : Records). r.by_entry) after);
      counted = rw (c.note_header.ensures.headers, after) (counted-unexpected f h i.headers i.records c.self.invariant.counted
          c.self.invariant.kept.recorded.once);
      queues = c.self.invariant.queues;
      long = ap (λ (r : Records). length r.waiting) after ∙ long-unexpected f h i.records ∙ c.self.invariant.long;
      small = c.self.invariant.small;
    }
