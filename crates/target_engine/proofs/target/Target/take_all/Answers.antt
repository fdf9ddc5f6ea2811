use Rattle.std.proofs.Common.{◌∙◌}
use Rattle.target_engine.proofs.Kept.{kept-left}
use Rattle.target_engine.proofs.target.Target.take_all.Goals as goal

pub take_found-requires-clause-recorded : goal.take_found-requires-clause-recorded
take_found-requires-clause-recorded c = rw c.deref.ensures.value c.self.invariant.kept.recorded

pub take_found-requires-clause-counted : goal.take_found-requires-clause-counted
take_found-requires-clause-counted c = c.self.invariant.counted

pub invariant_of-self : goal.invariant_of-self
invariant_of-self c =
    let i = c.self.inside in
    let taken = c.take_found.ensures in
    record {
      kept =
          kept-left i.limit i.linked c.args.args.now.pt c.args.args.now.entry i.indices.items i.records.by_entry
          c.take_found.new.records.by_entry
          i.headers c.take_found.new.headers c.self.invariant.kept (rw c.deref.ensures.value at taken.recorded) taken.limit
          taken.given taken.left;
      counted = rw taken.left taken.users;
      queues = c.self.invariant.queues;
      long = taken.long ∙ c.self.invariant.long;
      small = c.self.invariant.small;
    }
