use Rattle.std.proofs.Common.{get_or, drop, sym, arith}
use Rattle.log_answers.specs.names.Postings.{each_removed}
use Rattle.log_answers.proofs.names.Removed.{all_removed, next_removed}
use Rattle.log_answers.proofs.names.postings.Postings.remove_each.Goals as goal

pub loop-number-preserved : goal.loop-number-preserved
loop-number-preserved c =
    next_removed c.loop-number.number-index c.args.numbers.now c.loop-number.self c.remove_at.new.self
    (each_removed c.args.numbers.now c.args.self.now) (omega arith) c.remove_at.ensures c.loop-number.invariant

pub returns : goal.returns
returns c =
    all_removed c.loop-number.number-index c.args.numbers.now c.loop-number.self (each_removed c.args.numbers.now c.args.self.now)
    (omega arith) c.loop-number.invariant
