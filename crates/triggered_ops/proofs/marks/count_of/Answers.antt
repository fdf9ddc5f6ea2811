use Rattle.std.proofs.Common.{sym, arith}
use Rattle.triggered_ops.proofs.marks.Words.{sum-ones}
use Rattle.triggered_ops.proofs.marks.count_of.Goals as goal

pub returns : goal.returns
returns c = sym (sum-ones 64 c.args.word (omega arith))
