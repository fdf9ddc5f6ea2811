use Rattle.std.proofs.Common.{arith}
use Rattle.log_words.proofs.Columns.{behind_words}
use Rattle.log_words.proofs.words.Rest.of.Goals as goal

pub invariant_of-result : goal.invariant_of-result
invariant_of-result c = omega (arith, behind_words 1 c.args.line.now, c.requires)
