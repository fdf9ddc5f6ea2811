use Rattle.std.proofs.Common.{◌≡◌, ◌%◌, ◌∙◌, arith}
use Rattle.triggered_ops.proofs.marks.Words.{passed-one, passed-zeros, some-zeros}
use Rattle.triggered_ops.proofs.marks.step_of.Goals as goal

pub returns-then-word-eq1-clause-passed : goal.returns-then-word-eq1-clause-passed
returns-then-word-eq1-clause-passed c = passed-one c.args.word

pub returns-else-word-eq1-clause-more : goal.returns-else-word-eq1-clause-more
returns-else-word-eq1-clause-more c = some-zeros 63 c.args.word (omega (arith, c.if-word-eq1.false))

pub returns-else-word-eq1-clause-passed : goal.returns-else-word-eq1-clause-passed
returns-else-word-eq1-clause-passed c = let even : 0 ≡ c.args.word % 2 = omega (arith, c.if-word-eq1.false) in passed-zeros 64 c.args.word
    ∙ even
