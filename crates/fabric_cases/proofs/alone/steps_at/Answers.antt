use Rattle.std.proofs.Common.{arith}
use Rattle.fabric_cases.proofs.alone.steps_at.Goals as goal

pub step_at-requires-clause-rank : goal.step_at-requires-clause-rank
step_at-requires-clause-rank g c = let n = c.requires.ranks in let low = c.requires.rank in omega (arith, n, low)
