-- A sound plan has some ranks, and few.
use Rattle.std.proofs.Common.{arith}
use Rattle.schedule_compiler.proofs.schedule.Schedule.ranks.Goals as goal

pub returns-clause-some : goal.returns-clause-some
returns-clause-some c = let n = c.ranks.ensures in let some = c.self.invariant.can.sound.some_rank in omega (arith, n, some)

pub returns-clause-at_most : goal.returns-clause-at_most
returns-clause-at_most c = let n = c.ranks.ensures in let at_most = c.self.invariant.can.sound.few_ranks in omega (arith, n, at_most)
