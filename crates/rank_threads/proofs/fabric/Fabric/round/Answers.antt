use Rattle.std.proofs.Common.{arith}
use Rattle.rank_threads.proofs.fabric.Fabric.round.Goals as goal

pub visit-requires-clause-rank : goal.visit-requires-clause-rank
visit-requires-clause-rank g c = omega (arith, c.requires.end)
