use Rattle.std.proofs.Common.{length}
use Rattle.coll_meaning.proofs.steps.+is_read.Given as goal

abbrev pub decreases-is_read : goal.decreases-is_read
decreases-is_read l = length l.steps.now
