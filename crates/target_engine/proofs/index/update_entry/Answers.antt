use Rattle.std.proofs.Common.{arith}
use Rattle.target_engine.proofs.index.update_entry.Goals as goal

pub advance-requires-clause-fits : goal.advance-requires-clause-fits
advance-requires-clause-fits g c = rw c.requires.there (omega (arith, c.running_after-to.ensures))
