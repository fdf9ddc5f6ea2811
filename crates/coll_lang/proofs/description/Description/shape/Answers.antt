use Rattle.std.proofs.Common.{subst}
use Rattle.coll_lang.specs.Readable.{IsReadable}
use Rattle.coll_lang.proofs.Kept.{kept}
use Rattle.coll_lang.proofs.description.Description.shape.Goals as goal

pub returns-clause-readable : goal.returns-clause-readable
returns-clause-readable c = subst IsReadable c.self.view_is (kept _ c.self.invariant)
