use Rattle.engine_cases.proofs.Few.{few-unlinked}
use Rattle.engine_cases.proofs.lists.unlink_second.Goals as goal

pub returns-clause-few : goal.returns-clause-few
returns-clause-few g c = few-unlinked _ _ _ _ c.unlink-older.ensures.lists c.requires.few
