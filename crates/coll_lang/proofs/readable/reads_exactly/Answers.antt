use Rattle.coll_lang.proofs.ReadsBack.{exactly}
use Rattle.coll_lang.proofs.readable.reads_exactly.Goals as goal

pub returns : goal.returns
returns c = record { exactly = exactly }
