use Rattle.coll_lang.specs.States.{past}
use Rattle.coll_lang.proofs.Coming.{chosen_kept}
use Rattle.coll_lang.proofs.reader.Reader.chosen.Goals as goal

pub of-requires-3 : goal.of-requires-3
of-requires-3 c = chosen_kept (past c.args.self) c.requires.nonempty c.requires.readable
