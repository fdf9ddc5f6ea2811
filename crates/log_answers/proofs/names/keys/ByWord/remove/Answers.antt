use Rattle.log_answers.proofs.names.Entries.{word_gone}
use Rattle.log_answers.proofs.names.keys.ByWord.remove.Goals as goal

pub returns : goal.returns
returns g c = word_gone c.args.word.now c.self.inside.entries c.remove.new.self c.args.self.now c.self.view_is c.remove.ensures.entries
