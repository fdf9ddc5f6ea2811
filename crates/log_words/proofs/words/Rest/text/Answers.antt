use Rattle.log_words.proofs.Columns.{text_words}
use Rattle.log_words.proofs.words.Rest.text.Goals as goal

pub returns-clause-some : goal.returns-clause-some
returns-clause-some c = text_words c.self.inside.column c.self.inside.left c.args.self.now c.self.view_is
