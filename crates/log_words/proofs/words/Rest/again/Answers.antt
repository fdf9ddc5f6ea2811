use Rattle.std.specs.Option.{option_copied}
use Rattle.coll_text.specs.Text.{words_left}
use Rattle.log_words.proofs.Columns.{at_most}
use Rattle.log_words.proofs.words.Rest.again.Goals as goal

pub returns-clause-at_most : goal.returns-clause-at_most
returns-clause-at_most c = at_most c.self.inside.column (words_left (option_copied c.self.inside.left)) c.self.invariant
