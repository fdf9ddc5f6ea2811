use Rattle.std.proofs.Common.{sym, ap, ◌∙◌}
use Rattle.std.specs.Option.{option_copied}
use Rattle.coll_text.specs.Text.{words_left}
use Rattle.log_words.specs.Words.{begins}
use Rattle.log_words.proofs.Columns.{begins_from}
use Rattle.log_words.proofs.words.Rest.column.Goals as goal

pub returns : goal.returns
returns c = sym (begins_from c.self.inside.column (words_left (option_copied c.self.inside.left))) ∙ ap begins c.self.view_is
