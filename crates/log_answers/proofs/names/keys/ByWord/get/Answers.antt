use Rattle.std.proofs.Common.{◌∙◌}
use Rattle.log_answers.proofs.names.Entries.{word_found}
use Rattle.log_answers.proofs.names.keys.ByWord.get.Goals as goal

pub returns : goal.returns
returns g c =
    c.copied.ensures ∙ c.get.ensures.value ∙ word_found c.args.word.now c.self.inside.entries c.args.self.now c.self.view_is
