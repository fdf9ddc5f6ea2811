use Rattle.text_laws.proofs.refusals.Grammar.{words_by_the_table}
use Rattle.text_laws.proofs.refusals.words_by_the_table.Goals as goal

pub returns : goal.returns
returns c = record { table = words_by_the_table }
