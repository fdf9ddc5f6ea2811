use Rattle.given_top.proofs.CostWords.{few_words, many_words}
use Rattle.given_top.proofs.words.cost_of.Goals as goal

pub returns-in_default-clause-value : goal.returns-in_default-clause-value
returns-in_default-clause-value c = few_words _ _ c.args.words.now c.in_default.len_below

pub returns-in_default-4-clause-value : goal.returns-in_default-4-clause-value
returns-in_default-4-clause-value c = many_words _ _ c.args.words.now c.in_default.len_at_least
