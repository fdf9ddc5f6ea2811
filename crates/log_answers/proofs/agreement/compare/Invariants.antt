use Rattle.std.proofs.Common.{◌≡◌, length, None}
use Rattle.log_words.specs.Words.{begins}
use Rattle.log_answers.specs.Agreement.{compared}
use Rattle.log_answers.specs.declared.items.Place.TheVariants.{First}
use Rattle.log_answers.proofs.agreement.compare.Given as goal

-- the words that are left are compared from here as all are from the first place
abbrev pub invariant-loop-word : goal.invariant-loop-word
invariant-loop-word g l = record {
  reads : compared (g.K.Knows.known l.around) l.owed l.place l.new l.said.words l.said.past
      ≡ compared (g.K.Knows.known l.around) l.owed First None l.fn.said.words l.fn.said.past;
  column : l.column ≡ begins l.said;
}

abbrev pub decreases-loop-word : goal.decreases-loop-word
decreases-loop-word g l = length l.said.words
