use Rattle.std.proofs.Common.{◌≡◌, length}
use Rattle.log_lines.specs.Lines.{empty_flaw}
use Rattle.log_lines.proofs.lines.empty_flaw.Given as goal

-- the words that are left have the flaw that all have
abbrev pub invariant-loop-word : goal.invariant-loop-word
invariant-loop-word l = empty_flaw l.words.words ≡ empty_flaw l.fn.words.words

abbrev pub decreases-loop-word : goal.decreases-loop-word
decreases-loop-word l = length l.words.words
