use Rattle.std.proofs.Common.{◌≡◌, ◌++◌, length}
use Rattle.log_verdict.specs.Answering.{said_text}
use Rattle.log_verdict.proofs.answering.said_text.Given as goal

-- what stands there with the words that are left is the whole
abbrev pub invariant-loop-word : goal.invariant-loop-word
invariant-loop-word l = l.out.items ++ said_text l.left.words ≡ said_text l.words.words

abbrev pub decreases-loop-word : goal.decreases-loop-word
decreases-loop-word l = length l.left.words
