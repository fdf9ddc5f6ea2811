use Rattle.std.proofs.Common.{◌≡◌, ◌++◌, take}
use Rattle.given_verdicts.proofs.Wording.{spaced}
use Rattle.std.specs.List.{flat_map}
use Rattle.given_verdicts.proofs.saying.line_of.Given as goal

abbrev pub invariant-loop-word : goal.invariant-loop-word
invariant-loop-word l =
    l.text.items ≡ l.first ++ flat_map spaced (take l.word-index l.words)
