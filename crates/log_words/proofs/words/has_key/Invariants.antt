use Rattle.std.proofs.Common.{◌≡◌, take}
use Rattle.std.specs.List.{list_any}
use Rattle.log_words.specs.Reading.{same_key}
use Rattle.log_words.proofs.words.has_key.Given as goal

-- the words that are left to look at have the key where all do
abbrev pub invariant-loop-left : goal.invariant-loop-left
invariant-loop-left l =
    list_any (same_key l.word) (take l.left l.words.words) ≡ list_any (same_key l.word) (take l.count l.fn.words.words)

abbrev pub decreases-loop-left : goal.decreases-loop-left
decreases-loop-left l = l.left
