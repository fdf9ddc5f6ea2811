use Rattle.std.proofs.Common.{◌≡◌, ◌≤◌, ◌^◌, [], take, drop, length}
use Rattle.log_words.specs.Reading.{with_fields}
use Rattle.log_words.proofs.fields.fields_of.Given as goal

-- what is left is read as the whole, with the words so far before it
abbrev pub invariant-loop-word : goal.invariant-loop-word
invariant-loop-word g l = record {
  reads : with_fields g.T.HasFields.set (take l.count l.first.words) l.words.words l.words.past l.of
      ≡ with_fields g.T.HasFields.set [] l.fn.words.words l.fn.words.past l.fn.plain;
  left : drop l.count l.first.words ≡ l.words.words;
  at_most : length l.first.words ≤ 2 ^ 63;
  within : l.count ≤ length l.first.words;
}

abbrev pub decreases-loop-word : goal.decreases-loop-word
decreases-loop-word g l = length l.words.words
