use Rattle.std.proofs.Common.{◌≡◌}
use Rattle.std.specs.List.{list_any}
use Rattle.coll_text.specs.Text.{is_empty}
use Rattle.coll_lang.proofs.forms.is_some_empty.Given as goal

abbrev pub invariant-loop-word : goal.invariant-loop-word
invariant-loop-word l = list_any is_empty l.fn.words ≡ list_any is_empty l.words
