use Rattle.std.proofs.Common.{◌≡◌, ◌++◌, drop}
use Rattle.coll_lang.specs.Spelling.{choices_text}
use Rattle.coll_lang.proofs.printing.print_choices.Given as goal

-- what stands there with what is left is the whole
abbrev pub invariant-loop-choice : goal.invariant-loop-choice
invariant-loop-choice l = l.out.items ++ choices_text (drop l.choice-index l.choices) ≡ l.fn.out.items ++ choices_text l.choices
