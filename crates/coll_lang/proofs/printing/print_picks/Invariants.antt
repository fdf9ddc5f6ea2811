use Rattle.std.proofs.Common.{◌≡◌, ◌++◌, drop, get_or}
use Rattle.coll_lang.specs.Spelling.{choice_name, no_choice, prints_text}
use Rattle.coll_lang.proofs.printing.print_picks.Given as goal

-- what stands there with what is left is the whole
abbrev pub invariant-loop-i : goal.invariant-loop-i
invariant-loop-i l = l.out.items ++ prints_text (λ i. choice_name (get_or l.choices i no_choice)) (drop l.i-index l.prints)
    ≡ l.fn.out.items ++ prints_text (λ i. choice_name (get_or l.choices i no_choice)) l.prints
