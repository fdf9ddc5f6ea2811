use Rattle.std.proofs.Common.{◌≡◌, ◌++◌, drop}
use Rattle.coll_lang.specs.Spelling.{name_at, prints_text}
use Rattle.coll_lang.proofs.printing.print_prints.Given as goal

-- what stands there with what is left is the whole
abbrev pub invariant-loop-i : goal.invariant-loop-i
invariant-loop-i l = l.out.items ++ prints_text (name_at l.buffers) (drop l.i-index l.prints)
    ≡ l.fn.out.items ++ prints_text (name_at l.buffers) l.prints
