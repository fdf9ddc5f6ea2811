use Rattle.std.proofs.Common.{◌≡◌, ◌++◌, drop}
use Rattle.coll_lang.specs.Spelling.{groups_text}
use Rattle.coll_lang.proofs.printing.print_groups.Given as goal

-- what stands there with what is left is the whole
abbrev pub invariant-loop-group : goal.invariant-loop-group
invariant-loop-group l = l.out.items ++ groups_text (drop l.group-index l.groups) ≡ l.fn.out.items ++ groups_text l.groups
