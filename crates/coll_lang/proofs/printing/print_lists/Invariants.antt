use Rattle.std.proofs.Common.{◌≡◌, ◌++◌, drop, map}
use Rattle.std.specs.List.{flat_map}
use Rattle.coll_text.specs.Text.{line}
use Rattle.coll_text.specs.Elements.{elements, value_word}
use Rattle.coll_lang.proofs.printing.print_lists.Given as goal

-- what stands there with what is left is the whole
abbrev pub invariant-loop-list : goal.invariant-loop-list
invariant-loop-list l =
    l.out.items ++ flat_map (λ x. line (map (value_word l.fn.ty) (elements l.fn.ty x))) (drop l.list-index l.lists)
    ≡ l.fn.out.items ++ flat_map (λ x. line (map (value_word l.fn.ty) (elements l.fn.ty x))) l.lists
