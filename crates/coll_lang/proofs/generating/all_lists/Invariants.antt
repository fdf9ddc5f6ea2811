use Rattle.std.proofs.Common.{◌≡◌, map}
use Rattle.std.specs.List.{range_with_len}
use Rattle.ptl_types.specs.declared.elements.ElemType.TheVariants.{U32}
use Rattle.coll_text.specs.Elements.{bytes_of_list}
use Rattle.coll_lang.specs.Generated.{rank_elements}
use Rattle.coll_lang.proofs.generating.all_lists.Given as goal

-- the lists of the ranks so far
abbrev pub invariant-loop-r : goal.invariant-loop-r
invariant-loop-r l = l.lists.items ≡ map (bytes_of_list U32) (map (rank_elements l.k) (range_with_len 0 l.r))
