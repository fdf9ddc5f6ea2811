use Rattle.std.proofs.Common.{◌≡◌, map}
use Rattle.std.specs.List.{range_with_len}
use Rattle.ptl_types.specs.declared.elements.ElemType.TheVariants.{U32}
use Rattle.coll_text.specs.Elements.{bytes_of_list}
use Rattle.coll_lang.specs.Generated.{value_at}
use Rattle.coll_lang.proofs.generating.rank_list.Given as goal

-- the bytes of the values so far
abbrev pub invariant-loop-i : goal.invariant-loop-i
invariant-loop-i l = l.bytes.items ≡ bytes_of_list U32 (map (value_at l.k l.r) (range_with_len 0 l.i))
