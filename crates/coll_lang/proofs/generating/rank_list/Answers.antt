use Rattle.std.proofs.Common.{◌≡◌, ap, ◌∙◌, arith, map}
use Rattle.std.specs.List.{range_with_len}
use Rattle.ptl_types.specs.declared.elements.ElemType.TheVariants.{U32}
use Rattle.coll_text.specs.Elements.{bytes_of_list}
use Rattle.coll_lang.specs.Generated.{value_at, rank_elements}
use Rattle.coll_lang.proofs.generating.rank_list.Goals as goal

pub returns : goal.returns
unfolding rank_elements
returns c =
    let end : c.loop-i.i ≡ 64 = omega arith in
    c.of.ensures.made ∙ c.loop-i.invariant ∙ ap (λ n. bytes_of_list U32 (map (value_at c.args.k c.args.r) (range_with_len 0 n))) end
