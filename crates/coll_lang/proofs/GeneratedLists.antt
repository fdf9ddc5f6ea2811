-- The lists of the generated description, element by element and rank by rank.
use Rattle.std.proofs.Common.{◌≡◌, ℕ, ◌+◌, List, [], ◌∷◌, ◌++◌, sym, ap, ◌∙◌, arith, map}
use Rattle.std.specs.List.{range_with_len}
use Rattle.std.proofs.lemmas.List.{append-nil, map-append}
use Rattle.std.proofs.lemmas.List.FromFn.{map-range_with_len_more}
use Rattle.std.proofs.lemmas.Grind.{flat_map-append}
use Rattle.ptl_types.specs.declared.elements.ElemType.TheVariants.{U32}
use Rattle.ptl_types.specs.Elements.{little_endian}
use Rattle.coll_text.specs.Elements.{bytes_of_list}
use Rattle.coll_lang.specs.Generated.{value_at, rank_elements}

from_none : (i : ℕ) → 0 + i ≡ i
from_none i = omega arith

pub one_value_more : (k r i : ℕ)
    → bytes_of_list U32 (map (value_at k r) (range_with_len 0 i)) ++ little_endian 4 (value_at k r i)
    ≡ bytes_of_list U32 (map (value_at k r) (range_with_len 0 (i + 1)))
one_value_more k r i =
    sym (ap (bytes_of_list U32) (map-range_with_len_more (value_at k r) 0 i i (from_none i))
    ∙ flat_map-append (little_endian 4) (map (value_at k r) (range_with_len 0 i)) (value_at k r i ∷ [])
    ∙ ap (λ (x : List ℕ). bytes_of_list U32 (map (value_at k r) (range_with_len 0 i)) ++ x) (append-nil (little_endian 4 (value_at k r i))))

pub one_list_more : (k r : ℕ)
    → map (bytes_of_list U32) (map (rank_elements k) (range_with_len 0 r)) ++ bytes_of_list U32 (rank_elements k r) ∷ []
    ≡ map (bytes_of_list U32) (map (rank_elements k) (range_with_len 0 (r + 1)))
one_list_more k r =
    sym (ap (map (bytes_of_list U32)) (map-range_with_len_more (rank_elements k) 0 r r (from_none r))
    ∙ map-append (bytes_of_list U32) (map (rank_elements k) (range_with_len 0 r)) (rank_elements k r ∷ []))
