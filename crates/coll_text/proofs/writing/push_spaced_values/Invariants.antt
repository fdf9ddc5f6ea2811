use Rattle.std.proofs.Common.{◌≡◌, ◌∷◌, ◌++◌, length}
use Rattle.std.specs.List.{flat_map}
use Rattle.ptl_types.specs.Operations.{bytes_of}
use Rattle.coll_text.specs.Elements.{elements, value_word}
use Rattle.coll_text.proofs.writing.push_spaced_values.Given as goal

-- what stands there with what is left is the whole
abbrev pub invariant-loop-rest : goal.invariant-loop-rest
invariant-loop-rest l = record {
  whole : l.out.items ++ flat_map (λ x. 32 ∷ value_word l.fn.ty x) (elements l.fn.ty l.rest) ≡ l.fn.out.items ++ flat_map
      (λ x. 32 ∷ value_word l.fn.ty x) (elements l.fn.ty l.fn.bytes);
  is_size : l.size ≡ bytes_of l.fn.ty;
}

abbrev pub decreases-loop-rest : goal.decreases-loop-rest
decreases-loop-rest l = length l.rest
