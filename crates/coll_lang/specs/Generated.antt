-- The description with which large runs are made: 64 ranks, one input, and five kinds of steps. A number k chooses the values.
use Rattle.std.specs.Prelude.{ℕ, ◌+◌, ◌*◌, ◌%◌, List, [], ◌∷◌, None, false, map, codes}
use Rattle.std.specs.List.{range_with_len}
use Rattle.ptl_types.specs.declared.elements.ElemType.TheVariants.{U32}
use Rattle.ptl_types.specs.declared.elements.AtomicOp.TheVariants.{Sum, Max}
use Rattle.number_lists.specs.Numbers.{from_to}
use Rattle.coll_text.specs.Elements.{bytes_of_list}
use Rattle.coll_shape.specs.declared.types.Version.TheVariants.{One}
use Rattle.coll_shape.specs.declared.types.Buffer.{Buffer}
use Rattle.coll_shape.specs.declared.types.CollStep.TheVariants.{Barrier, Allreduce, Allgather, Alltoall, Scan}
use Rattle.coll_shape.specs.Outline.{Outline}
use Rattle.coll_lang.specs.Program.{Program}

-- what rank r holds at place i
abbrev pub value_at : ℕ → ℕ → ℕ → ℕ
value_at k r i = (k * (r + 1) + i) % 65536

-- the 64 elements of rank r
unfoldable pub rank_elements : ℕ → ℕ → List ℕ
rank_elements k r = map (value_at k r) (range_with_len 0 64)

-- the elements of each of the 64 ranks
unfoldable pub all_elements : ℕ → List (List ℕ)
all_elements k = map (rank_elements k) (range_with_len 0 64)

-- all 64 ranks
unfoldable pub everyone : List ℕ
everyone = from_to 0 64

-- a buffer of u32, of which every rank holds as many
abbrev pub even_words : List ℕ → ℕ → Buffer
even_words name count = record { name = name; ty = U32; spread = record { length = count; holders = everyone } }

abbrev pub generated_shape : Outline
generated_shape = record {
  version = One;
  ranks = 64;
  remote = false;
  groups = [];
  buffers =
      even_words (codes "a") 64 ∷ even_words (codes "b") 64 ∷ even_words (codes "c") 64 ∷ even_words (codes "d") 4096
      ∷ even_words (codes "e") 64 ∷ [];
  inputs = 1;
  steps = Allreduce Sum 0 1 ∷ Scan Max 0 2 ∷ Allgather 0 3 ∷ Alltoall 0 4 ∷ Barrier ∷ [];
  on = None ∷ None ∷ None ∷ None ∷ None ∷ [];
  prints = 0 ∷ 1 ∷ 2 ∷ 3 ∷ 4 ∷ [];
}

-- the lists of the input's elements, as bytes
abbrev pub generated_lists : ℕ → List (List ℕ)
generated_lists k = map (bytes_of_list U32) (all_elements k)

-- the whole description
abbrev pub generated : ℕ → Program
generated k = record { shape = generated_shape; inputs = generated_lists k ∷ []; choices = None }
