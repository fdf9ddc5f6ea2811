-- Worked descriptions: the inputs, and what each step makes of them.
use Rattle.std.specs.Prelude.{◌≡◌, [], ◌∷◌, Some, None, refl, false, codes}
use Rattle.ptl_types.specs.declared.elements.AtomicOp.TheVariants.{Land, Min, Prod, Sum}
use Rattle.ptl_types.specs.declared.elements.ElemType.TheVariants.{I16, I8, U16, U32, U8}
use Rattle.coll_shape.specs.declared.types.Version.TheVariants.{One, Two}
use Rattle.coll_shape.specs.declared.types.CollStep.TheVariants.{Allgather, Allreduce, Alltoall, Barrier, Broadcast, Exscan, Gather}
use Rattle.coll_shape.specs.declared.types.CollStep.TheVariants.{Gatherv, Reduce, Reducescatter, Scan, Scatter}
use Rattle.coll_shape.specs.Outline.{Outline}
use Rattle.coll_shape.specs.Meaning.{meaning_of, meant_upto}

-- a reduction by min on signed bytes, at rank 1
abbrev least : Outline
least = record {
  version = One;
  ranks = 3;
  remote = false;
  groups = [];
  buffers =
      record { name = codes "a"; ty = I8; spread = record { length = 1; holders = 0 ∷ 1 ∷ 2 ∷ [] } }
      ∷ record { name = codes "b"; ty = I8; spread = record { length = 1; holders = 1 ∷ [] } }
      ∷ [];
  inputs = 1;
  steps = (Reduce 1 Min 0 1) ∷ [];
  on = None ∷ [];
  prints = 1 ∷ [];
}

least_is : meaning_of least (
    ((128 ∷ [])
    ∷ (127 ∷ [])
    ∷ (0 ∷ [])
    ∷ [])
    ∷ []) ≡
    ((128 ∷ [])
    ∷ (127 ∷ [])
    ∷ (0 ∷ [])
    ∷ [])
    ∷ ([]
    ∷ (128 ∷ [])
    ∷ []
    ∷ [])
    ∷ []
unfolding meaning_of meant_upto
least_is = refl

-- a logical and over one rank
abbrev one_rank : Outline
one_rank = record {
  version = One;
  ranks = 1;
  remote = false;
  groups = [];
  buffers =
      record { name = codes "a"; ty = U8; spread = record { length = 1; holders = 0 ∷ [] } }
      ∷ record { name = codes "b"; ty = U8; spread = record { length = 1; holders = 0 ∷ [] } }
      ∷ [];
  inputs = 1;
  steps = (Allreduce Land 0 1) ∷ [];
  on = None ∷ [];
  prints = 1 ∷ [];
}

one_rank_is : meaning_of one_rank (
    ((5 ∷ [])
    ∷ [])
    ∷ []) ≡
    ((5 ∷ [])
    ∷ [])
    ∷ ((1 ∷ [])
    ∷ [])
    ∷ []
unfolding meaning_of meant_upto
one_rank_is = refl

-- a scan of two-byte sums
abbrev sums : Outline
sums = record {
  version = One;
  ranks = 5;
  remote = false;
  groups = [];
  buffers =
      record { name = codes "a"; ty = U16; spread = record { length = 1; holders = 0 ∷ 1 ∷ 2 ∷ 3 ∷ 4 ∷ [] } }
      ∷ record { name = codes "b"; ty = U16; spread = record { length = 1; holders = 0 ∷ 1 ∷ 2 ∷ 3 ∷ 4 ∷ [] } }
      ∷ [];
  inputs = 1;
  steps = (Scan Sum 0 1) ∷ [];
  on = None ∷ [];
  prints = 1 ∷ [];
}

sums_is : meaning_of sums (
    ((1 ∷ 0 ∷ [])
    ∷ (2 ∷ 0 ∷ [])
    ∷ (3 ∷ 0 ∷ [])
    ∷ (4 ∷ 0 ∷ [])
    ∷ (5 ∷ 0 ∷ [])
    ∷ [])
    ∷ []) ≡
    ((1 ∷ 0 ∷ [])
    ∷ (2 ∷ 0 ∷ [])
    ∷ (3 ∷ 0 ∷ [])
    ∷ (4 ∷ 0 ∷ [])
    ∷ (5 ∷ 0 ∷ [])
    ∷ [])
    ∷ ((1 ∷ 0 ∷ [])
    ∷ (3 ∷ 0 ∷ [])
    ∷ (6 ∷ 0 ∷ [])
    ∷ (10 ∷ 0 ∷ [])
    ∷ (15 ∷ 0 ∷ [])
    ∷ [])
    ∷ []
unfolding meaning_of meant_upto
sums_is = refl

-- an exchange of blocks
abbrev exchange : Outline
exchange = record {
  version = One;
  ranks = 2;
  remote = false;
  groups = [];
  buffers =
      record { name = codes "a"; ty = U8; spread = record { length = 2; holders = 0 ∷ 1 ∷ [] } }
      ∷ record { name = codes "b"; ty = U8; spread = record { length = 2; holders = 0 ∷ 1 ∷ [] } }
      ∷ [];
  inputs = 1;
  steps = (Alltoall 0 1) ∷ [];
  on = None ∷ [];
  prints = 1 ∷ [];
}

exchange_is : meaning_of exchange (
    ((1 ∷ 2 ∷ [])
    ∷ (3 ∷ 4 ∷ [])
    ∷ [])
    ∷ []) ≡
    ((1 ∷ 2 ∷ [])
    ∷ (3 ∷ 4 ∷ [])
    ∷ [])
    ∷ ((1 ∷ 3 ∷ [])
    ∷ (2 ∷ 4 ∷ [])
    ∷ [])
    ∷ []
unfolding meaning_of meant_upto
exchange_is = refl

-- a gather at rank 0, and one at all
abbrev gathered : Outline
gathered = record {
  version = One;
  ranks = 3;
  remote = false;
  groups = [];
  buffers =
      record { name = codes "a"; ty = U8; spread = record { length = 1; holders = 0 ∷ 1 ∷ 2 ∷ [] } }
      ∷ record { name = codes "g"; ty = U8; spread = record { length = 3; holders = 0 ∷ [] } }
      ∷ record { name = codes "h"; ty = U8; spread = record { length = 3; holders = 0 ∷ 1 ∷ 2 ∷ [] } }
      ∷ [];
  inputs = 1;
  steps = (Gather 0 0 1) ∷ (Allgather 0 2) ∷ [];
  on = None ∷ None ∷ [];
  prints = 1 ∷ 2 ∷ [];
}

gathered_is : meaning_of gathered (
    ((1 ∷ [])
    ∷ (2 ∷ [])
    ∷ (3 ∷ [])
    ∷ [])
    ∷ []) ≡
    ((1 ∷ [])
    ∷ (2 ∷ [])
    ∷ (3 ∷ [])
    ∷ [])
    ∷ ((1 ∷ 2 ∷ 3 ∷ [])
    ∷ []
    ∷ []
    ∷ [])
    ∷ ((1 ∷ 2 ∷ 3 ∷ [])
    ∷ (1 ∷ 2 ∷ 3 ∷ [])
    ∷ (1 ∷ 2 ∷ 3 ∷ [])
    ∷ [])
    ∷ []
unfolding meaning_of meant_upto
gathered_is = refl

-- a sum, a barrier, and a scan of the sum
abbrev in_a_row : Outline
in_a_row = record {
  version = One;
  ranks = 4;
  remote = false;
  groups = [];
  buffers =
      record { name = codes "a"; ty = U32; spread = record { length = 1; holders = 0 ∷ 1 ∷ 2 ∷ 3 ∷ [] } }
      ∷ record { name = codes "b"; ty = U32; spread = record { length = 1; holders = 0 ∷ 1 ∷ 2 ∷ 3 ∷ [] } }
      ∷ record { name = codes "c"; ty = U32; spread = record { length = 1; holders = 0 ∷ 1 ∷ 2 ∷ 3 ∷ [] } }
      ∷ [];
  inputs = 1;
  steps = (Allreduce Sum 0 1) ∷ Barrier ∷ (Scan Sum 1 2) ∷ [];
  on = None ∷ None ∷ None ∷ [];
  prints = 2 ∷ [];
}

in_a_row_is : meaning_of in_a_row (
    ((1 ∷ 0 ∷ 0 ∷ 0 ∷ [])
    ∷ (2 ∷ 0 ∷ 0 ∷ 0 ∷ [])
    ∷ (3 ∷ 0 ∷ 0 ∷ 0 ∷ [])
    ∷ (4 ∷ 0 ∷ 0 ∷ 0 ∷ [])
    ∷ [])
    ∷ []) ≡
    ((1 ∷ 0 ∷ 0 ∷ 0 ∷ [])
    ∷ (2 ∷ 0 ∷ 0 ∷ 0 ∷ [])
    ∷ (3 ∷ 0 ∷ 0 ∷ 0 ∷ [])
    ∷ (4 ∷ 0 ∷ 0 ∷ 0 ∷ [])
    ∷ [])
    ∷ ((10 ∷ 0 ∷ 0 ∷ 0 ∷ [])
    ∷ (10 ∷ 0 ∷ 0 ∷ 0 ∷ [])
    ∷ (10 ∷ 0 ∷ 0 ∷ 0 ∷ [])
    ∷ (10 ∷ 0 ∷ 0 ∷ 0 ∷ [])
    ∷ [])
    ∷ ((10 ∷ 0 ∷ 0 ∷ 0 ∷ [])
    ∷ (20 ∷ 0 ∷ 0 ∷ 0 ∷ [])
    ∷ (30 ∷ 0 ∷ 0 ∷ 0 ∷ [])
    ∷ (40 ∷ 0 ∷ 0 ∷ 0 ∷ [])
    ∷ [])
    ∷ []
unfolding meaning_of meant_upto
in_a_row_is = refl

-- steps of the ranks 1 and 3 alone; the root is a place
abbrev on_a_group : Outline
on_a_group = record {
  version = Two;
  ranks = 4;
  remote = false;
  groups = record { name = codes "odd"; members = 1 ∷ 3 ∷ [] } ∷ [];
  buffers =
      record { name = codes "a"; ty = U8; spread = record { length = 1; holders = 0 ∷ 1 ∷ 2 ∷ 3 ∷ [] } }
      ∷ record { name = codes "b"; ty = U8; spread = record { length = 1; holders = 1 ∷ 3 ∷ [] } }
      ∷ record { name = codes "c"; ty = U8; spread = record { length = 1; holders = 1 ∷ 3 ∷ [] } }
      ∷ [];
  inputs = 1;
  steps = (Allreduce Sum 0 1) ∷ (Broadcast 1 0 2) ∷ [];
  on = Some 0 ∷ Some 0 ∷ [];
  prints = 1 ∷ 2 ∷ [];
}

on_a_group_is : meaning_of on_a_group (
    ((1 ∷ [])
    ∷ (2 ∷ [])
    ∷ (3 ∷ [])
    ∷ (4 ∷ [])
    ∷ [])
    ∷ []) ≡
    ((1 ∷ [])
    ∷ (2 ∷ [])
    ∷ (3 ∷ [])
    ∷ (4 ∷ [])
    ∷ [])
    ∷ ([]
    ∷ (6 ∷ [])
    ∷ []
    ∷ (6 ∷ [])
    ∷ [])
    ∷ ([]
    ∷ (4 ∷ [])
    ∷ []
    ∷ (4 ∷ [])
    ∷ [])
    ∷ []
unfolding meaning_of meant_upto
on_a_group_is = refl

-- a product that wraps in sixteen bits
abbrev wraps : Outline
wraps = record {
  version = One;
  ranks = 2;
  remote = false;
  groups = [];
  buffers =
      record { name = codes "a"; ty = I16; spread = record { length = 1; holders = 0 ∷ 1 ∷ [] } }
      ∷ record { name = codes "m"; ty = I16; spread = record { length = 1; holders = 0 ∷ 1 ∷ [] } }
      ∷ [];
  inputs = 1;
  steps = (Allreduce Prod 0 1) ∷ [];
  on = None ∷ [];
  prints = 1 ∷ [];
}

wraps_is : meaning_of wraps (
    ((44 ∷ 1 ∷ [])
    ∷ (44 ∷ 1 ∷ [])
    ∷ [])
    ∷ []) ≡
    ((44 ∷ 1 ∷ [])
    ∷ (44 ∷ 1 ∷ [])
    ∷ [])
    ∷ ((144 ∷ 95 ∷ [])
    ∷ (144 ∷ 95 ∷ [])
    ∷ [])
    ∷ []
unfolding meaning_of meant_upto
wraps_is = refl

-- a scatter, a sum in blocks and an exclusive scan
abbrev blocks_and_before : Outline
blocks_and_before = record {
  version = Two;
  ranks = 2;
  remote = false;
  groups = [];
  buffers =
      record { name = codes "a"; ty = U8; spread = record { length = 2; holders = 0 ∷ 1 ∷ [] } }
      ∷ record { name = codes "b"; ty = U8; spread = record { length = 1; holders = 0 ∷ 1 ∷ [] } }
      ∷ record { name = codes "c"; ty = U8; spread = record { length = 1; holders = 0 ∷ 1 ∷ [] } }
      ∷ record { name = codes "d"; ty = U8; spread = record { length = 2; holders = 1 ∷ [] } }
      ∷ [];
  inputs = 1;
  steps = (Scatter 1 0 1) ∷ (Reducescatter Sum 0 2) ∷ (Exscan Sum 0 3) ∷ [];
  on = None ∷ None ∷ None ∷ [];
  prints = 1 ∷ 2 ∷ 3 ∷ [];
}

blocks_and_before_is : meaning_of blocks_and_before (
    ((1 ∷ 2 ∷ [])
    ∷ (3 ∷ 4 ∷ [])
    ∷ [])
    ∷ []) ≡
    ((1 ∷ 2 ∷ [])
    ∷ (3 ∷ 4 ∷ [])
    ∷ [])
    ∷ ((3 ∷ [])
    ∷ (4 ∷ [])
    ∷ [])
    ∷ ((4 ∷ [])
    ∷ (6 ∷ [])
    ∷ [])
    ∷ ([]
    ∷ (1 ∷ 2 ∷ [])
    ∷ [])
    ∷ []
unfolding meaning_of meant_upto
blocks_and_before_is = refl

-- a gather of what two of three ranks hold
abbrev some_hold : Outline
some_hold = record {
  version = Two;
  ranks = 3;
  remote = false;
  groups = record { name = codes "g"; members = 0 ∷ 2 ∷ [] } ∷ [];
  buffers =
      record { name = codes "a"; ty = U8; spread = record { length = 1; holders = 0 ∷ 1 ∷ 2 ∷ [] } }
      ∷ record { name = codes "b"; ty = U8; spread = record { length = 1; holders = 0 ∷ 2 ∷ [] } }
      ∷ record { name = codes "c"; ty = U8; spread = record { length = 2; holders = 1 ∷ [] } }
      ∷ [];
  inputs = 1;
  steps = (Allreduce Sum 0 1) ∷ (Gatherv 1 1 2) ∷ [];
  on = Some 0 ∷ None ∷ [];
  prints = 2 ∷ [];
}

some_hold_is : meaning_of some_hold (
    ((1 ∷ [])
    ∷ (2 ∷ [])
    ∷ (3 ∷ [])
    ∷ [])
    ∷ []) ≡
    ((1 ∷ [])
    ∷ (2 ∷ [])
    ∷ (3 ∷ [])
    ∷ [])
    ∷ ((4 ∷ [])
    ∷ []
    ∷ (4 ∷ [])
    ∷ [])
    ∷ ([]
    ∷ (4 ∷ 4 ∷ [])
    ∷ []
    ∷ [])
    ∷ []
unfolding meaning_of meant_upto
some_hold_is = refl
