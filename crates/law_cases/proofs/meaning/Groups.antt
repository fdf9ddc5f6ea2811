-- Each collective on a group.
use Rattle.std.specs.Prelude.{◌≡◌, [], ◌∷◌, Some, None, refl, false, codes}
use Rattle.ptl_types.specs.declared.elements.AtomicOp.TheVariants.{Max, Min, Prod, Sum}
use Rattle.ptl_types.specs.declared.elements.ElemType.TheVariants.{I16, U16}
use Rattle.coll_shape.specs.declared.types.Version.TheVariants.{Two}
use Rattle.coll_shape.specs.declared.types.CollStep.TheVariants.{Allgather, Allreduce, Alltoall, Barrier, Broadcast, Exscan, Gather}
use Rattle.coll_shape.specs.declared.types.CollStep.TheVariants.{Gatherv, Reduce, Reducescatter, Scan, Scatter}
use Rattle.coll_shape.specs.Outline.{Outline}
use Rattle.coll_shape.specs.Meaning.{meaning_of, meant_upto}

-- each of the first eight collectives on the ranks 1, 2 and 4 of five
abbrev each_once : Outline
each_once = record {
  version = Two;
  ranks = 5;
  remote = false;
  groups = record { name = codes "g"; members = 1 ∷ 2 ∷ 4 ∷ [] } ∷ [];
  buffers =
      record { name = codes "a"; ty = U16; spread = record { length = 3; holders = 0 ∷ 1 ∷ 2 ∷ 3 ∷ 4 ∷ [] } }
      ∷ record { name = codes "b"; ty = U16; spread = record { length = 3; holders = 1 ∷ 2 ∷ 4 ∷ [] } }
      ∷ record { name = codes "c"; ty = U16; spread = record { length = 3; holders = 2 ∷ [] } }
      ∷ record { name = codes "d"; ty = U16; spread = record { length = 3; holders = 1 ∷ 2 ∷ 4 ∷ [] } }
      ∷ record { name = codes "e"; ty = U16; spread = record { length = 9; holders = 4 ∷ [] } }
      ∷ record { name = codes "f"; ty = U16; spread = record { length = 9; holders = 1 ∷ 2 ∷ 4 ∷ [] } }
      ∷ record { name = codes "h"; ty = U16; spread = record { length = 3; holders = 1 ∷ 2 ∷ 4 ∷ [] } }
      ∷ record { name = codes "i"; ty = U16; spread = record { length = 3; holders = 1 ∷ 2 ∷ 4 ∷ [] } }
      ∷ [];
  inputs = 1;
  steps = Barrier ∷ (Broadcast 2 0 1) ∷ (Reduce 1 Sum 0 2) ∷ (Allreduce Max 0 3) ∷ (Gather 2 0 4) ∷ (Allgather 0 5) ∷ (Alltoall 0 6)
      ∷ (Scan Sum 0 7) ∷ [];
  on = Some 0 ∷ Some 0 ∷ Some 0 ∷ Some 0 ∷ Some 0 ∷ Some 0 ∷ Some 0 ∷ Some 0 ∷ [];
  prints = [];
}

each_once_is : meaning_of each_once (
    ((1 ∷ 0 ∷ 2 ∷ 0 ∷ 3 ∷ 0 ∷ [])
    ∷ (40 ∷ 0 ∷ 50 ∷ 0 ∷ 60 ∷ 0 ∷ [])
    ∷ (188 ∷ 2 ∷ 32 ∷ 3 ∷ 132 ∷ 3 ∷ [])
    ∷ (9 ∷ 0 ∷ 9 ∷ 0 ∷ 9 ∷ 0 ∷ [])
    ∷ (232 ∷ 3 ∷ 208 ∷ 7 ∷ 255 ∷ 255 ∷ [])
    ∷ [])
    ∷ []) ≡
    ((1 ∷ 0 ∷ 2 ∷ 0 ∷ 3 ∷ 0 ∷ [])
    ∷ (40 ∷ 0 ∷ 50 ∷ 0 ∷ 60 ∷ 0 ∷ [])
    ∷ (188 ∷ 2 ∷ 32 ∷ 3 ∷ 132 ∷ 3 ∷ [])
    ∷ (9 ∷ 0 ∷ 9 ∷ 0 ∷ 9 ∷ 0 ∷ [])
    ∷ (232 ∷ 3 ∷ 208 ∷ 7 ∷ 255 ∷ 255 ∷ [])
    ∷ [])
    ∷ ([]
    ∷ (232 ∷ 3 ∷ 208 ∷ 7 ∷ 255 ∷ 255 ∷ [])
    ∷ (232 ∷ 3 ∷ 208 ∷ 7 ∷ 255 ∷ 255 ∷ [])
    ∷ []
    ∷ (232 ∷ 3 ∷ 208 ∷ 7 ∷ 255 ∷ 255 ∷ [])
    ∷ [])
    ∷ ([]
    ∷ []
    ∷ (204 ∷ 6 ∷ 34 ∷ 11 ∷ 191 ∷ 3 ∷ [])
    ∷ []
    ∷ []
    ∷ [])
    ∷ ([]
    ∷ (232 ∷ 3 ∷ 208 ∷ 7 ∷ 255 ∷ 255 ∷ [])
    ∷ (232 ∷ 3 ∷ 208 ∷ 7 ∷ 255 ∷ 255 ∷ [])
    ∷ []
    ∷ (232 ∷ 3 ∷ 208 ∷ 7 ∷ 255 ∷ 255 ∷ [])
    ∷ [])
    ∷ ([]
    ∷ []
    ∷ []
    ∷ []
    ∷ (40 ∷ 0 ∷ 50 ∷ 0 ∷ 60 ∷ 0 ∷ 188 ∷ 2 ∷ 32 ∷ 3 ∷ 132 ∷ 3 ∷ 232 ∷ 3 ∷ 208 ∷ 7 ∷ 255 ∷ 255 ∷ [])
    ∷ [])
    ∷ ([]
    ∷ (40 ∷ 0 ∷ 50 ∷ 0 ∷ 60 ∷ 0 ∷ 188 ∷ 2 ∷ 32 ∷ 3 ∷ 132 ∷ 3 ∷ 232 ∷ 3 ∷ 208 ∷ 7 ∷ 255 ∷ 255 ∷ [])
    ∷ (40 ∷ 0 ∷ 50 ∷ 0 ∷ 60 ∷ 0 ∷ 188 ∷ 2 ∷ 32 ∷ 3 ∷ 132 ∷ 3 ∷ 232 ∷ 3 ∷ 208 ∷ 7 ∷ 255 ∷ 255 ∷ [])
    ∷ []
    ∷ (40 ∷ 0 ∷ 50 ∷ 0 ∷ 60 ∷ 0 ∷ 188 ∷ 2 ∷ 32 ∷ 3 ∷ 132 ∷ 3 ∷ 232 ∷ 3 ∷ 208 ∷ 7 ∷ 255 ∷ 255 ∷ [])
    ∷ [])
    ∷ ([]
    ∷ (40 ∷ 0 ∷ 188 ∷ 2 ∷ 232 ∷ 3 ∷ [])
    ∷ (50 ∷ 0 ∷ 32 ∷ 3 ∷ 208 ∷ 7 ∷ [])
    ∷ []
    ∷ (60 ∷ 0 ∷ 132 ∷ 3 ∷ 255 ∷ 255 ∷ [])
    ∷ [])
    ∷ ([]
    ∷ (40 ∷ 0 ∷ 50 ∷ 0 ∷ 60 ∷ 0 ∷ [])
    ∷ (228 ∷ 2 ∷ 82 ∷ 3 ∷ 192 ∷ 3 ∷ [])
    ∷ []
    ∷ (204 ∷ 6 ∷ 34 ∷ 11 ∷ 191 ∷ 3 ∷ [])
    ∷ [])
    ∷ []
unfolding meaning_of meant_upto
each_once_is = refl

-- each of the four later collectives on the ranks 0, 2 and 3 of four, and a gather of what some hold
abbrev later_once : Outline
later_once = record {
  version = Two;
  ranks = 4;
  remote = false;
  groups = record { name = codes "g"; members = 0 ∷ 2 ∷ 3 ∷ [] } ∷ record { name = codes "h"; members = 2 ∷ 3 ∷ [] } ∷ [];
  buffers =
      record { name = codes "a"; ty = I16; spread = record { length = 3; holders = 0 ∷ 1 ∷ 2 ∷ 3 ∷ [] } }
      ∷ record { name = codes "b"; ty = I16; spread = record { length = 1; holders = 0 ∷ 2 ∷ 3 ∷ [] } }
      ∷ record { name = codes "c"; ty = I16; spread = record { length = 1; holders = 0 ∷ 2 ∷ 3 ∷ [] } }
      ∷ record { name = codes "d"; ty = I16; spread = record { length = 3; holders = 2 ∷ 3 ∷ [] } }
      ∷ record { name = codes "e"; ty = I16; spread = record { length = 3; holders = 2 ∷ 3 ∷ [] } }
      ∷ record { name = codes "f"; ty = I16; spread = record { length = 6; holders = 3 ∷ [] } }
      ∷ record { name = codes "i"; ty = I16; spread = record { length = 6; holders = 0 ∷ [] } }
      ∷ [];
  inputs = 1;
  steps = (Scatter 1 0 1) ∷ (Reducescatter Sum 0 2) ∷ (Exscan Min 0 3) ∷ (Allreduce Prod 0 4) ∷ (Gatherv 2 4 5) ∷ (Gatherv 0 3 6) ∷ [];
  on = Some 0 ∷ Some 0 ∷ Some 0 ∷ Some 1 ∷ Some 0 ∷ None ∷ [];
  prints = [];
}

later_once_is : meaning_of later_once (
    ((1 ∷ 0 ∷ 2 ∷ 0 ∷ 253 ∷ 255 ∷ [])
    ∷ (40 ∷ 0 ∷ 50 ∷ 0 ∷ 60 ∷ 0 ∷ [])
    ∷ (68 ∷ 253 ∷ 32 ∷ 3 ∷ 132 ∷ 3 ∷ [])
    ∷ (9 ∷ 0 ∷ 0 ∷ 128 ∷ 5 ∷ 0 ∷ [])
    ∷ [])
    ∷ []) ≡
    ((1 ∷ 0 ∷ 2 ∷ 0 ∷ 253 ∷ 255 ∷ [])
    ∷ (40 ∷ 0 ∷ 50 ∷ 0 ∷ 60 ∷ 0 ∷ [])
    ∷ (68 ∷ 253 ∷ 32 ∷ 3 ∷ 132 ∷ 3 ∷ [])
    ∷ (9 ∷ 0 ∷ 0 ∷ 128 ∷ 5 ∷ 0 ∷ [])
    ∷ [])
    ∷ ((68 ∷ 253 ∷ [])
    ∷ []
    ∷ (32 ∷ 3 ∷ [])
    ∷ (132 ∷ 3 ∷ [])
    ∷ [])
    ∷ ((78 ∷ 253 ∷ [])
    ∷ []
    ∷ (34 ∷ 131 ∷ [])
    ∷ (134 ∷ 3 ∷ [])
    ∷ [])
    ∷ ([]
    ∷ []
    ∷ (1 ∷ 0 ∷ 2 ∷ 0 ∷ 253 ∷ 255 ∷ [])
    ∷ (68 ∷ 253 ∷ 2 ∷ 0 ∷ 253 ∷ 255 ∷ [])
    ∷ [])
    ∷ ([]
    ∷ []
    ∷ (100 ∷ 231 ∷ 0 ∷ 0 ∷ 148 ∷ 17 ∷ [])
    ∷ (100 ∷ 231 ∷ 0 ∷ 0 ∷ 148 ∷ 17 ∷ [])
    ∷ [])
    ∷ ([]
    ∷ []
    ∷ []
    ∷ (100 ∷ 231 ∷ 0 ∷ 0 ∷ 148 ∷ 17 ∷ 100 ∷ 231 ∷ 0 ∷ 0 ∷ 148 ∷ 17 ∷ [])
    ∷ [])
    ∷ ((1 ∷ 0 ∷ 2 ∷ 0 ∷ 253 ∷ 255 ∷ 68 ∷ 253 ∷ 2 ∷ 0 ∷ 253 ∷ 255 ∷ [])
    ∷ []
    ∷ []
    ∷ []
    ∷ [])
    ∷ []
unfolding meaning_of meant_upto
later_once_is = refl
