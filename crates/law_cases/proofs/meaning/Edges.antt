-- Each operation at the ends of its types.
use Rattle.std.specs.Prelude.{◌≡◌, [], ◌∷◌, None, refl, false, codes}
use Rattle.ptl_types.specs.declared.elements.AtomicOp.TheVariants.{Band, Bor, Bxor, Land, Lor, Lxor, Max, Min, Prod, Sum}
use Rattle.ptl_types.specs.declared.elements.ElemType.TheVariants.{I64, I8, U16}
use Rattle.coll_shape.specs.declared.types.Version.TheVariants.{One}
use Rattle.coll_shape.specs.declared.types.CollStep.TheVariants.{Allreduce}
use Rattle.coll_shape.specs.Outline.{Outline}
use Rattle.coll_shape.specs.Meaning.{meaning_of, meant_upto}

-- each operation at the ends of a signed byte
abbrev signed_edges : Outline
signed_edges = record {
  version = One;
  ranks = 2;
  remote = false;
  groups = [];
  buffers =
      record { name = codes "a"; ty = I8; spread = record { length = 8; holders = 0 ∷ 1 ∷ [] } }
      ∷ record { name = codes "min"; ty = I8; spread = record { length = 8; holders = 0 ∷ 1 ∷ [] } }
      ∷ record { name = codes "max"; ty = I8; spread = record { length = 8; holders = 0 ∷ 1 ∷ [] } }
      ∷ record { name = codes "sum"; ty = I8; spread = record { length = 8; holders = 0 ∷ 1 ∷ [] } }
      ∷ record { name = codes "prod"; ty = I8; spread = record { length = 8; holders = 0 ∷ 1 ∷ [] } }
      ∷ record { name = codes "lor"; ty = I8; spread = record { length = 8; holders = 0 ∷ 1 ∷ [] } }
      ∷ record { name = codes "land"; ty = I8; spread = record { length = 8; holders = 0 ∷ 1 ∷ [] } }
      ∷ record { name = codes "bor"; ty = I8; spread = record { length = 8; holders = 0 ∷ 1 ∷ [] } }
      ∷ record { name = codes "band"; ty = I8; spread = record { length = 8; holders = 0 ∷ 1 ∷ [] } }
      ∷ record { name = codes "lxor"; ty = I8; spread = record { length = 8; holders = 0 ∷ 1 ∷ [] } }
      ∷ record { name = codes "bxor"; ty = I8; spread = record { length = 8; holders = 0 ∷ 1 ∷ [] } }
      ∷ [];
  inputs = 1;
  steps = (Allreduce Min 0 1) ∷ (Allreduce Max 0 2) ∷ (Allreduce Sum 0 3) ∷ (Allreduce Prod 0 4) ∷ (Allreduce Lor 0 5)
      ∷ (Allreduce Land 0 6) ∷ (Allreduce Bor 0 7) ∷ (Allreduce Band 0 8) ∷ (Allreduce Lxor 0 9) ∷ (Allreduce Bxor 0 10) ∷ [];
  on = None ∷ None ∷ None ∷ None ∷ None ∷ None ∷ None ∷ None ∷ None ∷ None ∷ [];
  prints = [];
}

signed_edges_is : meaning_of signed_edges (
    ((128 ∷ 127 ∷ 255 ∷ 0 ∷ 128 ∷ 5 ∷ 255 ∷ 0 ∷ [])
    ∷ (127 ∷ 1 ∷ 255 ∷ 0 ∷ 128 ∷ 250 ∷ 0 ∷ 7 ∷ [])
    ∷ [])
    ∷ []) ≡
    ((128 ∷ 127 ∷ 255 ∷ 0 ∷ 128 ∷ 5 ∷ 255 ∷ 0 ∷ [])
    ∷ (127 ∷ 1 ∷ 255 ∷ 0 ∷ 128 ∷ 250 ∷ 0 ∷ 7 ∷ [])
    ∷ [])
    ∷ ((128 ∷ 1 ∷ 255 ∷ 0 ∷ 128 ∷ 250 ∷ 255 ∷ 0 ∷ [])
    ∷ (128 ∷ 1 ∷ 255 ∷ 0 ∷ 128 ∷ 250 ∷ 255 ∷ 0 ∷ [])
    ∷ [])
    ∷ ((127 ∷ 127 ∷ 255 ∷ 0 ∷ 128 ∷ 5 ∷ 0 ∷ 7 ∷ [])
    ∷ (127 ∷ 127 ∷ 255 ∷ 0 ∷ 128 ∷ 5 ∷ 0 ∷ 7 ∷ [])
    ∷ [])
    ∷ ((255 ∷ 128 ∷ 254 ∷ 0 ∷ 0 ∷ 255 ∷ 255 ∷ 7 ∷ [])
    ∷ (255 ∷ 128 ∷ 254 ∷ 0 ∷ 0 ∷ 255 ∷ 255 ∷ 7 ∷ [])
    ∷ [])
    ∷ ((128 ∷ 127 ∷ 1 ∷ 0 ∷ 0 ∷ 226 ∷ 0 ∷ 0 ∷ [])
    ∷ (128 ∷ 127 ∷ 1 ∷ 0 ∷ 0 ∷ 226 ∷ 0 ∷ 0 ∷ [])
    ∷ [])
    ∷ ((1 ∷ 1 ∷ 1 ∷ 0 ∷ 1 ∷ 1 ∷ 1 ∷ 1 ∷ [])
    ∷ (1 ∷ 1 ∷ 1 ∷ 0 ∷ 1 ∷ 1 ∷ 1 ∷ 1 ∷ [])
    ∷ [])
    ∷ ((1 ∷ 1 ∷ 1 ∷ 0 ∷ 1 ∷ 1 ∷ 0 ∷ 0 ∷ [])
    ∷ (1 ∷ 1 ∷ 1 ∷ 0 ∷ 1 ∷ 1 ∷ 0 ∷ 0 ∷ [])
    ∷ [])
    ∷ ((255 ∷ 127 ∷ 255 ∷ 0 ∷ 128 ∷ 255 ∷ 255 ∷ 7 ∷ [])
    ∷ (255 ∷ 127 ∷ 255 ∷ 0 ∷ 128 ∷ 255 ∷ 255 ∷ 7 ∷ [])
    ∷ [])
    ∷ ((0 ∷ 1 ∷ 255 ∷ 0 ∷ 128 ∷ 0 ∷ 0 ∷ 0 ∷ [])
    ∷ (0 ∷ 1 ∷ 255 ∷ 0 ∷ 128 ∷ 0 ∷ 0 ∷ 0 ∷ [])
    ∷ [])
    ∷ ((0 ∷ 0 ∷ 0 ∷ 0 ∷ 0 ∷ 0 ∷ 1 ∷ 1 ∷ [])
    ∷ (0 ∷ 0 ∷ 0 ∷ 0 ∷ 0 ∷ 0 ∷ 1 ∷ 1 ∷ [])
    ∷ [])
    ∷ ((255 ∷ 126 ∷ 0 ∷ 0 ∷ 0 ∷ 255 ∷ 255 ∷ 7 ∷ [])
    ∷ (255 ∷ 126 ∷ 0 ∷ 0 ∷ 0 ∷ 255 ∷ 255 ∷ 7 ∷ [])
    ∷ [])
    ∷ []
unfolding meaning_of meant_upto
signed_edges_is = refl

-- each operation at the ends of two bytes
abbrev unsigned_edges : Outline
unsigned_edges = record {
  version = One;
  ranks = 2;
  remote = false;
  groups = [];
  buffers =
      record { name = codes "a"; ty = U16; spread = record { length = 6; holders = 0 ∷ 1 ∷ [] } }
      ∷ record { name = codes "min"; ty = U16; spread = record { length = 6; holders = 0 ∷ 1 ∷ [] } }
      ∷ record { name = codes "max"; ty = U16; spread = record { length = 6; holders = 0 ∷ 1 ∷ [] } }
      ∷ record { name = codes "sum"; ty = U16; spread = record { length = 6; holders = 0 ∷ 1 ∷ [] } }
      ∷ record { name = codes "prod"; ty = U16; spread = record { length = 6; holders = 0 ∷ 1 ∷ [] } }
      ∷ record { name = codes "lor"; ty = U16; spread = record { length = 6; holders = 0 ∷ 1 ∷ [] } }
      ∷ record { name = codes "land"; ty = U16; spread = record { length = 6; holders = 0 ∷ 1 ∷ [] } }
      ∷ record { name = codes "bor"; ty = U16; spread = record { length = 6; holders = 0 ∷ 1 ∷ [] } }
      ∷ record { name = codes "band"; ty = U16; spread = record { length = 6; holders = 0 ∷ 1 ∷ [] } }
      ∷ record { name = codes "lxor"; ty = U16; spread = record { length = 6; holders = 0 ∷ 1 ∷ [] } }
      ∷ record { name = codes "bxor"; ty = U16; spread = record { length = 6; holders = 0 ∷ 1 ∷ [] } }
      ∷ [];
  inputs = 1;
  steps = (Allreduce Min 0 1) ∷ (Allreduce Max 0 2) ∷ (Allreduce Sum 0 3) ∷ (Allreduce Prod 0 4) ∷ (Allreduce Lor 0 5)
      ∷ (Allreduce Land 0 6) ∷ (Allreduce Bor 0 7) ∷ (Allreduce Band 0 8) ∷ (Allreduce Lxor 0 9) ∷ (Allreduce Bxor 0 10) ∷ [];
  on = None ∷ None ∷ None ∷ None ∷ None ∷ None ∷ None ∷ None ∷ None ∷ None ∷ [];
  prints = [];
}

unsigned_edges_is : meaning_of unsigned_edges (
    ((255 ∷ 255 ∷ 0 ∷ 0 ∷ 1 ∷ 0 ∷ 0 ∷ 128 ∷ 255 ∷ 255 ∷ 0 ∷ 1 ∷ [])
    ∷ (1 ∷ 0 ∷ 0 ∷ 0 ∷ 255 ∷ 255 ∷ 0 ∷ 128 ∷ 255 ∷ 255 ∷ 255 ∷ 0 ∷ [])
    ∷ [])
    ∷ []) ≡
    ((255 ∷ 255 ∷ 0 ∷ 0 ∷ 1 ∷ 0 ∷ 0 ∷ 128 ∷ 255 ∷ 255 ∷ 0 ∷ 1 ∷ [])
    ∷ (1 ∷ 0 ∷ 0 ∷ 0 ∷ 255 ∷ 255 ∷ 0 ∷ 128 ∷ 255 ∷ 255 ∷ 255 ∷ 0 ∷ [])
    ∷ [])
    ∷ ((1 ∷ 0 ∷ 0 ∷ 0 ∷ 1 ∷ 0 ∷ 0 ∷ 128 ∷ 255 ∷ 255 ∷ 255 ∷ 0 ∷ [])
    ∷ (1 ∷ 0 ∷ 0 ∷ 0 ∷ 1 ∷ 0 ∷ 0 ∷ 128 ∷ 255 ∷ 255 ∷ 255 ∷ 0 ∷ [])
    ∷ [])
    ∷ ((255 ∷ 255 ∷ 0 ∷ 0 ∷ 255 ∷ 255 ∷ 0 ∷ 128 ∷ 255 ∷ 255 ∷ 0 ∷ 1 ∷ [])
    ∷ (255 ∷ 255 ∷ 0 ∷ 0 ∷ 255 ∷ 255 ∷ 0 ∷ 128 ∷ 255 ∷ 255 ∷ 0 ∷ 1 ∷ [])
    ∷ [])
    ∷ ((0 ∷ 0 ∷ 0 ∷ 0 ∷ 0 ∷ 0 ∷ 0 ∷ 0 ∷ 254 ∷ 255 ∷ 255 ∷ 1 ∷ [])
    ∷ (0 ∷ 0 ∷ 0 ∷ 0 ∷ 0 ∷ 0 ∷ 0 ∷ 0 ∷ 254 ∷ 255 ∷ 255 ∷ 1 ∷ [])
    ∷ [])
    ∷ ((255 ∷ 255 ∷ 0 ∷ 0 ∷ 255 ∷ 255 ∷ 0 ∷ 0 ∷ 1 ∷ 0 ∷ 0 ∷ 255 ∷ [])
    ∷ (255 ∷ 255 ∷ 0 ∷ 0 ∷ 255 ∷ 255 ∷ 0 ∷ 0 ∷ 1 ∷ 0 ∷ 0 ∷ 255 ∷ [])
    ∷ [])
    ∷ ((1 ∷ 0 ∷ 0 ∷ 0 ∷ 1 ∷ 0 ∷ 1 ∷ 0 ∷ 1 ∷ 0 ∷ 1 ∷ 0 ∷ [])
    ∷ (1 ∷ 0 ∷ 0 ∷ 0 ∷ 1 ∷ 0 ∷ 1 ∷ 0 ∷ 1 ∷ 0 ∷ 1 ∷ 0 ∷ [])
    ∷ [])
    ∷ ((1 ∷ 0 ∷ 0 ∷ 0 ∷ 1 ∷ 0 ∷ 1 ∷ 0 ∷ 1 ∷ 0 ∷ 1 ∷ 0 ∷ [])
    ∷ (1 ∷ 0 ∷ 0 ∷ 0 ∷ 1 ∷ 0 ∷ 1 ∷ 0 ∷ 1 ∷ 0 ∷ 1 ∷ 0 ∷ [])
    ∷ [])
    ∷ ((255 ∷ 255 ∷ 0 ∷ 0 ∷ 255 ∷ 255 ∷ 0 ∷ 128 ∷ 255 ∷ 255 ∷ 255 ∷ 1 ∷ [])
    ∷ (255 ∷ 255 ∷ 0 ∷ 0 ∷ 255 ∷ 255 ∷ 0 ∷ 128 ∷ 255 ∷ 255 ∷ 255 ∷ 1 ∷ [])
    ∷ [])
    ∷ ((1 ∷ 0 ∷ 0 ∷ 0 ∷ 1 ∷ 0 ∷ 0 ∷ 128 ∷ 255 ∷ 255 ∷ 0 ∷ 0 ∷ [])
    ∷ (1 ∷ 0 ∷ 0 ∷ 0 ∷ 1 ∷ 0 ∷ 0 ∷ 128 ∷ 255 ∷ 255 ∷ 0 ∷ 0 ∷ [])
    ∷ [])
    ∷ ((0 ∷ 0 ∷ 0 ∷ 0 ∷ 0 ∷ 0 ∷ 0 ∷ 0 ∷ 0 ∷ 0 ∷ 0 ∷ 0 ∷ [])
    ∷ (0 ∷ 0 ∷ 0 ∷ 0 ∷ 0 ∷ 0 ∷ 0 ∷ 0 ∷ 0 ∷ 0 ∷ 0 ∷ 0 ∷ [])
    ∷ [])
    ∷ ((254 ∷ 255 ∷ 0 ∷ 0 ∷ 254 ∷ 255 ∷ 0 ∷ 0 ∷ 0 ∷ 0 ∷ 255 ∷ 1 ∷ [])
    ∷ (254 ∷ 255 ∷ 0 ∷ 0 ∷ 254 ∷ 255 ∷ 0 ∷ 0 ∷ 0 ∷ 0 ∷ 255 ∷ 1 ∷ [])
    ∷ [])
    ∷ []
unfolding meaning_of meant_upto
unsigned_edges_is = refl

-- each operation at the ends of eight signed bytes
abbrev wide_edges : Outline
wide_edges = record {
  version = One;
  ranks = 2;
  remote = false;
  groups = [];
  buffers =
      record { name = codes "a"; ty = I64; spread = record { length = 3; holders = 0 ∷ 1 ∷ [] } }
      ∷ record { name = codes "min"; ty = I64; spread = record { length = 3; holders = 0 ∷ 1 ∷ [] } }
      ∷ record { name = codes "max"; ty = I64; spread = record { length = 3; holders = 0 ∷ 1 ∷ [] } }
      ∷ record { name = codes "sum"; ty = I64; spread = record { length = 3; holders = 0 ∷ 1 ∷ [] } }
      ∷ record { name = codes "prod"; ty = I64; spread = record { length = 3; holders = 0 ∷ 1 ∷ [] } }
      ∷ record { name = codes "lor"; ty = I64; spread = record { length = 3; holders = 0 ∷ 1 ∷ [] } }
      ∷ record { name = codes "land"; ty = I64; spread = record { length = 3; holders = 0 ∷ 1 ∷ [] } }
      ∷ record { name = codes "bor"; ty = I64; spread = record { length = 3; holders = 0 ∷ 1 ∷ [] } }
      ∷ record { name = codes "band"; ty = I64; spread = record { length = 3; holders = 0 ∷ 1 ∷ [] } }
      ∷ record { name = codes "lxor"; ty = I64; spread = record { length = 3; holders = 0 ∷ 1 ∷ [] } }
      ∷ record { name = codes "bxor"; ty = I64; spread = record { length = 3; holders = 0 ∷ 1 ∷ [] } }
      ∷ [];
  inputs = 1;
  steps = (Allreduce Min 0 1) ∷ (Allreduce Max 0 2) ∷ (Allreduce Sum 0 3) ∷ (Allreduce Prod 0 4) ∷ (Allreduce Lor 0 5)
      ∷ (Allreduce Land 0 6) ∷ (Allreduce Bor 0 7) ∷ (Allreduce Band 0 8) ∷ (Allreduce Lxor 0 9) ∷ (Allreduce Bxor 0 10) ∷ [];
  on = None ∷ None ∷ None ∷ None ∷ None ∷ None ∷ None ∷ None ∷ None ∷ None ∷ [];
  prints = [];
}

wide_edges_is : meaning_of wide_edges (
    ((0 ∷ 0 ∷ 0 ∷ 0 ∷ 0 ∷ 0 ∷ 0 ∷ 128 ∷ 255 ∷ 255 ∷ 255 ∷ 255 ∷ 255 ∷ 255 ∷ 255 ∷ 127 ∷ 255 ∷ 255 ∷ 255 ∷ 255 ∷ 255 ∷ 255 ∷ 255 ∷ 255 ∷ [])
    ∷ (255 ∷ 255 ∷ 255 ∷ 255 ∷ 255 ∷ 255 ∷ 255 ∷ 255 ∷ 1 ∷ 0 ∷ 0 ∷ 0 ∷ 0 ∷ 0 ∷ 0 ∷ 0 ∷ 52 ∷ 243 ∷ 4 ∷ 181 ∷ 0 ∷ 0 ∷ 0 ∷ 0 ∷ [])
    ∷ [])
    ∷ []) ≡
    ((0 ∷ 0 ∷ 0 ∷ 0 ∷ 0 ∷ 0 ∷ 0 ∷ 128 ∷ 255 ∷ 255 ∷ 255 ∷ 255 ∷ 255 ∷ 255 ∷ 255 ∷ 127 ∷ 255 ∷ 255 ∷ 255 ∷ 255 ∷ 255 ∷ 255 ∷ 255 ∷ 255 ∷ [])
    ∷ (255 ∷ 255 ∷ 255 ∷ 255 ∷ 255 ∷ 255 ∷ 255 ∷ 255 ∷ 1 ∷ 0 ∷ 0 ∷ 0 ∷ 0 ∷ 0 ∷ 0 ∷ 0 ∷ 52 ∷ 243 ∷ 4 ∷ 181 ∷ 0 ∷ 0 ∷ 0 ∷ 0 ∷ [])
    ∷ [])
    ∷ ((0 ∷ 0 ∷ 0 ∷ 0 ∷ 0 ∷ 0 ∷ 0 ∷ 128 ∷ 1 ∷ 0 ∷ 0 ∷ 0 ∷ 0 ∷ 0 ∷ 0 ∷ 0 ∷ 255 ∷ 255 ∷ 255 ∷ 255 ∷ 255 ∷ 255 ∷ 255 ∷ 255 ∷ [])
    ∷ (0 ∷ 0 ∷ 0 ∷ 0 ∷ 0 ∷ 0 ∷ 0 ∷ 128 ∷ 1 ∷ 0 ∷ 0 ∷ 0 ∷ 0 ∷ 0 ∷ 0 ∷ 0 ∷ 255 ∷ 255 ∷ 255 ∷ 255 ∷ 255 ∷ 255 ∷ 255 ∷ 255 ∷ [])
    ∷ [])
    ∷ ((255 ∷ 255 ∷ 255 ∷ 255 ∷ 255 ∷ 255 ∷ 255 ∷ 255 ∷ 255 ∷ 255 ∷ 255 ∷ 255 ∷ 255 ∷ 255 ∷ 255 ∷ 127 ∷ 52 ∷ 243 ∷ 4 ∷ 181 ∷ 0 ∷ 0 ∷ 0 ∷ 0
    ∷ [])
    ∷ (255 ∷ 255 ∷ 255 ∷ 255 ∷ 255 ∷ 255 ∷ 255 ∷ 255 ∷ 255 ∷ 255 ∷ 255 ∷ 255 ∷ 255 ∷ 255 ∷ 255 ∷ 127 ∷ 52 ∷ 243 ∷ 4 ∷ 181 ∷ 0 ∷ 0 ∷ 0 ∷ 0
    ∷ [])
    ∷ [])
    ∷ ((255 ∷ 255 ∷ 255 ∷ 255 ∷ 255 ∷ 255 ∷ 255 ∷ 127 ∷ 0 ∷ 0 ∷ 0 ∷ 0 ∷ 0 ∷ 0 ∷ 0 ∷ 128 ∷ 51 ∷ 243 ∷ 4 ∷ 181 ∷ 0 ∷ 0 ∷ 0 ∷ 0 ∷ [])
    ∷ (255 ∷ 255 ∷ 255 ∷ 255 ∷ 255 ∷ 255 ∷ 255 ∷ 127 ∷ 0 ∷ 0 ∷ 0 ∷ 0 ∷ 0 ∷ 0 ∷ 0 ∷ 128 ∷ 51 ∷ 243 ∷ 4 ∷ 181 ∷ 0 ∷ 0 ∷ 0 ∷ 0 ∷ [])
    ∷ [])
    ∷ ((0 ∷ 0 ∷ 0 ∷ 0 ∷ 0 ∷ 0 ∷ 0 ∷ 128 ∷ 255 ∷ 255 ∷ 255 ∷ 255 ∷ 255 ∷ 255 ∷ 255 ∷ 127 ∷ 204 ∷ 12 ∷ 251 ∷ 74 ∷ 255 ∷ 255 ∷ 255 ∷ 255 ∷ [])
    ∷ (0 ∷ 0 ∷ 0 ∷ 0 ∷ 0 ∷ 0 ∷ 0 ∷ 128 ∷ 255 ∷ 255 ∷ 255 ∷ 255 ∷ 255 ∷ 255 ∷ 255 ∷ 127 ∷ 204 ∷ 12 ∷ 251 ∷ 74 ∷ 255 ∷ 255 ∷ 255 ∷ 255 ∷ [])
    ∷ [])
    ∷ ((1 ∷ 0 ∷ 0 ∷ 0 ∷ 0 ∷ 0 ∷ 0 ∷ 0 ∷ 1 ∷ 0 ∷ 0 ∷ 0 ∷ 0 ∷ 0 ∷ 0 ∷ 0 ∷ 1 ∷ 0 ∷ 0 ∷ 0 ∷ 0 ∷ 0 ∷ 0 ∷ 0 ∷ [])
    ∷ (1 ∷ 0 ∷ 0 ∷ 0 ∷ 0 ∷ 0 ∷ 0 ∷ 0 ∷ 1 ∷ 0 ∷ 0 ∷ 0 ∷ 0 ∷ 0 ∷ 0 ∷ 0 ∷ 1 ∷ 0 ∷ 0 ∷ 0 ∷ 0 ∷ 0 ∷ 0 ∷ 0 ∷ [])
    ∷ [])
    ∷ ((1 ∷ 0 ∷ 0 ∷ 0 ∷ 0 ∷ 0 ∷ 0 ∷ 0 ∷ 1 ∷ 0 ∷ 0 ∷ 0 ∷ 0 ∷ 0 ∷ 0 ∷ 0 ∷ 1 ∷ 0 ∷ 0 ∷ 0 ∷ 0 ∷ 0 ∷ 0 ∷ 0 ∷ [])
    ∷ (1 ∷ 0 ∷ 0 ∷ 0 ∷ 0 ∷ 0 ∷ 0 ∷ 0 ∷ 1 ∷ 0 ∷ 0 ∷ 0 ∷ 0 ∷ 0 ∷ 0 ∷ 0 ∷ 1 ∷ 0 ∷ 0 ∷ 0 ∷ 0 ∷ 0 ∷ 0 ∷ 0 ∷ [])
    ∷ [])
    ∷ ((255 ∷ 255 ∷ 255 ∷ 255 ∷ 255 ∷ 255 ∷ 255 ∷ 255 ∷ 255 ∷ 255 ∷ 255 ∷ 255 ∷ 255 ∷ 255 ∷ 255 ∷ 127 ∷ 255 ∷ 255 ∷ 255 ∷ 255 ∷ 255 ∷ 255
    ∷ 255 ∷ 255 ∷ [])
    ∷ (255 ∷ 255 ∷ 255 ∷ 255 ∷ 255 ∷ 255 ∷ 255 ∷ 255 ∷ 255 ∷ 255 ∷ 255 ∷ 255 ∷ 255 ∷ 255 ∷ 255 ∷ 127 ∷ 255 ∷ 255 ∷ 255 ∷ 255 ∷ 255 ∷ 255
    ∷ 255 ∷ 255 ∷ [])
    ∷ [])
    ∷ ((0 ∷ 0 ∷ 0 ∷ 0 ∷ 0 ∷ 0 ∷ 0 ∷ 128 ∷ 1 ∷ 0 ∷ 0 ∷ 0 ∷ 0 ∷ 0 ∷ 0 ∷ 0 ∷ 52 ∷ 243 ∷ 4 ∷ 181 ∷ 0 ∷ 0 ∷ 0 ∷ 0 ∷ [])
    ∷ (0 ∷ 0 ∷ 0 ∷ 0 ∷ 0 ∷ 0 ∷ 0 ∷ 128 ∷ 1 ∷ 0 ∷ 0 ∷ 0 ∷ 0 ∷ 0 ∷ 0 ∷ 0 ∷ 52 ∷ 243 ∷ 4 ∷ 181 ∷ 0 ∷ 0 ∷ 0 ∷ 0 ∷ [])
    ∷ [])
    ∷ ((0 ∷ 0 ∷ 0 ∷ 0 ∷ 0 ∷ 0 ∷ 0 ∷ 0 ∷ 0 ∷ 0 ∷ 0 ∷ 0 ∷ 0 ∷ 0 ∷ 0 ∷ 0 ∷ 0 ∷ 0 ∷ 0 ∷ 0 ∷ 0 ∷ 0 ∷ 0 ∷ 0 ∷ [])
    ∷ (0 ∷ 0 ∷ 0 ∷ 0 ∷ 0 ∷ 0 ∷ 0 ∷ 0 ∷ 0 ∷ 0 ∷ 0 ∷ 0 ∷ 0 ∷ 0 ∷ 0 ∷ 0 ∷ 0 ∷ 0 ∷ 0 ∷ 0 ∷ 0 ∷ 0 ∷ 0 ∷ 0 ∷ [])
    ∷ [])
    ∷ ((255 ∷ 255 ∷ 255 ∷ 255 ∷ 255 ∷ 255 ∷ 255 ∷ 127 ∷ 254 ∷ 255 ∷ 255 ∷ 255 ∷ 255 ∷ 255 ∷ 255 ∷ 127 ∷ 203 ∷ 12 ∷ 251 ∷ 74 ∷ 255 ∷ 255
    ∷ 255 ∷ 255 ∷ [])
    ∷ (255 ∷ 255 ∷ 255 ∷ 255 ∷ 255 ∷ 255 ∷ 255 ∷ 127 ∷ 254 ∷ 255 ∷ 255 ∷ 255 ∷ 255 ∷ 255 ∷ 255 ∷ 127 ∷ 203 ∷ 12 ∷ 251 ∷ 74 ∷ 255 ∷ 255
    ∷ 255 ∷ 255 ∷ [])
    ∷ [])
    ∷ []
unfolding meaning_of meant_upto
wide_edges_is = refl
