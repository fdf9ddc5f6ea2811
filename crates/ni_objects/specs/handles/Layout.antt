-- How a store lays out its things. No public clause cites this module.
use Rattle.std.specs.Prelude.{◌≡◌, ℕ, ◌+◌, ◌<◌, ◌^◌, nat_lt, List, [], ◌∷◌, Option, Some, None, if◌then◌else◌}
use Rattle.slab.specs.Slab.{Slab, get}
use Rattle.ni_objects.specs.declared.handles.Stamped.{Stamped}
use Rattle.ni_model.specs.Tables.{Live, Table}

module _ {A : Type 0} where
  abbrev pub live_from : ℕ → List (Option (Stamped A)) → List (Live A)
  live_from k [] = []
  live_from k (None ∷ rest) = live_from (k + 1) rest
  live_from k (Some x ∷ rest) = (record { handle = record { slot = k; stamp = x.stamp }; value = x.value }) ∷ live_from (k + 1) rest

  -- before the first that isn't older
  abbrev pub put_in : Live A → List (Live A) → List (Live A)
  put_in x [] = x ∷ []
  put_in x (y ∷ ys) = if nat_lt y.handle.stamp x.handle.stamp then y ∷ put_in x ys else x ∷ y ∷ ys

  abbrev pub by_stamp : List (Live A) → List (Live A)
  by_stamp [] = []
  by_stamp (x ∷ xs) = put_in x (by_stamp xs)

  abbrev pub table_of : Slab (Stamped A) → ℕ → ℕ → Table A
  table_of s given limit = record { live = by_stamp (live_from 0 s.slots); given = given; limit = limit }

  -- each stamp was given, each slot is below the limit, and there is room for the limit and no more
  pub record IsTable (s : Slab (Stamped A)) (given limit : ℕ) : Type 0 where
    pub stamps : (k : ℕ) (x : Stamped A) → get s k ≡ Some x → x.stamp < given
    pub below : (k : ℕ) (x : Stamped A) → get s k ≡ Some x → k < limit
    pub room : s.capacity ≡ limit
    pub small : limit < 2 ^ 32
    pub fits : given < 2 ^ 64
