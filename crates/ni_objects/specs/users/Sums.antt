-- Numbers of the live things of a table, added up.
use Rattle.std.specs.Prelude.{ℕ, ◌+◌, List, [], ◌∷◌, if◌then◌else◌}
use Rattle.ptl_types.specs.declared.handles.Handle.{Handle}
use Rattle.ptl_types.specs.Handles.{same_handle}
use Rattle.ni_model.specs.Tables.{Live}

module _ {A : Type 0} where
  -- a number of each live thing, added up
  abbrev pub sum_of : (Handle → A → ℕ) → List (Live A) → ℕ
  sum_of f [] = 0
  sum_of f (x ∷ xs) = f x.handle x.value + sum_of f xs

  -- 1 where the thing has this handle
  abbrev pub named_as : Handle → Handle → A → ℕ
  named_as me h v = if same_handle h me then 1 else 0
