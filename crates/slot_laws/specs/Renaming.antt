-- A renaming: each handle of an interface goes to one with the same stamp and maybe another slot.
use Rattle.std.specs.Prelude.{ℕ, ◌≡◌}
use Rattle.ptl_types.specs.declared.handles.Handle.{Handle}
use Rattle.ptl_types.specs.Handles.{same_handle}

-- of its counting events, event queues and match entries, and of the descriptors of each rank
pub record Renaming : Type 0 where
  pub ct : Handle → Handle
  pub eq : Handle → Handle
  pub me : Handle → Handle
  pub md : ℕ → Handle → Handle

-- each handle keeps its stamp, and two name one thing exactly where they did
pub record KeepsApart (f : Handle → Handle) : Type 0 where
  pub stamp : (h : Handle) → (f h).stamp ≡ h.stamp
  pub same : (a b : Handle) → same_handle (f a) (f b) ≡ same_handle a b

-- each of its functions does
pub record IsRenaming (r : Renaming) : Type 0 where
  pub ct : KeepsApart r.ct
  pub eq : KeepsApart r.eq
  pub me : KeepsApart r.me
  pub md : (rank : ℕ) → KeepsApart (r.md rank)
