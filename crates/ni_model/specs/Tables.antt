-- A table of an interface: the live things in the order of their making, how many stamps it gave, and how many may be live.
use Rattle.std.specs.Prelude.{ℕ, Bool, true, false, ◌==◌, ◌||◌, not, nat_le, ◌+◌, List, [], ◌∷◌, ◌++◌, length, map, filter, Option, Some}
use Rattle.std.specs.Prelude.{None, if◌then◌else◌, is_some}
use Rattle.ptl_types.specs.declared.handles.Handle.{Handle}
use Rattle.ptl_types.specs.Handles.{same_handle, top}

-- a live thing and its handle
pub record Live (A : Type 0) : Type 0 where
  pub handle : Handle
  pub value : A

-- the live things stand by rising stamp
pub record Table (A : Type 0) : Type 0 where
  pub live : List (Live A)
  pub given : ℕ
  pub limit : ℕ

-- a slot and a stamp
abbrev pub handle : ℕ → ℕ → Handle
handle slot stamp = record { slot = slot; stamp = stamp }

-- a table of which nothing was made
abbrev pub no_things : {A : Type 0} (limit : ℕ) → Table A
no_things limit = record { live = []; given = 0; limit = limit }

module _ {A : Type 0} where
  -- the thing of a handle, where it is live
  abbrev pub lookup : Handle → List (Live A) → Option A
  lookup h [] = None
  lookup h (x ∷ xs) = if same_handle x.handle h then Some x.value else lookup h xs

  -- the thing of a handle changed by f; a handle that isn't live changes nothing
  abbrev pub change_one : Handle → (A → A) → Live A → Live A
  change_one h f x = record { handle = x.handle; value = if same_handle x.handle h then f x.value else x.value }

  -- in a list of live things
  abbrev pub change : Handle → (A → A) → List (Live A) → List (Live A)
  change h f xs = map (change_one h f) xs

  -- in a table
  abbrev pub changed : Handle → (A → A) → Table A → Table A
  changed h f t = record t { live = change h f t.live }

  -- the handle names a live thing
  abbrev pub is_live : Handle → Table A → Bool
  is_live h t = is_some (lookup h t.live)

  -- one thing more, the youngest: its stamp is the number of those given before
  abbrev pub with_new : ℕ → A → Table A → Table A
  with_new slot w t = record t { live = t.live ++ (record { handle = handle slot t.given; value = w }) ∷ []; given = t.given + 1 }

  -- the thing of this handle gone
  abbrev pub without : Handle → Table A → Table A
  without h t = record t { live = filter (λ x. not (same_handle x.handle h)) t.live }

  -- no further thing can be made: the limit is live, or the stamps are used up
  abbrev pub is_full : Table A → Bool
  is_full t = nat_le t.limit (length t.live) || nat_le top t.given

  -- a live thing has this slot
  abbrev pub has_slot : ℕ → List (Live A) → Bool
  has_slot slot [] = false
  has_slot slot (x ∷ xs) = (x.handle.slot == slot) || has_slot slot xs

-- a handle that may be absent, where the flag is set
abbrev pub where_set : Bool → Option Handle → Option Handle
where_set b h = if b then h else None

-- an absent handle counts as live
abbrev pub is_live_or_none : {A : Type 0} → Option Handle → Table A → Bool
is_live_or_none None t = true
is_live_or_none (Some h) t = is_live h t

-- h is the handle named
abbrev pub names : Option Handle → Handle → Bool
names None h = false
names (Some x) h = same_handle x h
