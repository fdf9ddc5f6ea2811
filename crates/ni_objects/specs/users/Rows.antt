-- Rows of counts: how many users the thing of each slot has.
use Rattle.std.specs.Prelude.{◌≡◌, ◌<◌, ◌+◌, ◌-◌, ℕ, true, nat_eq, List, length, slice_index, slice_set, Option, Some, None, if◌then◌else◌}
use Rattle.ptl_types.specs.declared.handles.Handle.{Handle}
use Rattle.ni_model.specs.Tables.{Table, is_live}

-- the count of a slot; 0 past the row's end
abbrev pub count_at : ℕ → List ℕ → ℕ
count_at slot row = slice_index row slot

-- one user of a slot more; nothing changes past the row's end
abbrev pub incremented : ℕ → List ℕ → List ℕ
incremented slot row = slice_set row slot (count_at slot row + 1)

-- one fewer
abbrev pub decremented : ℕ → List ℕ → List ℕ
decremented slot row = slice_set row slot (count_at slot row - 1)

-- one user more of what is named, if anything is
abbrev pub more : Option Handle → List ℕ → List ℕ
more None row = row
more (Some h) row = incremented h.slot row

-- one fewer
abbrev pub fewer : Option Handle → List ℕ → List ℕ
fewer None row = row
fewer (Some h) row = decremented h.slot row

-- 1 where this is the slot
abbrev pub one_if_slot : ℕ → ℕ → ℕ
one_if_slot slot k = if nat_eq slot k then 1 else 0

-- 1 where a handle of the slot k is named
abbrev pub one_at : Option Handle → ℕ → ℕ
one_at None k = 0
one_at (Some h) k = one_if_slot h.slot k

-- the count of each slot k of the row is f k
abbrev pub Counts : (ℕ → ℕ) → List ℕ → Type 0
Counts f row = (k : ℕ) → k < length row → count_at k row ≡ f k

-- what is named, if anything, is h, or has another slot
abbrev pub IsAlone : Handle → Option Handle → Type 0
IsAlone h None = Unit {0}
IsAlone h (Some x) = x.slot ≡ h.slot → x ≡ h

-- no other live thing has the slot of h
abbrev pub HasOwnSlot : {A : Type 0} → Handle → Table A → Type 0
HasOwnSlot h t = (k : Handle) → k.slot ≡ h.slot → is_live k t ≡ true → k ≡ h
