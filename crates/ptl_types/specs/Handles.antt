-- When two handles name one thing, and the greatest number that a counting event, a register or another count of 64 bits holds.
use Rattle.std.specs.Prelude.{ℕ, suc, Bool, ◌==◌, ◌&&◌, ◌-◌, ◌^◌, min}
use Rattle.ptl_types.specs.declared.handles.Handle.{Handle}

abbrev pub same_handle : Handle → Handle → Bool
same_handle a b = (a.stamp == b.stamp) && (a.slot == b.slot)

-- the end of every count
abbrev pub top : ℕ
top = 2 ^ 64 - 1

-- one more, up to that end
abbrev pub one_more : ℕ → ℕ
one_more n = min (suc n) top
