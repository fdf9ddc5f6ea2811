-- Which cells can't be reached before their own rank's start, since a chain of bumps leads to them from its go cell.
use Rattle.std.specs.Prelude.{ℕ, zero, suc, Bool, true, false, ◌≡◌, ◌<◌, ◌+◌, ◌*◌, ◌==◌, ◌&&◌, ◌||◌, List, [], ◌∷◌, ◌++◌, get_or}
use Rattle.std.specs.List.{list_any}
use Rattle.plan_core.specs.Plan.{Plan, cell, link, in_links, is_bump}

-- link l is a bump from the go cell of cell c's rank, or from a cell of which `before` says that it is guarded
abbrev pub is_guard : Plan → List Bool → ℕ → ℕ → Bool
is_guard p before c l = is_bump (link p l).kind && (((link p l).source == (cell p c).rank) || get_or before (link p l).source false)

-- cell c, from those before it
abbrev pub next_guarded : Plan → List Bool → ℕ → Bool
next_guarded p before c = list_any (is_guard p before c) (in_links p c)

-- of each cell below n, in order, whether it is guarded
abbrev pub guarded_below : Plan → ℕ → List Bool
guarded_below p zero = []
guarded_below p (suc n) = let before = guarded_below p n in before ++ next_guarded p before n ∷ []

-- a chain of bumps leads to cell c from its rank's go cell
abbrev pub is_guarded : Plan → ℕ → Bool
is_guarded p c = next_guarded p (guarded_below p c) c

-- each cell that holds one of so many inputs is guarded
abbrev pub AreGuarded : Plan → ℕ → Type 0
AreGuarded p inputs = (i : ℕ) → i < inputs * p.ranks → is_guarded p (p.ranks + i) ≡ true
