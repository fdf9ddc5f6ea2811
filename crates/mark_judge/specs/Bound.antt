-- Which cells can't be reached before their own rank's start.
use Rattle.std.specs.Prelude.{ℕ, zero, suc, Bool, true, false, not, ◌||◌, ◌≡◌, ◌<◌, nat_lt}
use Rattle.std.specs.List.{list_any}
use Rattle.plan_core.specs.Members.{In}
use Rattle.plan_core.specs.Plan.{Plan, in_links, is_bump, link}

-- a rank's go cell; a cell to which a message comes, since what came before the start is counted at the start; and a cell to which a bump
-- comes from one of these
pub data IsBound (p : Plan) : ℕ → Type 0 where
  go : (r : ℕ) → r < p.ranks → IsBound p r
  message : (c l : ℕ) → In l (in_links p c) → is_bump (link p l).kind ≡ false → IsBound p c
  bump : (c l : ℕ) → In l (in_links p c) → is_bump (link p l).kind ≡ true → IsBound p (link p l).source → IsBound p c

-- the test for it, by chains of at most so many links; where links rise it tells exactly these cells (`bound_cells_are_told`)
unfoldable pub bound_within : Plan → ℕ → ℕ → Bool
bound_within p zero c = nat_lt c p.ranks
bound_within p (suc n) c =
    nat_lt c p.ranks || list_any (λ l. not (is_bump (link p l).kind) || bound_within p n (link p l).source) (in_links p c)

-- where links rise a chain to cell c has at most c of them
abbrev pub is_bound : Plan → ℕ → Bool
is_bound p c = bound_within p c c
