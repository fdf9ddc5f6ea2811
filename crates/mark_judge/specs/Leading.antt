-- Which cells lead to which, along the links of a plan.
use Rattle.std.specs.Prelude.{ℕ, zero, suc, Bool, ◌==◌, ◌||◌}
use Rattle.std.specs.List.{list_any}
use Rattle.plan_core.specs.Plan.{Plan, in_links, link}

-- a chain of at most so many links leads from cell b to cell c
unfoldable pub leads_within : Plan → ℕ → ℕ → ℕ → Bool
leads_within p zero b c = b == c
leads_within p (suc n) b c = (b == c) || list_any (λ l. leads_within p n b (link p l).source) (in_links p c)

-- a chain of links leads from cell b to cell c; where links rise it has at most c of them
abbrev pub leads : Plan → ℕ → ℕ → Bool
leads p b c = leads_within p c b c
