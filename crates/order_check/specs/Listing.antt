-- Given orders.
use Rattle.std.specs.Prelude.{ℕ, List, [], get_or, map}
use Rattle.ptl_types.specs.declared.steps.LocalStep.{LocalStep}
use Rattle.cuts.specs.histories.Cut.{IsPrefixOf}
use Rattle.cuts.specs.histories.System.{Histories}
use Rattle.cuts.specs.orders.Taking.{Lists, listed}

-- the list of each rank; none past the last
abbrev pub lists_of : List (List LocalStep) → Lists
lists_of orders r = get_or orders r []

-- rank r's history is a beginning of its list
abbrev pub IsListed : Lists → Histories → ℕ → Type 0
IsListed lists w r = IsPrefixOf (map listed (w r)) (lists r)
