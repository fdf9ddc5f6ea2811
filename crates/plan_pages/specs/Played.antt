-- An interleaving of orders.
use Rattle.std.specs.Prelude.{◌≡◌, ℕ, ◌==◌, List, [], get_or, map, filter, take}
use Rattle.ptl_types.specs.declared.steps.LocalStep.{LocalStep}
use Rattle.plan_pictures.specs.declared.lines.order_text.Order.{Order}
use Rattle.plan_pages.specs.declared.playing.Turn.{Turn}

-- the steps that rank r makes, in the order of the interleaving
abbrev pub made_by : List Turn → ℕ → List LocalStep
made_by turns r = map (λ t. t.step) (filter (λ t. t.rank == r) turns)

-- the order of rank r; past the last none
abbrev pub order_of : List Order → ℕ → List LocalStep
order_of orders r = get_or (map (λ o. o.steps.items) orders) r []

-- Each rank makes the first steps of its order, so many of them, each once and in that order, and makes no others.
abbrev pub ArePlayed : List Order → List Turn → List ℕ → Type 0
ArePlayed orders turns made = (r : ℕ) → made_by turns r ≡ take (get_or made r 0) (order_of orders r)
