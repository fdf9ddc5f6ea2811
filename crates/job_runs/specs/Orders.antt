-- The steps that each rank of a world made, as they are written.
use Rattle.std.specs.Prelude.{ℕ, List, map}
use Rattle.cuts.specs.orders.Taking.{listed}
use Rattle.run_text.specs.Orders.{order_text}
use Rattle.worlds.specs.World.{WorldState, histories_in}

abbrev pub orders_in : WorldState → List ℕ
orders_in w = order_text w.schedule.plan.ranks (λ r. map listed (histories_in w r))
