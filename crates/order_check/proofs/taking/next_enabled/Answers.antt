use Rattle.std.proofs.Common.{sym, ◌∙◌}
use Rattle.order_check.specs.Listing.{lists_of}
use Rattle.order_check.proofs.Looking.{closed_stuck, whole_stuck}
use Rattle.order_check.proofs.taking.next_enabled.Goals as goal

pub returns-in-None : goal.returns-in-None
returns-in-None c = whole_stuck c.args.world.now (lists_of c.args.orders.now) c.args.r c.in-None.ensures

pub returns-else-is_open : goal.returns-else-is_open
returns-else-is_open c =
    closed_stuck c.args.world.now (lists_of c.args.orders.now) c.args.r c.in-Some.step c.in-Some.ensures
    (λ o. let t = sym c.if-is_open.false ∙ c.is_open.ensures.1 o in cc)
