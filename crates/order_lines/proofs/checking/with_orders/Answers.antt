use Rattle.std.proofs.Common.{◌≡◌, length}
use Rattle.coll_text.specs.Text.{lines}
use Rattle.order_lines.proofs.Inputs.{many}
use Rattle.order_lines.proofs.checking.with_orders.Goals as goal

pub returns-in_ok-orders-in-None-clause-orders : goal.returns-in_ok-orders-in-None-clause-orders
returns-in_ok-orders-in-None-clause-orders c =
    let n : length c.in_ok-orders-in-None.orders ≡ c.ranks.result =
    many c.ranks.result c.ranks.result 0 c.args.next (lines c.args.rest.now) c.in_ok-orders-in-None.orders c.in_ok-orders-in-None.ensures in
    cc
