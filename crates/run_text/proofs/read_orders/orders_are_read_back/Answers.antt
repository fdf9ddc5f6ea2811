use Rattle.std.proofs.Common.{arith}
use Rattle.run_text.proofs.read_orders.Back.{orders_back}
use Rattle.run_text.proofs.read_orders.orders_are_read_back.Goals as goal

pub returns : goal.returns
returns c = λ ranks k steps fits named. orders_back ranks ranks 0 k steps fits (omega arith) named
