use Rattle.run_text.proofs.read_orders.Whole.{whole_back}
use Rattle.run_text.proofs.read_orders.checks_are_read_back.Goals as goal

pub returns : goal.returns
returns c = λ bytes d steps is none short named. whole_back bytes d steps is none short named
