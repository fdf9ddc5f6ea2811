use Rattle.log_verdict.proofs.Conforming.{whole_conforms}
use Rattle.log_verdict.proofs.filler.filled_logs_conform.Goals as goal

pub returns : goal.returns
returns c = λ any_order text out calls is. whole_conforms any_order text out calls is
