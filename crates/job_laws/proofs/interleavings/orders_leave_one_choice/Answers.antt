use Rattle.job_laws.proofs.interleavings.Described.{one_choice}
use Rattle.job_laws.proofs.interleavings.orders_leave_one_choice.Goals as goal

pub returns : goal.returns
returns c = λ bytes d slots one other is accepted a b clean pure same r h.
    one_choice bytes d slots one other is accepted a b clean pure same r h
