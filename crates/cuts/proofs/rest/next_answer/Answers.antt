-- The theorem of `Due`.
use Rattle.op_laws.proofs.Starts.{combined-starts}
use Rattle.cuts.proofs.rest.Due.{next_answer_due}
use Rattle.cuts.proofs.rest.next_answer.Goals as goal

pub returns : goal.returns
returns c = λ plan inputs slots world sound fit cut r s m later h k e. next_answer_due combined-starts plan inputs sound fit slots world
    cut r s m later h k e
