-- By `Rest`.
use Rattle.cuts.proofs.ended.Rest.{at_rest}
use Rattle.cuts.proofs.ended.ended_ranks_are_at_rest.Goals as goal

pub returns : goal.returns
returns c = λ plan inputs slots world sound fit cut ended. at_rest plan inputs slots world sound fit cut ended
