-- By `Found`.
use Rattle.given_verdicts.proofs.general.Found.{is_combined}
use Rattle.given_verdicts.proofs.general.bare.bare_plans_are_known.Goals as goal

pub returns : goal.returns
returns c = λ bytes t n name rank place e accepted given own is. is_combined bytes t n name rank place e is accepted given own
