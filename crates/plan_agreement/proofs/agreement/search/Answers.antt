-- Inputs of numbered bytes show it, or they are what is meant.
use Rattle.plan_agreement.proofs.Lists.{all_units}
use Rattle.plan_agreement.proofs.agreement.search.Goals as goal

pub by_numbers-requires-clause-units : goal.by_numbers-requires-clause-units
by_numbers-requires-clause-units c = all_units

pub try_inputs-requires-clause-numbers : goal.try_inputs-requires-clause-numbers
try_inputs-requires-clause-numbers c = rw c.in-None.is at c.in_ok-shown.ensures

pub returns-in-Some-clause-agrees : goal.returns-in-Some-clause-agrees
returns-in-Some-clause-agrees c =
    let wrong = rw c.in-Some.is at c.in_ok-shown.ensures in
    record {
      mark = c.requires.unknown.mark;
      before = c.requires.unknown.before;
      taken = wrong.taken;
      differs = wrong.differs;
    }
