-- The inputs that were tried last show it.
use Rattle.plan_agreement.proofs.agreement.try_inputs.Goals as goal

pub returns-then-found-clause-agrees : goal.returns-then-found-clause-agrees
returns-then-found-clause-agrees c = record {
  mark = c.requires.unknown.mark;
  before = c.requires.unknown.before;
  taken = c.in_ok-inputs.ensures;
  differs = c.in_ok-found.ensures.unlike c.if-found.true;
}

pub returns-clause-agrees : goal.returns-clause-agrees
returns-clause-agrees c = c.requires.unknown

pub returns-clause-tried : goal.returns-clause-tried
returns-clause-tried c = c.requires.numbers
