use Rattle.std.proofs.Common.{All, take}
use Rattle.plan_agreement.specs.Agreement.{IsMeantIfThere}
use Rattle.plan_agreement.proofs.numbers.by_numbers.Given as goal

abbrev pub invariant-loop-unit : goal.invariant-loop-unit
invariant-loop-unit l = All (IsMeantIfThere l.plan l.shape l.mark) (take l.unit-index l.units)
