use Rattle.std.proofs.Common.{All, take}
use Rattle.given_verdicts.specs.general.General.{IsRightByNumber}
use Rattle.given_verdicts.proofs.general.bare.wrong_by_numbers.Given as goal

abbrev pub invariant-loop-unit : goal.invariant-loop-unit
invariant-loop-unit l = All (IsRightByNumber l.text) (take l.unit-index l.units)
