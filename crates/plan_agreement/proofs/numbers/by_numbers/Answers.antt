-- One unit more in each turn.
use Rattle.std.proofs.Common.{◌<◌, arith}
use Rattle.std.proofs.lemmas.List.Elements.{All-get_or}
use Rattle.plan_agreement.specs.Agreement.{IsMeantIfThere}
use Rattle.plan_agreement.proofs.Lists.{all_taken, one_more_of}
use Rattle.plan_agreement.proofs.numbers.by_numbers.Goals as goal

pub by_bytes-requires-clause-unit : goal.by_bytes-requires-clause-unit
by_bytes-requires-clause-unit c =
    All-get_or (λ unit. 0 < unit) c.args.units.now c.loop-unit.unit-index 0 c.loop-unit-test.true c.requires.units

pub loop-unit-init : goal.loop-unit-init
loop-unit-init c = λ k d l. absurd (omega (arith, l))

pub loop-unit-preserved : goal.loop-unit-preserved
loop-unit-preserved c =
    one_more_of (IsMeantIfThere c.args.plan.now c.args.shape.now c.args.mark) c.args.units.now c.loop-unit.unit-index 0
    c.loop-unit-test.true c.loop-unit.invariant (rw c.in-None.is at c.in_ok-shown.ensures)

pub returns : goal.returns
returns c =
    all_taken (IsMeantIfThere c.args.plan.now c.args.shape.now c.args.mark) c.args.units.now c.loop-unit.unit-index
    c.loop-unit-test.false c.loop-unit.invariant
