use Rattle.run_text.specs.declared.status.Status.TheVariants.{NoMemory, ReadFault}
use Rattle.run_text.proofs.Told.{told-read}
use Rattle.given_verdicts.specs.declared.judging.TheConstants.{LONGEST_GIVEN}
use Rattle.given_top.specs.Explained.{BesideTimes}
use Rattle.given_top.proofs.Beside.{given_tells, unread_tells}
use Rattle.given_top.proofs.Costs.{cost_failed, cost_read, cost_without_memory}
use Rattle.given_top.proofs.costing.read_and_cost.Goals as goal

pub returns-in-Ok : goal.returns-in-Ok
returns-in-Ok g c =
    let source = g.S.Source.inflow c.args.source.now in
    let source' = g.S.Source.inflow c.read_text.new.source in
    let read = c.in-Ok.ensures.text in
    let told = told-read LONGEST_GIVEN source.left source'.left c.in-Ok.text.items read.front read.short read.whole in (
      told.bytes,
      told.told,
      cost_read c.args.numbers.now c.in-Ok.text.items source source' _ _ _ _ told
          (rw c.as_slice.ensures.value at c.answer_cost.ensures.costs) c.without.ensures,
      rw c.without.ensures
          (given_tells BesideTimes told.bytes c.in-Ok.text.items told.alike _ _
          (rw c.as_slice.ensures.value at c.answer_cost.ensures.told)),
    )

pub returns-in-Err-Failed : goal.returns-in-Err-Failed
returns-in-Err-Failed g c =
    let failed =
    cost_failed c.args.numbers.now _ _ _ _ (c.in-Err-Failed.ensures.failed c.in-Err-Failed.field-0-is) c.without-in-Err-Failed.ensures in
    (failed.0, failed.1, failed.2, unread_tells _ ReadFault _ _ c.without-in-Err-Failed.ensures tt)

pub returns-in-Err-NoMemory : goal.returns-in-Err-NoMemory
returns-in-Err-NoMemory g c =
    let none = cost_without_memory c.args.numbers.now _ _ _ _ c.without-in-Err-NoMemory.ensures in
    (none.0, none.1, none.2, unread_tells _ NoMemory _ _ c.without-in-Err-NoMemory.ensures tt)
