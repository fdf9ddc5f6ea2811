use Rattle.run_text.specs.declared.status.Status.TheVariants.{NoMemory, ReadFault}
use Rattle.run_text.proofs.Told.{told-read}
use Rattle.given_top.specs.declared.checking.TheConstants.{LONGEST_PLAN_CHECK}
use Rattle.given_top.proofs.Beside.{check_tells, unread_tells}
use Rattle.given_top.proofs.Checks.{check_failed, check_without_memory, checked_read}
use Rattle.given_top.proofs.top.read_and_check.Goals as goal

pub returns-in-Ok : goal.returns-in-Ok
returns-in-Ok g c =
    let source = g.S.Source.inflow c.args.source.now in
    let source' = g.S.Source.inflow c.read_text.new.source in
    let read = c.in-Ok.ensures.text in
    let told = told-read LONGEST_PLAN_CHECK source.left source'.left c.in-Ok.text.items read.front read.short read.whole in (
      told.bytes,
      told.told,
      checked_read c.in-Ok.text.items source source' _ _ _ _ told (rw c.as_slice.ensures.value at c.answer_check.ensures.checks)
          c.without.ensures,
      rw c.without.ensures
          (check_tells told.bytes c.in-Ok.text.items told.alike _ _ _ _ (rw c.as_slice.ensures.value at c.answer_check.ensures.told)),
    )

pub returns-in-Err-Failed : goal.returns-in-Err-Failed
returns-in-Err-Failed g c =
    let failed = check_failed _ _ _ _ (c.in-Err-Failed.ensures.failed c.in-Err-Failed.field-0-is) c.without-in-Err-Failed.ensures in
    (failed.0, failed.1, failed.2, unread_tells _ ReadFault _ _ c.without-in-Err-Failed.ensures tt)

pub returns-in-Err-NoMemory : goal.returns-in-Err-NoMemory
returns-in-Err-NoMemory g c =
    let none = check_without_memory _ _ _ _ c.without-in-Err-NoMemory.ensures in
    (none.0, none.1, none.2, unread_tells _ NoMemory _ _ c.without-in-Err-NoMemory.ensures tt)
