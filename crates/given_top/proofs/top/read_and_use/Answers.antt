use Rattle.run_text.specs.declared.status.Status.TheVariants.{NoMemory, ReadFault}
use Rattle.run_text.proofs.Told.{told-read}
use Rattle.given_verdicts.specs.declared.judging.TheConstants.{LONGEST_GIVEN}
use Rattle.given_top.specs.Explained.{BesideUse}
use Rattle.given_top.proofs.Beside.{given_tells, unread_tells}
use Rattle.given_top.proofs.ReadTexts.{answered_read, failed, without_memory}
use Rattle.given_top.proofs.top.read_and_use.Goals as goal

pub returns-in-Ok : goal.returns-in-Ok
returns-in-Ok g c =
    let source = g.S.Source.inflow c.args.source.now in
    let source' = g.S.Source.inflow c.read_text.new.source in
    let read = c.in-Ok.ensures.text in
    let told = told-read LONGEST_GIVEN source.left source'.left c.in-Ok.text.items read.front read.short read.whole in (
      told.bytes,
      told.told,
      answered_read c.args.purpose c.in-Ok.text.items source source' _ _ _ told (rw c.as_slice.ensures.value at c.use_text.ensures.ran),
      given_tells (BesideUse c.args.purpose) told.bytes c.in-Ok.text.items told.alike _ _
          (rw c.as_slice.ensures.value at c.use_text.ensures.told),
    )

pub returns-in-Err-Failed : goal.returns-in-Err-Failed
returns-in-Err-Failed g c =
    let none = failed c.args.purpose _ _ _ _ (c.in-Err-Failed.ensures.failed c.in-Err-Failed.field-0-is) c.without.ensures in
    (none.0, none.1, none.2, unread_tells _ ReadFault _ _ c.without.ensures tt)

pub returns-in-Err-NoMemory : goal.returns-in-Err-NoMemory
returns-in-Err-NoMemory g c =
    let none = without_memory c.args.purpose _ _ _ _ c.without-in-Err-NoMemory.ensures in
    (none.0, none.1, none.2, unread_tells _ NoMemory _ _ c.without-in-Err-NoMemory.ensures tt)
