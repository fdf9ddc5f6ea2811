use Rattle.run_text.proofs.Told.{told-any, told-read}
use Rattle.portals_top.proofs.Judging.{checked-failed, checked-no_memory, checked-read}
use Rattle.portals_top.proofs.Telling.{read_tells}
use Rattle.order_lines.specs.declared.checking.TheConstants.{LONGEST_CHECK}
use Rattle.portals_top.proofs.top.read_and_check.Goals as goal

pub returns-in-Ok : goal.returns-in-Ok
returns-in-Ok g c =
    let source = g.S.Source.inflow c.args.source.now in
    let source' = g.S.Source.inflow c.read_text.new.source in
    let read = c.in-Ok.ensures.text in
    let told = told-read LONGEST_CHECK source.left source'.left c.in-Ok.text.items read.front read.short read.whole in
    record {
      checked = (
        told.bytes,
        told.told,
        checked-read c.in-Ok.text.items source source' _ _ _ told
            (rw c.as_slice.ensures.value at c.judged_text.ensures.judged),
      );
      told = (
        told.bytes,
        told.told,
        read_tells told.bytes c.in-Ok.text.items told.alike _ _ _ _ (rw c.as_slice.ensures.value at c.judged_text.ensures.told)
            (rw c.as_slice.ensures.value at c.judged_text.ensures.long),
      );
    }

pub returns-in-Err-Failed : goal.returns-in-Err-Failed
returns-in-Err-Failed g c =
    let any = told-any (g.S.Source.inflow c.args.source.now).left in
    record {
      checked = checked-failed _ _ _ (c.in-Err-Failed.ensures.failed c.in-Err-Failed.field-0-is);
      told = (any.0, any.1, tt);
    }

pub returns-in-Err-NoMemory : goal.returns-in-Err-NoMemory
returns-in-Err-NoMemory g c =
    let any = told-any (g.S.Source.inflow c.args.source.now).left in
    record { checked = checked-no_memory _ _ _; told = (any.0, any.1, tt) }
