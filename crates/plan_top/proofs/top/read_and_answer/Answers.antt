use Rattle.std.proofs.Common.{[]}
use Rattle.run_text.proofs.Told.{told-read}
use Rattle.plan_top.specs.Owed.{longest}
use Rattle.plan_top.proofs.Answering.{Laws, answered_failed, answered_no_memory, answered_read}
use Rattle.plan_top.proofs.Telling.{alike_tells}
use Rattle.plan_top.proofs.top.read_and_answer.Goals as goal

pub returns-in-Ok : goal.returns-in-Ok
returns-in-Ok g c =
    let source = g.S.Source.inflow c.args.source.now in
    let source' = g.S.Source.inflow c.read_text.new.source in
    let laws : Laws =
    record { given = c.given_verdicts_are_right.ensures; for_all = c.general_verdicts_are_right.ensures } in
    let read = rw c.longest.ensures.value at c.in-Ok.ensures.text in
    let told = told-read (longest c.args.request) source.left source'.left c.in-Ok.text.items read.front read.short read.whole in (
      told.bytes,
      told.told,
      answered_read laws c.args.request c.in-Ok.text.items source source' _ _ _ told
          (rw c.as_slice.ensures.value at c.answer_text.ensures.answers) c.answer_text.ensures.no_read,
      alike_tells c.args.request told.bytes c.in-Ok.text.items told.alike _ _ _ _
          (rw c.as_slice.ensures.value at c.answer_text.ensures.told),
    )

pub returns-in-Err-Failed : goal.returns-in-Err-Failed
returns-in-Err-Failed g c = answered_failed c.args.request _ _ _ [] (c.in-Err-Failed.ensures.failed c.in-Err-Failed.field-0-is)

pub returns-in-Err-NoMemory : goal.returns-in-Err-NoMemory
returns-in-Err-NoMemory g c = answered_no_memory c.args.request _ _ _ []
