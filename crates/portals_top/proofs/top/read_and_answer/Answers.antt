use Rattle.run_text.proofs.Told.{told-read}
use Rattle.portals_top.proofs.Answering.{answered-failed, answered-no_memory}
use Rattle.portals_top.proofs.Beginning.{begun-read}
use Rattle.coll_lang.specs.declared.whole.TheConstants.{LONGEST_TEXT}
use Rattle.portals_top.proofs.top.read_and_answer.Goals as goal

pub returns-in-Ok : goal.returns-in-Ok
returns-in-Ok g c =
    let source = g.S.Source.inflow c.args.source.now in
    let source' = g.S.Source.inflow c.read_text.new.source in
    let read = c.in-Ok.ensures.text in
    let told = told-read LONGEST_TEXT source.left source'.left c.in-Ok.text.items read.front read.short read.whole in
    record {
      begun = (told.bytes, told.told, begun-read c.args.task c.in-Ok.text.items source source' _ _ _ _ told c.answer.ensures.begun);
      told = c.answer.ensures.told;
    }

pub returns-in-Err-Failed : goal.returns-in-Err-Failed
returns-in-Err-Failed g c = record {
  begun = rw c.requires.none (answered-failed c.args.task _ _ _ (c.in-Err-Failed.ensures.failed c.in-Err-Failed.field-0-is));
  told = tt;
}

pub returns-in-Err-NoMemory : goal.returns-in-Err-NoMemory
returns-in-Err-NoMemory g c = record { begun = rw c.requires.none (answered-no_memory c.args.task _ _ _); told = tt }
