use Rattle.text_notes.proofs.Checks.{short_check}
use Rattle.portals_top.proofs.Judging.{judged-text, refused-text, text-no_memory}
use Rattle.portals_top.proofs.Telling.{not_long, tells_placed}
use Rattle.portals_top.proofs.checking.judged_text.Goals as goal

pub compiled-requires-clause-short : goal.compiled-requires-clause-short
compiled-requires-clause-short g c = short_check _ _ c.in-Ok.ensures.exact

pub returns-in-Ok : goal.returns-in-Ok
returns-in-Ok g c = record {
  judged = judged-text c.args.text.now _ _ _ _ _ c.in-Ok.ensures.exact c.compiled.ensures.judged;
  told = c.compiled.ensures.told;
  long = not_long _ c.args.text.now (short_check _ _ c.in-Ok.ensures.exact);
}

pub returns-in-Err-Refused : goal.returns-in-Err-Refused
returns-in-Err-Refused g c = record {
  judged = refused-text c.args.text.now _ _ _ _ (rw c.in-Err-Refused.field-0-is at c.in-Err-Refused.ensures.exact)
      c.refuse_with.ensures.written;
  told = tells_placed c.args.text.now c.refuse_with.result _ _ _ c.refuse_with.ensures.told;
  long = λ long. c.refuse_with.ensures.told;
}

pub returns-in-Err-NoMemory : goal.returns-in-Err-NoMemory
returns-in-Err-NoMemory g c = record { judged = text-no_memory c.args.text.now _; told = tt; long = λ long. tt }
