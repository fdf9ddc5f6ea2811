use Rattle.portals_top.proofs.Judging.{verdict-failed, verdict-no_memory, verdict-written}
use Rattle.portals_top.proofs.Telling.{verdict_tells}
use Rattle.portals_top.proofs.checking.answer_verdict.Goals as goal

pub returns-in-Ok-write_verdict : goal.returns-in-Ok-write_verdict
returns-in-Ok-write_verdict g c = record {
  written = verdict-written c.args.verdict _ _ _ c.status_of.ensures c.in-Ok-write_verdict.ensures;
  told = verdict_tells c.args.text.now c.args.verdict _ _ _ _ c.status_of.ensures c.in-Ok-write_verdict.ensures c.note_of.ensures;
}

pub returns : goal.returns
returns g c = record { written = verdict-failed c.args.verdict _ _ c.in-Err.ensures; told = tt }

pub returns-in_default : goal.returns-in_default
returns-in_default g c = record { written = verdict-no_memory c.args.verdict _; told = tt }
