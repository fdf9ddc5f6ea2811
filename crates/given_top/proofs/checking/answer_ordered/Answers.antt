use Rattle.given_top.specs.Checked.CheckText.{Ordered}
use Rattle.given_top.proofs.Checks.{no_memory, ordered}
use Rattle.given_top.proofs.checking.answer_ordered.Goals as goal

pub returns-in-Ok : goal.returns-in-Ok
returns-in-Ok g c = record {
  checks = ordered c.args.found c.args.orders.now _ _ _ _ c.in-Ok.ensures c.answer_verdict.ensures.written;
  told = c.answer_verdict.ensures.told;
}

pub returns-in-Err : goal.returns-in-Err
returns-in-Err g c = record { checks = no_memory (Ordered c.args.found c.args.orders.now) _; told = tt }
