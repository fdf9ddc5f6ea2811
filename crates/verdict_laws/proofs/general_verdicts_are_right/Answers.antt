-- The answer holds where nothing is at fault and the results are always meant.
use Rattle.verdict_laws.proofs.Always.{always_held, always_named}
use Rattle.verdict_laws.proofs.Holding.{can_be_run, own_inputs}
use Rattle.verdict_laws.proofs.general_verdicts_are_right.Goals as goal

pub returns : goal.returns
returns c = λ bytes e.
    let h = always_held bytes e in
    let d = h.description in
    let g = h.given in
    record {
      description = d;
      given = g;
      text = h.told.text;
      can_run = can_be_run bytes d g h.told;
      own = own_inputs c.reads_exactly.ensures.exactly bytes d g h.told.text;
      right = λ inputs given.
          c.flawless_plans_are_right.ensures d.shape g inputs h.told.flawless given (always_named d.shape g h.always inputs given);
    }
