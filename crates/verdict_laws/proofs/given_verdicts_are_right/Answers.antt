-- The answer holds where nothing is at fault and the results are meant.
use Rattle.verdict_laws.proofs.Holding.{can_be_run, held, own_inputs}
use Rattle.verdict_laws.proofs.given_verdicts_are_right.Goals as goal

pub returns : goal.returns
returns c = λ bytes e.
    let h = held bytes e in
    let d = h.description in
    let own = own_inputs c.reads_exactly.ensures.exactly bytes d h.given h.told.text in
    record {
      description = d;
      given = h.given;
      text = h.told.text;
      can_run = can_be_run bytes d h.given h.told;
      right = c.flawless_plans_are_right.ensures d.shape h.given d.inputs h.told.flawless own h.meant;
    }
