use Rattle.portals_top.proofs.Telling.{explained}
use Rattle.portals_top.proofs.top.run_with_gate.Goals as goal

pub returns : goal.returns
returns g c =
    let told = c.answered-status.ensures.told in
    record {
      answers = c.answered-status.ensures.answers;
      explained = (told.0, told.1, explained told.0 c.answered-status.result _ _ _ _ _ told.2 c.say_beside.ensures);
    }
