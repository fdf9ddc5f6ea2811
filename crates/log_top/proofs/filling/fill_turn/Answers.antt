use Rattle.log_top.specs.Turns.FilledOne.{Turned}
use Rattle.log_top.proofs.filling.fill_turn.Goals as goal

pub returns-in-Ok : goal.returns-in-Ok
returns-in-Ok g c = Turned _ c.in-Ok.ensures.turn c.write_turn.ensures
