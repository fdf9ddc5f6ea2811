use Rattle.worlds.proofs.parts.Injects.{stray_step}
use Rattle.worlds.proofs.parts.laws.injections_are_strays.Goals as goal

pub returns : goal.returns
returns c = stray_step
