use Rattle.cuts.proofs.windows.Places.{by-places}
use Rattle.cuts.proofs.windows.steps_stand_by_place.Goals as goal

pub returns : goal.returns
returns c = λ ranks window scene. by-places ranks window scene
