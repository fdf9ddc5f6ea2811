-- Every enabled step is possible, so the run is that of the words.
use Rattle.std.proofs.Common.{ap, filter}
use Rattle.ptl_types.specs.Handles.{top}
use Rattle.cuts.specs.windows.Possible.{is_possible}
use Rattle.worlds.proofs.Words.{ends_by_words}
use Rattle.plan_choice.specs.World.{ranks_in}
use Rattle.plan_choice.proofs.Moving.{slots_at}
use Rattle.plan_choice.proofs.Possible.{possible_all}
use Rattle.plan_choice.proofs.laws.choices_by_words.Goals as goal

pub returns : goal.returns
returns g c = λ w words chooser answer after n last then is answers goes run none.
    ends_by_words (ranks_in w) top (possible_all w.ranks w.kinds (slots_at w) is.in_range is.few_steps) answer after chooser words answers
    goes
    n last then run (ap (filter (is_possible (ranks_in w) top last)) none)
