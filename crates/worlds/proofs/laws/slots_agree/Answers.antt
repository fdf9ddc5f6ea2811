use Rattle.worlds.proofs.Ends.{given_slots, slots_given}
use Rattle.worlds.proofs.laws.slots_agree.Goals as goal

pub returns : goal.returns
returns c = λ w is. (given_slots w, slots_given w is)
