use Rattle.portals_top.proofs.OneChoiceText.{same-of-any}
use Rattle.portals_top.proofs.laws.sim_owes_one_text_of_any_bytes.Goals as goal

pub returns : goal.returns
returns c = λ bytes seed one other left right. same-of-any bytes seed one other left right
