use Rattle.portals_top.proofs.OneText.{one-text, same-text, some-run}
use Rattle.portals_top.proofs.laws.sim_owes_one_text.Goals as goal

pub returns-clause-some : goal.returns-clause-some
returns-clause-some c = λ bytes d slots seed planned. some-run bytes d slots seed planned

pub returns-clause-text : goal.returns-clause-text
returns-clause-text c = λ bytes d slots seed run ran planned chosen left. one-text bytes d slots seed run planned chosen ran left

pub returns-clause-same : goal.returns-clause-same
returns-clause-same c = λ bytes d seed one other planned left right. same-text bytes d seed one other planned left right
