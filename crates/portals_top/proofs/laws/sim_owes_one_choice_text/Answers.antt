use Rattle.portals_top.proofs.OneChoiceText.{one-choice-text, same-choice-text, some-choice-run}
use Rattle.portals_top.proofs.laws.sim_owes_one_choice_text.Goals as goal

pub returns-clause-some : goal.returns-clause-some
returns-clause-some c = λ bytes d choices slots seed choosing. some-choice-run bytes d choices slots seed choosing

pub returns-clause-text : goal.returns-clause-text
returns-clause-text c = λ bytes d choices slots seed run ran choosing chosen left. one-choice-text bytes d choices slots seed run choosing
    chosen ran left

pub returns-clause-same : goal.returns-clause-same
returns-clause-same c = λ bytes d choices seed one other choosing left right. same-choice-text bytes d choices seed one other choosing left
    right
