use Rattle.text_laws.proofs.Back.{plan_back}
use Rattle.text_laws.proofs.plans.plans_are_read_back.Goals as goal

pub returns : goal.returns
returns c = λ p least first buffers fits. plan_back p least first buffers fits
