use Rattle.slot_laws.proofs.Filling.{fillings_are_one}
use Rattle.slot_laws.proofs.fillings_are_one.Goals as goal

pub returns : goal.returns
returns c = λ any_order text out out' calls calls' m n. fillings_are_one any_order text out out' calls calls' m n
