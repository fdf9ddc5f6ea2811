-- By `Installing`.
use Rattle.plan_words.proofs.Installing.{taken}
use Rattle.plan_words.proofs.takes.takes_are_installed.Goals as goal

pub returns : goal.returns
returns c = λ p inputs sound fit. taken p inputs sound fit
