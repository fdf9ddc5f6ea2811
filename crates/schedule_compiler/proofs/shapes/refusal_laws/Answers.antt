-- By `Sizes`.
use Rattle.schedule_compiler.proofs.shapes.Sizes.{refusal-found}
use Rattle.schedule_compiler.proofs.shapes.refusal_laws.Goals as goal

pub returns : goal.returns
returns c = λ o fit. refusal-found o fit
