use Rattle.job_laws.proofs.interleavings.Described.{meant_with_strays}
use Rattle.job_laws.proofs.interleavings.every_interleaving_with_strays_is_meant.Goals as goal

pub returns : goal.returns
returns c = λ bytes d slots steps strays world held is accepted reached still.
    meant_with_strays bytes d slots steps strays world held is accepted reached still
