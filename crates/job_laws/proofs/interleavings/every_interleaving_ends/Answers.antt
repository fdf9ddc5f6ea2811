use Rattle.job_laws.proofs.interleavings.Described.{bounded, exact}
use Rattle.job_laws.proofs.interleavings.every_interleaving_ends.Goals as goal

pub returns : goal.returns
returns c = record {
  bounded = λ bytes d slots steps strays world held is accepted reached. bounded bytes d slots steps strays world held is accepted reached;
  exact = λ bytes d slots steps strays world held is accepted reached still.
      exact bytes d slots steps strays world held is accepted reached still;
}
