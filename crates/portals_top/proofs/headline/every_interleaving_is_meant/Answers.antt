use Rattle.portals_top.proofs.Interleavings.{every_interleaving}
use Rattle.portals_top.proofs.headline.every_interleaving_is_meant.Goals as goal

pub returns : goal.returns
returns c = λ bytes d slots world held is accepted reached still. every_interleaving bytes d slots world held is accepted reached still
