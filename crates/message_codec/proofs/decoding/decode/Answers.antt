-- What is encoded reads as its message again.
use Rattle.std.proofs.Common.{ap, subst, ◌∙◌}
use Rattle.message_codec.specs.Reading.{reading, Gives}
use Rattle.message_codec.proofs.Laws.{again}
use Rattle.message_codec.proofs.decoding.decode.Goals as goal

pub returns-clause-only : goal.returns-clause-only
returns-clause-only c = λ m has e. subst (λ r. Gives c.decoded.result r) (ap reading e ∙ again m has) c.decoded.ensures.exact
