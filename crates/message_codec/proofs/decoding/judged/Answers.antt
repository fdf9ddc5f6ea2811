-- By the fault that was found, or that there is none.
use Rattle.std.proofs.Common.{ap, sym, ◌∙◌}
use Rattle.message_codec.specs.Reading.{judged}
use Rattle.message_codec.proofs.decoding.judged.Goals as goal

pub returns-in-Some-clause-exact : goal.returns-in-Some-clause-exact
returns-in-Some-clause-exact c = ap (judged c.args.header c.args.list.now) (sym c.fault_of.ensures ∙ c.in-Some.is)
