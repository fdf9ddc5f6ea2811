-- No place is taken.
use Rattle.mark_judge.proofs.Naming.{none_named}
use Rattle.mark_judge.proofs.named.no_names.Goals as goal

pub returns-in-Ok-clause-none : goal.returns-in-Ok-clause-none
returns-in-Ok-clause-none c = none_named c.in-Ok.named.items c.in-Ok.ensures.none
