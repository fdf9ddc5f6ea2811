use Rattle.ni_model.specs.Counts.{bump}
use Rattle.ni_objects.proofs.delivery.count.Goals as goal

pub returns-in-Some-get_mut : goal.returns-in-Some-get_mut
returns-in-Some-get_mut c = record { does = rw (c.in-Some.is, c.bump.ensures, c.in-Some-get_mut.ensures.once (bump c.args.by)) }
