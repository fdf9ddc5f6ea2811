use Rattle.ni_model.specs.Queues.{add_event}
use Rattle.ni_objects.proofs.delivery.raise.Goals as goal

pub returns-in-Some-get_mut : goal.returns-in-Some-get_mut
returns-in-Some-get_mut c = record { does = rw (c.in-Some.is, c.add.ensures, c.in-Some-get_mut.ensures.once (add_event c.args.event)) }
