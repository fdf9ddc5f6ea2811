use Rattle.ni_model.specs.Queues.{after_take}
use Rattle.portals_ni.proofs.queues.take_event.Goals as goal

pub returns-in-Some-clause-rest : goal.returns-in-Some-clause-rest
returns-in-Some-clause-rest c = rw (c.take.ensures.rest, c.in-Some.ensures.once after_take)
