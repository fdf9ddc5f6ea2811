use Rattle.std.proofs.Common.{add-one}
use Rattle.ni_model.specs.Starts.{one_awaited}
use Rattle.initiator_engine.proofs.starts.await_more.Goals as goal

pub returns-in-Some-get_mut : goal.returns-in-Some-get_mut
returns-in-Some-get_mut c = rw (c.in-Some.is, c.saturating_add-bound.ensures, add-one, c.in-Some-get_mut.ensures.once one_awaited)
