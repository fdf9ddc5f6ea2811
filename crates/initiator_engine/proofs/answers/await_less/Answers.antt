use Rattle.ni_model.specs.Answers.{one_less}
use Rattle.initiator_engine.proofs.answers.await_less.Goals as goal

pub returns-in-Some-get_mut : goal.returns-in-Some-get_mut
returns-in-Some-get_mut c = rw (c.in-Some.is, c.saturating_sub-bound.ensures, c.in-Some-get_mut.ensures.once one_less)
