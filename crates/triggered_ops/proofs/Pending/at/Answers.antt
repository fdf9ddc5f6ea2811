use Rattle.triggered_ops.proofs.Pending.at.Goals as goal

pub returns-in-Some-clause-found : goal.returns-in-Some-clause-found
returns-in-Some-clause-found g c = rw (← c.self.view_is, c.in-Some.ensures.some) c.numbered.ensures.found

pub returns-in-None-clause-none : goal.returns-in-None-clause-none
returns-in-None-clause-none g c = rw (← c.self.view_is) c.in-None.ensures.none
