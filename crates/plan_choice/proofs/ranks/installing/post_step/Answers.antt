-- By the kind.
use Rattle.std.proofs.Common.{ap, arith}
use Rattle.plan_choice.specs.texts.view.Install.{counters_in, things_in}
use Rattle.plan_choice.proofs.ranks.installing.post_step.Goals as goal

pub post_elect-requires-clause-counters : goal.post_elect-requires-clause-counters
post_elect-requires-clause-counters c = let e = ap counters_in c.in-Elect.is in let r = c.requires.counters in omega (arith, e, r)

pub post_elect-requires-clause-descriptors : goal.post_elect-requires-clause-descriptors
post_elect-requires-clause-descriptors c = let e = ap things_in c.in-Elect.is in let r = c.requires.descriptors in omega (arith, e, r)

pub post_tickets-requires-clause-counters : goal.post_tickets-requires-clause-counters
post_tickets-requires-clause-counters c = let e = ap counters_in c.in-Tickets.is in let r = c.requires.counters in omega (arith, e, r)

pub post_tickets-requires-clause-descriptors : goal.post_tickets-requires-clause-descriptors
post_tickets-requires-clause-descriptors c = let e = ap things_in c.in-Tickets.is in let r = c.requires.descriptors in omega (arith, e, r)

pub returns-in-Elect : goal.returns-in-Elect
returns-in-Elect c = rw c.in-Elect.is c.post_elect.ensures

pub returns-in-Tickets : goal.returns-in-Tickets
returns-in-Tickets c = rw c.in-Tickets.is c.post_tickets.ensures
