-- By the kind.
use Rattle.std.proofs.Common.{ap, arith}
use Rattle.plan_choice.specs.texts.view.Install.{counters_in, things_in}
use Rattle.plan_choice.proofs.ranks.installing.make_step.Goals as goal

pub make_elect-requires-clause-counters : goal.make_elect-requires-clause-counters
make_elect-requires-clause-counters c = let e = ap counters_in c.in-Elect.is in let r = c.requires.counters in omega (arith, e, r)

pub make_elect-requires-clause-descriptors : goal.make_elect-requires-clause-descriptors
make_elect-requires-clause-descriptors c = let e = ap things_in c.in-Elect.is in let r = c.requires.descriptors in omega (arith, e, r)

pub make_tickets-requires-clause-counters : goal.make_tickets-requires-clause-counters
make_tickets-requires-clause-counters c = let e = ap counters_in c.in-Tickets.is in let r = c.requires.counters in omega (arith, e, r)

pub make_tickets-requires-clause-descriptors : goal.make_tickets-requires-clause-descriptors
make_tickets-requires-clause-descriptors c = let e = ap things_in c.in-Tickets.is in let r = c.requires.descriptors in omega (arith, e, r)

pub returns-in-Elect : goal.returns-in-Elect
returns-in-Elect c = rw c.in-Elect.is c.make_elect.ensures

pub returns-in-Tickets : goal.returns-in-Tickets
returns-in-Tickets c = rw c.in-Tickets.is c.make_tickets.ensures
