-- Each link of the list is one of the plan.
use Rattle.std.proofs.Common.{arith}
use Rattle.plan_judge.proofs.KnownLinks.{all_known}
use Rattle.plan_judge.proofs.guards.next_guarded.Goals as goal

pub is_guard-requires-clause-link : goal.is_guard-requires-clause-link
is_guard-requires-clause-link c = all_known c.args.plan.now c.args.c c.args.links.now c.requires.links c.loop-l.l-index 0 (omega arith)
