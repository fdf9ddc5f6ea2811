use Rattle.rank_process.proofs.Sums.{Summed}
use Rattle.rank_process.proofs.lanes.due_to.Given as goal

abbrev pub invariant-loop-source : goal.invariant-loop-source
invariant-loop-source l = Summed l.schedule.plan l.me l.source l.requests.items l.answers.items l.messages
