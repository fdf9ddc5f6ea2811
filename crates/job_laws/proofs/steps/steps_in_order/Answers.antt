-- By `Chain`.
use Rattle.job_laws.proofs.steps.Chain.{entry_in, exit_in, leads_first, leads_next, leads_through}
use Rattle.job_laws.proofs.steps.steps_in_order.Goals as goal

pub returns : goal.returns
returns c = record {
  entries = λ o a k i r at. entry_in o a k i r at;
  exits = λ o a k i r at. exit_in o a k i r at;
  begins = λ o a k i r at. leads_first o a k i r at;
  through = λ o a k i r at. leads_through o a k i r at;
  next = λ o a j k i m r before from to. leads_next o a j k i m r before from to;
}
