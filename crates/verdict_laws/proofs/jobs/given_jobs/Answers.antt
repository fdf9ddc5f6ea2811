use Rattle.verdict_laws.specs.GivenJobs.{no_cells}
use Rattle.verdict_laws.proofs.jobs.Holding.{are_held, within}
use Rattle.verdict_laws.proofs.jobs.Naming.{named-buffers}
use Rattle.verdict_laws.proofs.jobs.given_jobs.Goals as goal

pub returns : goal.returns
returns c = λ o g inputs formed flawless. record {
  buffers = named-buffers (no_cells o) g.marks;
  ranks = flawless.ranks;
  held = are_held g.plan o g.done g.marks flawless (within g.plan o g.done g.marks flawless formed);
}
