use Rattle.std.proofs.Common.{subst}
use Rattle.schedule_compiler.specs.Jobs.{JobOf}
use Rattle.job_runs.specs.Runs.{IsJobRun}
use Rattle.portals_top.proofs.Rests.{run-of}
use Rattle.portals_top.proofs.running.run_once.Goals as goal

pub returns : goal.returns
returns c =
    let run = subst (λ (j : JobOf). IsJobRun j c.in_ok-world.world) c.job.ensures.value c.in_ok-world.ensures.0 in
    (run-of _ _ _ c.job.ensures.formed c.job.ensures.accepted c.job.ensures.inputs run, c.in_ok-world.ensures.1)
