use Rattle.std.proofs.Common.{sym, subst}
use Rattle.given_lines.specs.Given.{Given}
use Rattle.schedule_compiler.specs.Jobs.{JobOf}
use Rattle.verdict_laws.specs.Flawless.{IsFlawless}
use Rattle.verdict_laws.specs.GivenJobs.{FitsShape}
use Rattle.verdict_laws.proofs.jobs.flawless_job.Goals as goal

pub returns-clause-fits : goal.returns-clause-fits
returns-clause-fits c =
    let o = c.into_parts-shape.result.0 in
    let plan = c.into_parts-plan.result.0 in
    let done = c.as_slice.result.now in
    let marks = c.as_slice-2.result.now in
    let given : Given = record { plan = plan; done = done; marks = marks } in
    let known = c.requires.flawless in
    let parts = c.into_parts-plan.ensures in
    let flawless : IsFlawless plan o done marks =
    rw (c.into_parts-shape.ensures.shape, parts.plan, c.as_slice.ensures.value, parts.done, c.as_slice-2.ensures.value, parts.marks)
    (record { ranks = known.ranks; plan = known.plan; lines = known.marks }) in
    rw (← c.into_parts-shape.ensures.shape) (subst (λ (j : JobOf). FitsShape o j.schedule) (sym c.in_ok-job.ensures)
    (c.given_jobs.ensures o given c.into_parts-shape.result.1 c.recall_form.ensures.shape flawless))
