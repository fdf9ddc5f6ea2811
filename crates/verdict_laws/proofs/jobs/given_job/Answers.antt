use Rattle.std.proofs.Common.{ℕ, ◌<◌, ◌∙◌, List, ap, length, subst, sym}
use Rattle.coll_shape.specs.declared.types.Buffer.{Buffer}
use Rattle.plan_core.specs.Draw.{HeldCells}
use Rattle.schedule_compiler.specs.Jobs.{AreInputsFor}
use Rattle.schedule_compiler.specs.Keeping.{CanRun}
use Rattle.schedule_compiler.specs.Schedules.{ScheduleOf, scheduled}
use Rattle.verdict_laws.specs.GivenJobs.{no_cells, results_of}
use Rattle.verdict_laws.proofs.jobs.Holding.{are_named, within}
use Rattle.verdict_laws.proofs.jobs.Naming.{named-buffers}
use Rattle.verdict_laws.proofs.jobs.given_job.Goals as goal

pub results_of-requires : goal.results_of-requires
results_of-requires c =
    within c.args.plan c.args.shape.now c.args.done.now c.args.marks.now c.requires.flawless c.recall_form.ensures.shape

pub of-requires-clause-can : goal.of-requires-clause-can
of-requires-clause-can c =
    let p = c.args.plan in
    let o = c.args.shape.now in
    let said = c.args.done.now in
    let ms = c.args.marks.now in
    let inside = within p o said ms c.requires.flawless c.recall_form.ensures.shape in
    let can = c.flawless_plans_can_run.ensures.can_run p o said ms (results_of o ms) c.requires.flawless c.requires.at_most
    (are_named p o said ms c.requires.flawless inside) in
    subst (λ (h : HeldCells). CanRun (scheduled p h c.input_count-count.result)) (sym c.in_ok-held.ensures)
    (subst (λ (n : ℕ). CanRun (scheduled p (results_of o ms) n)) (sym c.input_count-count.ensures.value) can)

pub of-requires-clause-buffers : goal.of-requires-clause-buffers
of-requires-clause-buffers c =
    ap (λ (l : List Buffer). length l) c.buffers.ensures.value
    ∙ sym (ap (λ (h : HeldCells). h.buffers) c.in_ok-held.ensures ∙ named-buffers (no_cells c.args.shape.now) c.args.marks.now)

pub new-requires : goal.new-requires
new-requires c =
    let given = c.requires.inputs in
    let fits : AreInputsFor (scheduled c.args.plan c.in_ok-held.held c.input_count-count.result) c.args.inputs = record {
      many = given.many ∙ sym c.input_count-count.ensures.value;
      lists = λ b low. given.ranks b (subst (λ n. b < n) given.many low) ∙ sym c.requires.flawless.ranks;
      fit =
          c.flawless_plans_can_run.ensures.inputs c.args.plan c.args.shape.now c.args.done.now c.args.marks.now c.args.inputs
          c.requires.flawless given;
    } in
    subst (λ (s : ScheduleOf). AreInputsFor s c.args.inputs) (sym c.in_ok-schedule.ensures) fits
