use Rattle.std.proofs.Common.{◌≡◌, ◌∙◌, ap, subst, sym}
use Rattle.cuts.specs.histories.Plans.{system_of}
use Rattle.cuts.specs.orders.Verdict.{IsVerdict}
use Rattle.order_check.specs.Listing.{lists_of}
use Rattle.schedule_compiler.specs.Jobs.{JobOf, job_of}
use Rattle.rank_slots.proofs.Slotwise.{on_ok}
use Rattle.portals_top.proofs.checking.verdict_on.Goals as goal

pub check-requires : goal.check-requires
check-requires c =
    c.requires.lists ∙ sym (c.shape_schedules.ensures.ranks c.args.shape.now c.recall_form.ensures.shape)
    ∙ sym (ap (λ (j : JobOf). j.schedule.plan.ranks) c.in_ok-job.ensures)

pub returns : goal.returns
returns c =
    let same : c.in_ok-job.job ≡ job_of c.args.shape.now c.args.inputs = c.in_ok-job.ensures in
    on_ok c.check.result
    (λ verdict told slots. subst (λ (j : JobOf). IsVerdict (system_of j.schedule.plan j.inputs slots) (lists_of c.args.orders.now) verdict)
    same (told slots))
    c.check.ensures.exact
