use Rattle.std.proofs.Common.{◌≡◌, ◌∙◌, ap, subst, sym}
use Rattle.cuts.specs.histories.Plans.{system_of}
use Rattle.cuts.specs.orders.Verdict.{IsVerdict}
use Rattle.order_check.specs.Listing.{lists_of}
use Rattle.schedule_compiler.specs.Jobs.{JobOf}
use Rattle.std.proofs.lemmas.Result.{IfOk-weaker}
use Rattle.verdict_laws.specs.GivenJobs.{flawless_job}
use Rattle.given_top.proofs.checking.verdict_on.Goals as goal

pub check-requires : goal.check-requires
check-requires c = c.requires.lists ∙ sym (ap (λ (j : JobOf). j.schedule.plan.ranks) c.in_ok-job.ensures.job)

pub returns : goal.returns
returns c =
    let same : c.in_ok-job.job ≡ flawless_job c.args.found = c.in_ok-job.ensures.job in
    IfOk-weaker c.check.result _ _
    (λ verdict told slots. subst (λ (j : JobOf). IsVerdict (system_of j.schedule.plan j.inputs slots) (lists_of c.args.orders.now) verdict)
    same (told slots))
    c.check.ensures.exact
