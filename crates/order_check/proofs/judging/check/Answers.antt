use Rattle.std.proofs.Common.{ℕ, ◌+◌, ◌∙◌, length, sym, subst}
use Rattle.ptl_types.specs.declared.steps.Cause.TheVariants.{NotAtRest}
use Rattle.cuts.specs.view.Slots.{Slots}
use Rattle.cuts.specs.histories.Plans.{system_of}
use Rattle.cuts.specs.orders.Verdict.{IsVerdict}
use Rattle.cuts.specs.declared.orders.Verdict.TheVariants.{Fails, Holds}
use Rattle.worlds.specs.World.{histories_in}
use Rattle.order_check.specs.Listing.{lists_of}
use Rattle.order_check.proofs.Verdicts.{of_job, quiet_says, restless_says, unfinished_says, verdict_on}
use Rattle.order_check.proofs.judging.check.Goals as goal

pub returns-in-Some : goal.returns-in-Some
returns-in-Some c =
    let w = c.take_all.new.world in
    let lists = lists_of c.args.orders.now in
    let work = c.in_ok-take_all.ensures.taken in
    let opened = c.in_ok-world.ensures in
    record {
      exact = of_job w c.args.job.now lists c.in-Some.verdict (c.take_all.ensures.later.schedule ∙ opened.schedule)
          (c.take_all.ensures.later.inputs ∙ opened.inputs)
          (verdict_on w lists work c.in-Some.verdict (unfinished_says w lists work c.in-Some.verdict c.in-Some.ensures));
    }

pub returns-in-None : goal.returns-in-None
returns-in-None c =
    let w = c.take_all.new.world in
    let lists = lists_of c.args.orders.now in
    let work = c.in_ok-take_all.ensures.taken in
    let opened = c.in_ok-world.ensures in
    record {
      exact = of_job w c.args.job.now lists Holds (c.take_all.ensures.later.schedule ∙ opened.schedule)
          (c.take_all.ensures.later.inputs ∙ opened.inputs)
          (verdict_on w lists work Holds (quiet_says w lists work c.in_default.ensures c.in-None.ensures));
    }

pub returns : goal.returns
returns c =
    let w = c.take_all.new.world in
    let lists = lists_of c.args.orders.now in
    let job = c.args.job.now in
    let work = c.in_ok-take_all.ensures.taken in
    let opened = c.in_ok-world.ensures in
    let r = c.in-Some-restless.r in
    let v = Fails r (length (histories_in w r) + 1) NotAtRest in
    record {
      exact = subst (λ v. (slots : ℕ → Slots) → IsVerdict (system_of job.schedule.plan job.inputs slots) lists v) (sym c.fails.ensures)
          (of_job w job lists v (c.take_all.ensures.later.schedule ∙ opened.schedule) (c.take_all.ensures.later.inputs ∙ opened.inputs)
          (verdict_on w lists work v (restless_says w lists work c.in_default.ensures r c.in-Some-restless.ensures.0
          c.in-Some-restless.ensures.1 c.in-Some-restless.ensures.2)));
    }
