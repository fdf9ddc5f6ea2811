-- The lane is as it was laid.
use Rattle.std.proofs.Common.{◌≡◌, ◌∙◌, ap, arith, ℕ, ◌<◌, length}
use Rattle.schedule_compiler.specs.Schedules.{ScheduleOf}
use Rattle.ptl_types.specs.declared.headers.Lane.TheVariants.{Request}
use Rattle.ptl_types.specs.declared.headers.Lane.{Lane}
use Rattle.pair_wires.specs.Lanes.{Plain}
use Rattle.cuts.specs.windows.Places.{lane_place}
use Rattle.schedule_compiler.specs.Jobs.{JobOf}
use Rattle.worlds.specs.parts.Layout.{lane_at}
use Rattle.worlds.specs.FrameState.{FrameState}
use Rattle.worlds.specs.Frames.{IsFrameOf, lane_in}
use Rattle.world_cases.proofs.frames.held_first.Goals as goal

-- a lane of an opened frame
laid_empty : (job : JobOf) (f : FrameState) → IsFrameOf job f → (s d : ℕ) (lane : Lane) → s < job.schedule.plan.ranks
    → d < job.schedule.plan.ranks
    → length (lane_in f s d lane).messages ≡ 0
laid_empty job f is s d lane hs hd =
    ap (λ (o : ScheduleOf). length (lane_at f.lanes (lane_place o.plan.ranks s d lane)).messages) is.schedule
    ∙ ap (λ (l : Plain). length l.messages) (is.lanes s d lane hs hd)

pub returns : goal.returns
returns c =
    let job = c.args.job.now in
    let e : c.ranks.result ≡ job.schedule.plan.ranks = c.ranks.ensures.value
    ∙ ap (λ (o : ScheduleOf). o.plan.ranks) c.schedule-schedule.ensures in
    let t = c.if-ranks-lt2.false in
    c.held.ensures.count ∙ laid_empty job c.in-Ok.frame c.in-Ok.ensures 0 1 Request (omega (arith, t, e)) (omega (arith, t, e))
