-- The node has room for what is due.
use Rattle.std.proofs.Common.{subst, sym}
use Rattle.rank_frames.specs.Place.{PlaceState}
use Rattle.schedule_compiler.specs.Schedules.{ScheduleOf}
use Rattle.rank_process.specs.Opening.{IsDueTo, IsPlaceOf}
use Rattle.rank_process.proofs.Placed as at
use Rattle.rank_process.proofs.opening.placed.Goals as goal

pub of-requires : goal.of-requires
of-requires c =
    let s = c.args.job.now.schedule in
    let inputs = c.args.job.now.inputs in
    let known = c.recall_job.ensures in
    let due = subst (λ (x : ScheduleOf). IsDueTo x.plan c.args.me c.in_ok-due.due) c.schedule.ensures c.in_ok-due.ensures in
    let node = c.in_ok-node.ensures in
    at.placed s.plan inputs c.args.me c.in_ok-node.node c.in_ok-due.due known.sound known.few node.compiled node.node
    node.history node.strays node.first due

pub returns : goal.returns
returns c =
    let s = c.args.job.now.schedule in
    let inputs = c.args.job.now.inputs in
    let known = c.recall_job.ensures in
    let due = subst (λ (x : ScheduleOf). IsDueTo x.plan c.args.me c.in_ok-due.due) c.schedule.ensures c.in_ok-due.ensures in
    let node = c.in_ok-node.ensures in
    subst (λ (x : PlaceState). IsPlaceOf s.plan inputs c.args.me x) (sym c.of.ensures)
    (at.place-of s.plan inputs c.args.me c.in_ok-node.node c.in_ok-due.due known.sound known.few node.compiled node.node
    node.history node.strays node.first due)
