-- By what the schedule keeps.
use Rattle.std.proofs.Common.{ap, arith, subst}
use Rattle.schedule_compiler.specs.Keeping.{AreHeld}
use Rattle.schedule_compiler.specs.Schedules.{ScheduleOf}
use Rattle.schedule_compiler.proofs.schedule.Schedule.result.Goals as goal

pub cell-requires-clause-buffer : goal.cell-requires-clause-buffer
cell-requires-clause-buffer c =
    let v = ap (λ (s : ScheduleOf). s.held.buffers) c.self.view_is in
    let h = c.requires.buffer in
    omega (arith, v, h)

pub cell-requires-clause-rank : goal.cell-requires-clause-rank
cell-requires-clause-rank c =
    let e = c.self.invariant.can.held.ranks in
    let v = ap (λ (s : ScheduleOf). s.plan.ranks) c.self.view_is in
    let h = c.requires.rank in
    omega (arith, e, v, h)

pub returns-clause-cell : goal.returns-clause-cell
returns-clause-cell c = λ d e.
    (subst (λ (s : ScheduleOf). AreHeld s.plan s.held) c.self.view_is c.self.invariant.can.held).cells
    c.args.buffer c.args.r d c.requires.buffer c.requires.rank e
