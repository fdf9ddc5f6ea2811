-- Inputs of a shape are inputs of its plan.
use Rattle.std.proofs.Common.{◌≡◌, IfOk, subst, sym}
use Rattle.schedule_compiler.specs.Jobs.{AreInputsFor, JobOf}
use Rattle.schedule_compiler.specs.Schedules.{ScheduleOf}
use Rattle.schedule_compiler.proofs.Kept.{shape-inputs}
use Rattle.schedule_compiler.proofs.compiling.shape_job.Goals as goal

pub new-requires : goal.new-requires
new-requires c =
    subst (λ (s : ScheduleOf). AreInputsFor s c.args.inputs) (sym c.requires.schedule)
    (shape-inputs c.args.shape.now c.args.inputs c.recall_form.ensures.shape c.requires.inputs)

pub returns : goal.returns
returns c =
    subst (λ (s : ScheduleOf). IfOk c.new.result (λ j. j ≡ (let of : JobOf = record { schedule = s; inputs = c.args.inputs } in of)))
    c.requires.schedule c.new.ensures
