-- The job is that of the shape's plan.
use Rattle.std.proofs.Common.{◌∙◌, ap, refl, subst, sym}
use Rattle.schedule_compiler.specs.Jobs.{IsJobOf, JobOf, ShapeJobOf}
use Rattle.schedule_compiler.proofs.of_shape.ShapeJob.new.Goals as goal

pub with-requires : goal.with-requires
with-requires c =
    subst (IsJobOf c.args.shape) (sym c.in_ok-job.ensures)
    (record { accepted = c.requires.accepted; made = refl; given = c.requires.inputs })

pub returns : goal.returns
returns c =
    c.with.ensures
    ∙ ap (λ (j : JobOf). let s : ShapeJobOf = record { shape = c.args.shape; inputs = j.inputs } in s) c.in_ok-job.ensures
