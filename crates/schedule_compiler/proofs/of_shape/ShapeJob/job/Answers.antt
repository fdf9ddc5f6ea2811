-- By what a job of a shape keeps.
use Rattle.std.proofs.Common.{◌≡◌, ◌∙◌, None, ap, subst}
use Rattle.coll_shape.specs.Meaning.{AreInputs}
use Rattle.coll_shape.specs.WellFormed.{IsWellFormed}
use Rattle.schedule_compiler.specs.shapes.Footprint.{refusal}
use Rattle.schedule_compiler.specs.Jobs.{ShapeJobOf, job_of}
use Rattle.schedule_compiler.proofs.of_shape.ShapeJob.job.Goals as goal

pub returns-clause-value : goal.returns-clause-value
returns-clause-value c = c.self.invariant.made ∙ ap (λ (j : ShapeJobOf). job_of j.shape j.inputs) c.self.view_is

pub returns-clause-formed : goal.returns-clause-formed
returns-clause-formed c = subst (λ (j : ShapeJobOf). IsWellFormed j.shape) c.self.view_is c.recall_form.ensures.shape

pub returns-clause-accepted : goal.returns-clause-accepted
returns-clause-accepted c = subst (λ (j : ShapeJobOf). refusal j.shape ≡ None) c.self.view_is c.self.invariant.accepted

pub returns-clause-inputs : goal.returns-clause-inputs
returns-clause-inputs c = subst (λ (j : ShapeJobOf). AreInputs j.shape j.inputs) c.self.view_is c.self.invariant.given
