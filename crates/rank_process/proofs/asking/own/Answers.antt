-- A description's own plan has its buffers.
use Rattle.std.proofs.Common.{◌≡◌, ◌∙◌, Ok, None, ap₂, inl, length, subst, sym}
use Rattle.coll_lang.specs.Language.{read}
use Rattle.coll_lang.specs.Program.{Program}
use Rattle.coll_shape.specs.Meaning.{Lists}
use Rattle.coll_shape.specs.Outline.{Outline}
use Rattle.schedule_compiler.proofs.shapes.Final.{fine-shape}
use Rattle.schedule_compiler.specs.Jobs.{JobOf, job_of}
use Rattle.schedule_compiler.specs.shapes.Footprint.{refusal}
use Rattle.rank_process.specs.lines.Rank.{Work}
use Rattle.rank_process.proofs.asking.own.Goals as goal

abbrev work_for : Outline → JobOf → Work
work_for o job = record { shape = o; schedule = job.schedule; inputs = job.inputs }

pub returns-clause-asks : goal.returns-clause-asks
returns-clause-asks c = λ text is.
    let d = c.in_ok-planned.field-0 in
    let parts = c.into_parts-shape.ensures in
    let o = c.into_parts-shape.result.0 in
    let shape : o ≡ d.shape = parts.shape in
    let known = c.in_ok-job.ensures in
    let job : c.in_ok-job.job ≡ job_of d.shape d.inputs =
    known.job ∙ ap₂ (λ (x : Outline) (l : Lists). job_of x l) shape parts.inputs in
    record {
      asks = inl (
        d,
        record {
          read = subst (λ (x : Program). read text ≡ Ok x) (sym c.in_ok-planned.ensures.same) is;
          planned = c.in_ok-planned.ensures.planned;
          accepted = subst (λ (x : Outline). refusal x ≡ None) shape known.accepted;
        },
        ap₂ work_for shape job,
      );
      buffers =
          subst (λ (j : JobOf). j.schedule.held.buffers ≡ length o.buffers) (sym known.job)
          (fine-shape o c.recall_form.ensures.shape).held_buffers;
    }
