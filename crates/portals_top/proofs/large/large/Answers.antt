use Rattle.std.proofs.Common.{◌∙◌, ap}
use Rattle.coll_lang.specs.Generated.{generated}
use Rattle.portals_top.specs.Answered.{LeavesWorld}
use Rattle.portals_top.specs.declared.ran.Ran.{Ran}
use Rattle.portals_top.specs.declared.words.Command.TheVariants.{Execute}
use Rattle.job_runs.specs.declared.modes.Mode.TheVariants.{Run}
use Rattle.portals_top.proofs.Rests.{handed-of, resting-of, written-of}
use Rattle.portals_top.proofs.large.large.Goals as goal

pub write_sums-written-requires-clause-shape : goal.write_sums-written-requires-clause-shape
write_sums-written-requires-clause-shape g c = c.shape.ensures.value ∙ c.requires.shape

pub write_sums-written-requires-clause-inputs : goal.write_sums-written-requires-clause-inputs
write_sums-written-requires-clause-inputs g c = c.in-Ok-run_by_workers.ensures.0.inputs ∙ c.requires.inputs

pub write_sums-written-requires-clause-resting : goal.write_sums-written-requires-clause-resting
write_sums-written-requires-clause-resting g c =
    resting-of _ _ _ _ c.in-Ok-run_by_workers.ensures.0 c.shape.ensures.value

pub returns : goal.returns
returns g c =
    let run = c.in-Ok-run_by_workers.ensures.0 in
    let d = generated c.args.number in
    rw c.status_of.ensures (record {
      written = written-of _ _ _ _ c.write_sums-written.ensures;
      world = handed-of (LeavesWorld (Execute (Run c.args.workers)) d.shape d.inputs) _ _
          ((rw (c.requires.shape, c.requires.inputs) at run, c.in-Ok-run_by_workers.ensures.1), ap (λ (r : Ran). r.choice) c.requires.none);
    })
