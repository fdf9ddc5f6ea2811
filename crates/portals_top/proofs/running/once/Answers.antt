use Rattle.std.proofs.Common.{None, ap}
use Rattle.portals_top.specs.Answered.{LeavesWorld}
use Rattle.portals_top.specs.declared.ran.Ran.{Ran}
use Rattle.portals_top.specs.declared.words.Command.TheVariants.{Execute}
use Rattle.job_runs.specs.declared.modes.Mode.TheVariants.{Once}
use Rattle.portals_top.proofs.Rests.{handed-of, resting-of, same-mode, written-of}
use Rattle.portals_top.proofs.running.once.Goals as goal

pub write_result-written-requires-clause-gives : goal.write_result-written-requires-clause-gives
write_result-written-requires-clause-gives g c =
    resting-of _ _ _ _ c.in-Ok-run_once.ensures.0 c.shape.ensures.value

pub returns : goal.returns
returns g c =
    let left = c.in-Ok-run_once.ensures in
    rw c.status_of.ensures (record {
      written = written-of _ _ _ _ (same-mode Once _ _ _ _ _ _ _ None c.shape.ensures.value left.0.inputs
          c.write_result-written.ensures.ends);
      world = handed-of (LeavesWorld (Execute Once) c.args.job.now.shape c.args.job.now.inputs) _ _
          (left, ap (λ (r : Ran). r.choice) c.requires.none);
    })
