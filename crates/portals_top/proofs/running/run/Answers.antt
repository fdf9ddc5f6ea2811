use Rattle.std.proofs.Common.{ap}
use Rattle.portals_top.specs.Answered.{LeavesWorld}
use Rattle.portals_top.specs.Begun.{mode_of}
use Rattle.portals_top.specs.declared.ran.Ran.{Ran}
use Rattle.portals_top.specs.declared.words.Command.TheVariants.{Execute}
use Rattle.portals_top.proofs.Rests.{handed-of, resting-of, same-mode, written-of}
use Rattle.portals_top.proofs.running.run.Goals as goal

pub write_run-written-requires-clause-resting : goal.write_run-written-requires-clause-resting
write_run-written-requires-clause-resting g c = λ κs within.
    resting-of _ _ _ _ c.in-Ok-run_by.ensures.0 c.shape.ensures.value

pub returns : goal.returns
returns g c =
    let left = c.in-Ok-run_by.ensures in
    rw c.status_of.ensures (record {
      written = written-of _ _ _ _ (same-mode (mode_of c.args.crew) _ _ _ _ _ _ _ _ c.shape.ensures.value left.0.inputs
          c.write_run-written.ensures);
      world = handed-of (LeavesWorld (Execute (mode_of c.args.crew)) c.args.job.now.shape c.args.job.now.inputs) _ _
          (left, ap (λ (r : Ran). r.choice) c.requires.none);
    })
