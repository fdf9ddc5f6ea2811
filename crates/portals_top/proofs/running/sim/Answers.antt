use Rattle.std.proofs.Common.{Some, ap}
use Rattle.portals_top.specs.Answered.{LeavesWorld}
use Rattle.portals_top.specs.declared.ran.Ran.{Ran}
use Rattle.portals_top.specs.declared.words.Command.TheVariants.{Execute}
use Rattle.job_runs.specs.declared.modes.Mode.TheVariants.{Sim}
use Rattle.portals_top.proofs.Rests.{handed-of, resting-of, same-mode, written-of}
use Rattle.portals_top.proofs.running.sim.Goals as goal

pub write_ordered-written-requires-clause-gives : goal.write_ordered-written-requires-clause-gives
write_ordered-written-requires-clause-gives g c =
    resting-of _ _ _ _ c.in-Ok-run_chosen.ensures.0 c.shape.ensures.value

pub returns : goal.returns
returns g c =
    let left = c.in-Ok-run_chosen.ensures in
    rw c.status_of.ensures (record {
      written = written-of _ _ _ _ (same-mode (Sim c.args.seed) _ _ _ _ _ _ _
          (Some c.in-Ok-run_chosen.world) c.shape.ensures.value left.0.inputs c.write_ordered-written.ensures);
      world = handed-of (LeavesWorld (Execute (Sim c.args.seed)) c.args.job.now.shape c.args.job.now.inputs) _ _
          (left, ap (λ (r : Ran). r.choice) c.requires.none);
    })
