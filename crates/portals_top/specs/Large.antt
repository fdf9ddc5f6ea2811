-- What a run of the generated description owes, and what it leaves.
use Rattle.std.specs.Prelude.{ℕ, ◌≡◌, List, length}
use Rattle.coll_lang.specs.Generated.{generated}
use Rattle.coll_shape.specs.Meaning.{meaning_of}
use Rattle.port_io.specs.Counts.{Rose}
use Rattle.port_io.specs.Ends.{Inflow, Outflow}
use Rattle.run_text.specs.Summary.{summary_of}
use Rattle.schedule_compiler.specs.shapes.Drawing.{plan_of}
use Rattle.run_text.specs.declared.status.Status.{Status}
use Rattle.run_text.specs.declared.status.Status.TheVariants.{Done, WriteFault}
use Rattle.portals_top.specs.declared.ran.Ran.{Ran}
use Rattle.portals_top.specs.declared.words.Command.TheVariants.{Execute}
use Rattle.job_runs.specs.declared.modes.Mode.TheVariants.{Run}
use Rattle.portals_top.specs.Answered.{HandsBack, LeavesWorld}
use Rattle.run_text.specs.Ending.{Written, done}

-- the summary of the description that this number chooses: the size of its plan, and of each buffer that is printed the sum of what it
-- means
abbrev pub summary_text : ℕ → List ℕ
summary_text k =
    let d = generated k in
    let p = plan_of d.shape in
    summary_of k (length p.cells) (length p.links) d.shape (meaning_of d.shape d.inputs)

-- All that holds after the call: nothing is read, the summary is written, and the world that workers ran is handed back.
pub record Summed (number workers : ℕ) (source source' : Inflow) (sink sink' : Outflow) (ran : Ran) (status : Status) : Type 0 where
  pub written : Written (done (summary_text number)) sink sink' status
  pub write_fault : status ≡ WriteFault → Rose sink.faults sink'.faults
  pub untouched : source' ≡ source
  pub world : HandsBack status Done (LeavesWorld (Execute (Run workers)) (generated number).shape (generated number).inputs) ran
