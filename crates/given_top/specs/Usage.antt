-- What is owed for words that ask for nothing.
use Rattle.std.specs.Prelude.{◌≡◌, ℕ, List, [], ◌∷◌, codes}
use Rattle.coll_text.specs.Text.{line}
use Rattle.port_io.specs.Counts.{Rose}
use Rattle.port_io.specs.Ends.{Inflow, Outflow}
use Rattle.run_text.specs.declared.status.Status.TheVariants.{Usage, WriteFault}
use Rattle.run_text.specs.Ending.{Due, MayAnswer, Stands}
use Rattle.given_top.specs.declared.runs.running.GivenRun.{GivenRun}
use Rattle.given_top.specs.runs.GivenRuns.{RanNothing}

abbrev pub usage_line : List ℕ
usage_line =
    line
    (codes "usage: portals_plan draw | verify | verify given | once | sim X | run W | trace W | steady W"
    ∷ codes "| check | limits | explain [RANK] | explain --dot | cost L o g G [O]" ∷ [])

abbrev pub owed_usage : Due
owed_usage = record { status = Usage; text = usage_line }

-- All that holds after a call with such words: the usage line was written, unless the sink failed, and the source is as it was.
pub record UsageAnswered (source source' : Inflow) (sink sink' : Outflow) (run : GivenRun) : Type 0 where
  pub allowed : MayAnswer run.status Usage
  pub text : Stands run.status sink sink' usage_line
  pub write_fault : run.status ≡ WriteFault → Rose sink.faults sink'.faults
  pub untouched : source' ≡ source
  pub world : RanNothing run
