-- What a call that runs a given plan, or tells something of it, owes, and what holds after it.
use Rattle.std.specs.Prelude.{ℕ, ◌+◌, ◌≡◌, List, Option, None, drop, nat_lt, if◌then◌else◌}
use Rattle.port_io.specs.Counts.{Rose}
use Rattle.port_io.specs.Ends.{Inflow, Outflow}
use Rattle.coll_lang.specs.declared.fault.Refusal.TheVariants.{BadNumber}
use Rattle.plan_core.specs.Plan.{Plan}
use Rattle.given_verdicts.specs.declared.answer.FlawlessText.{FlawlessText}
use Rattle.given_verdicts.specs.declared.answer.Judged.{Judged}
use Rattle.given_verdicts.specs.declared.answer.Judged.TheVariants.{Answered, Flawless}
use Rattle.given_verdicts.specs.declared.judging.TheConstants.{LONGEST_GIVEN}
use Rattle.given_verdicts.specs.Answers.{judged_text}
use Rattle.run_text.specs.declared.status.Status.TheVariants.{Done, NoMemory, ReadFault, Refused, WriteFault}
use Rattle.run_text.specs.Ending.{Due, Leaves, MayAnswer, Stands, Written, done, refused}
use Rattle.worlds.specs.World.{WorldState}
use Rattle.verdict_laws.specs.GivenJobs.{flawless_job}
use Rattle.plan_words.specs.Graph.{graph_text}
use Rattle.plan_words.specs.Limits.{limits_text}
use Rattle.plan_words.specs.Words.{explained, rank_text}
use Rattle.plan_words.specs.Takes.{all_takes}
use Rattle.plan_top.specs.Owed.{owed_given}
use Rattle.given_top.specs.declared.runs.running.GivenRun.{GivenRun}
use Rattle.given_top.specs.declared.words.Purpose.{Purpose}
use Rattle.given_top.specs.declared.words.Purpose.TheVariants.{Run, Tell}
use Rattle.given_top.specs.declared.words.Telling.{Telling}
use Rattle.given_top.specs.declared.words.Telling.TheVariants.{Limits, Explain, ExplainRank, Graph}
use Rattle.given_top.specs.runs.GivenRuns.{LeavesGiven, RanNothing, owed_text}

-- ---- what is told of a plan whose text begins with line k

-- a rank that the plan doesn't have is refused
abbrev pub owed_telling : Telling → ℕ → Plan → Due
owed_telling Limits k p = done (limits_text (all_takes p))
owed_telling Explain k p = done (explained k p)
owed_telling (ExplainRank r) k p = if nat_lt r p.ranks then done (rank_text k p r) else refused 0 BadNumber
owed_telling Graph k p = done (graph_text p)

-- ---- what is owed for a text that was judged, where the call leaves this world

-- what the results of its plan hold, or what is told of it
abbrev pub owed_for : Purpose → FlawlessText → Option WorldState → Due
owed_for (Run mode) t w = done (owed_text mode t.description.shape w)
owed_for (Tell telling) t w = owed_telling telling t.line t.given.plan

-- or the answer on it
abbrev pub owed_run : Purpose → Judged → Option WorldState → Due
owed_run purpose (Answered answer) w = owed_given answer
owed_run purpose (Flawless t) w = owed_for purpose t w

-- the world that is left: of the text's plan, at rest, every rank complete, and run as the mode asks for it; or none, where nothing ran
abbrev pub LeavesFor : Purpose → FlawlessText → Option WorldState → Type 0
LeavesFor (Run mode) t w = LeavesGiven mode (flawless_job t) w
LeavesFor (Tell telling) t w = w ≡ None

abbrev pub LeavesIn : Purpose → Judged → Option WorldState → Type 0
LeavesIn purpose (Answered answer) w = w ≡ None
LeavesIn purpose (Flawless t) w = LeavesFor purpose t w

-- after a text was judged, and perhaps run; a text is refused, and memory lacks, where nothing ran
pub record RanText (purpose : Purpose) (judged : Judged) (sink sink' : Outflow) (run : GivenRun) : Type 0 where
  pub written : Written (owed_run purpose judged run.world) sink sink' run.status
  pub world : run.status ≡ Done → LeavesIn purpose judged run.world
  pub world_at_fault : run.status ≡ WriteFault → LeavesIn purpose judged run.world
  pub refused : run.status ≡ Refused → RanNothing run
  pub no_memory : run.status ≡ NoMemory → RanNothing run

-- All that holds after a call that does this with a plan, the source having these bytes: of them one more than the longest text is read.
pub record RunAnswered (purpose : Purpose) (bytes : List ℕ) (source source' : Inflow) (sink sink' : Outflow) (run : GivenRun) : Type 0
  where
    pub allowed : MayAnswer run.status (owed_run purpose (judged_text bytes) run.world).status
    pub text : Stands run.status sink sink' (owed_run purpose (judged_text bytes) run.world).text
    pub world : run.status ≡ Done → LeavesIn purpose (judged_text bytes) run.world
    pub world_at_fault : run.status ≡ WriteFault → LeavesIn purpose (judged_text bytes) run.world
    pub refused : run.status ≡ Refused → RanNothing run
    pub no_memory : run.status ≡ NoMemory → RanNothing run
    pub read_fault : run.status ≡ ReadFault → Rose source.faults source'.faults × RanNothing run
    pub write_fault : run.status ≡ WriteFault → Rose sink.faults sink'.faults
    pub rest : Leaves run.status source' (drop (LONGEST_GIVEN + 1) bytes)
