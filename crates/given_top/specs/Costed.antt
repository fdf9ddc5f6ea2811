-- What a call that tells what a given plan takes in time owes, and what holds after it.
use Rattle.std.specs.Prelude.{ℕ, ◌+◌, ◌^◌, ◌≤◌, ◌≡◌, List, Option, Some, None, drop}
use Rattle.port_io.specs.Counts.{Rose}
use Rattle.port_io.specs.Ends.{Inflow, Outflow}
use Rattle.coll_lang.specs.declared.fault.Refusal.TheVariants.{TooLong}
use Rattle.plan_core.specs.Plan.{Plan}
use Rattle.plan_costs.specs.declared.numbers.LogGp.{LogGp}
use Rattle.plan_costs.specs.Times.{in_turn}
use Rattle.plan_words.specs.Costs.{CostOf, IsCostOf, cost_text}
use Rattle.given_verdicts.specs.declared.answer.Judged.{Judged}
use Rattle.given_verdicts.specs.declared.answer.Judged.TheVariants.{Answered, Flawless}
use Rattle.given_verdicts.specs.declared.judging.TheConstants.{LONGEST_GIVEN}
use Rattle.given_verdicts.specs.Answers.{judged_text}
use Rattle.run_text.specs.declared.status.Status.{Status}
use Rattle.run_text.specs.declared.status.Status.TheVariants.{Done, Usage, Refused, ReadFault, WriteFault, NoMemory}
use Rattle.run_text.specs.Ending.{Due, Leaves, MayAnswer, Stands, Written, done, refused}
use Rattle.plan_top.specs.Owed.{owed_given}
use Rattle.given_top.specs.declared.runs.running.GivenRun.{GivenRun}
use Rattle.given_top.specs.runs.GivenRuns.{RanNothing}

-- ---- what is owed of a plan whose text begins with line k: the lines of what it takes, or a refusal where that isn't found

abbrev pub owed_costs : LogGp → ℕ → Plan → Option CostOf → Due
owed_costs n k p (Some c) = done (cost_text n p c)
owed_costs n k p None = refused k TooLong

-- it isn't exactly where all messages one after the other take 2^64 picoseconds or more
abbrev pub AreCosts : LogGp → Plan → Option CostOf → Type 0
AreCosts n p (Some c) = IsCostOf n p c
AreCosts n p None = 2 ^ 64 ≤ in_turn n p

-- ---- what is owed for a text that was judged: of a plan in which no flaw was found this, else the answer on it

abbrev pub owed_cost : LogGp → Judged → Option CostOf → Due
owed_cost n (Answered answer) found = owed_given answer
owed_cost n (Flawless t) found = owed_costs n t.line t.given.plan found

abbrev pub FindsCost : LogGp → Judged → Option CostOf → Type 0
FindsCost n (Answered answer) found = found ≡ None
FindsCost n (Flawless t) found = AreCosts n t.given.plan found

-- what was found, where it or a beginning of its text was written
abbrev pub FoundCost : Status → LogGp → Judged → Option CostOf → Type 0
FoundCost Done n judged found = FindsCost n judged found
FoundCost Usage n judged found = Unit {0}
FoundCost Refused n judged found = FindsCost n judged found
FoundCost ReadFault n judged found = Unit {0}
FoundCost WriteFault n judged found = FindsCost n judged found
FoundCost NoMemory n judged found = Unit {0}

-- after the part of a call that judges and writes
abbrev pub Costs : LogGp → Judged → Outflow → Outflow → Status → Type 0
Costs n judged sink sink' status =
    (found : Option CostOf) × Written (owed_cost n judged found) sink sink' status × FoundCost status n judged found

-- All that holds after such a call, the source having these bytes: of them one more than the longest text is read. No world is left.
pub record CostAnswered (n : LogGp) (bytes : List ℕ) (source source' : Inflow) (sink sink' : Outflow) (run : GivenRun) : Type 0 where
  pub costs : Option CostOf
  pub found : FoundCost run.status n (judged_text bytes) costs
  pub allowed : MayAnswer run.status (owed_cost n (judged_text bytes) costs).status
  pub text : Stands run.status sink sink' (owed_cost n (judged_text bytes) costs).text
  pub read_fault : run.status ≡ ReadFault → Rose source.faults source'.faults
  pub write_fault : run.status ≡ WriteFault → Rose sink.faults sink'.faults
  pub rest : Leaves run.status source' (drop (LONGEST_GIVEN + 1) bytes)
  pub world : RanNothing run
