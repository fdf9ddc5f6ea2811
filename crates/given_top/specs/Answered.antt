-- What holds after a call with any words.
use Rattle.std.specs.Prelude.{ℕ, List, Option, Some, None}
use Rattle.port_io.specs.Ends.{Inflow, Outflow}
use Rattle.run_text.specs.Ending.{IsTold}
use Rattle.plan_top.specs.Explained.{Explained}
use Rattle.plan_top.specs.Owed.{PlanAnswered}
use Rattle.given_top.specs.declared.runs.running.GivenRun.{GivenRun}
use Rattle.given_top.specs.declared.words.Form.{Form}
use Rattle.given_top.specs.declared.words.Form.TheVariants.{Judge, Use, Check, Cost}
use Rattle.given_top.specs.Checked.{CheckAnswered}
use Rattle.given_top.specs.Costed.{CostAnswered}
use Rattle.given_top.specs.Explained.{BesideForm}
use Rattle.given_top.specs.Ran.{RunAnswered}
use Rattle.given_top.specs.runs.GivenRuns.{RanNothing}
use Rattle.given_top.specs.Usage.{UsageAnswered}
use Rattle.given_top.specs.Words.{form_of}

-- by what is asked for, the source having these bytes
abbrev pub AnswersForm : Form → List ℕ → Inflow → Inflow → Outflow → Outflow → GivenRun → Type 0
AnswersForm (Judge request) bytes source source' sink sink' run =
    PlanAnswered request bytes source source' sink sink' run.status × RanNothing run
AnswersForm (Use purpose) bytes source source' sink sink' run = RunAnswered purpose bytes source source' sink sink' run
AnswersForm Check bytes source source' sink sink' run = CheckAnswered bytes source source' sink sink' run
AnswersForm (Cost numbers) bytes source source' sink sink' run = CostAnswered numbers bytes source source' sink sink' run

-- By the words, with what standard error took beside it; those that ask for nothing leave the source as it is.
abbrev pub AnswersAs : Option Form → Inflow → Inflow → Outflow → Outflow → Outflow → Outflow → GivenRun → Type 0
AnswersAs (Some form) source source' sink sink' notes notes' run =
    (bytes : List ℕ) × IsTold source.left bytes × AnswersForm form bytes source source' sink sink' run
    × Explained (BesideForm form bytes sink sink') run.status notes notes'
AnswersAs None source source' sink sink' notes notes' run =
    UsageAnswered source source' sink sink' run × Explained (λ text. ⊥) run.status notes notes'

abbrev pub AnswersWords : List (List ℕ) → Inflow → Inflow → Outflow → Outflow → Outflow → Outflow → GivenRun → Type 0
AnswersWords words source source' sink sink' notes notes' run =
    AnswersAs (form_of words) source source' sink sink' notes notes' run
