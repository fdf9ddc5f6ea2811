-- What is written of a verdict, and as the answer to a line.
use Rattle.std.specs.Prelude.{ℕ, List, [], ◌∷◌, ◌++◌, Option, Some, None, codes, drop}
use Rattle.std.specs.Fmt.{decimal}
use Rattle.log_words.specs.declared.faults.Flaw.{Flaw}
use Rattle.log_words.specs.Flaws.{flaw_name}
use Rattle.log_verdict.specs.declared.judge.Taken.{Taken}
use Rattle.log_verdict.specs.declared.judge.Taken.TheVariants as takes
use Rattle.log_verdict.specs.declared.judge.Verdict.{Verdict}
use Rattle.log_verdict.specs.declared.judge.Verdict.TheVariants as verdicts
use Rattle.run_text.specs.Ending.{Due}
use Rattle.run_text.specs.declared.status.Status.{Status}
use Rattle.run_text.specs.declared.status.Status.TheVariants.{Done, Refused, Usage}

-- a number behind a space
abbrev pub spaced : ℕ → List ℕ
spaced n = 32 ∷ decimal n

-- `said` and `owed` stand on lines of their own, or on the same line: behind this byte
abbrev pub verdict_text : ℕ → Verdict → List ℕ
verdict_text part (verdicts.Conforms calls) = codes "conforms" ++ spaced calls ++ 10 ∷ []
verdict_text part (verdicts.Differs line column said owed) =
    codes "differs" ++ spaced line ++ spaced column ++ part ∷ codes "said" ++ said ++ part ∷ codes "owed" ++ owed ++ 10 ∷ []
verdict_text part (verdicts.Refused line column flaw) =
    codes "refused" ++ spaced line ++ spaced column ++ 32 ∷ flaw_name flaw ++ 10 ∷ []

-- the lines of a verdict
abbrev pub verdict_lines : Verdict → List ℕ
verdict_lines = verdict_text 10

-- the line that answers a line: `ok` where none is owed
abbrev pub served : Taken → List ℕ
served takes.Goes = codes "ok\n"
served (takes.Owes text) = drop 1 text ++ 10 ∷ []
served (takes.Ends v) = verdict_text 32 v

abbrev pub status_of : Verdict → Status
status_of (verdicts.Conforms calls) = Done
status_of (verdicts.Differs line column said owed) = Refused
status_of (verdicts.Refused line column flaw) = Refused

-- what is wrong with a text that is refused
abbrev pub flaw_of : Verdict → Option Flaw
flaw_of (verdicts.Conforms calls) = None
flaw_of (verdicts.Differs line column said owed) = None
flaw_of (verdicts.Refused line column flaw) = Some flaw

abbrev pub owed_verdict : Verdict → Due
owed_verdict v = record { status = status_of v; text = verdict_lines v }

abbrev pub usage_text : List ℕ
usage_text = codes "usage: portals_log judge | fill | serve [any-order]\n"

abbrev pub owed_usage : Due
owed_usage = record { status = Usage; text = usage_text }
