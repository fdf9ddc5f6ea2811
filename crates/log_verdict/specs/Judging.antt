-- The verdict on a log, line by line.
use Rattle.std.specs.Prelude.{ℕ, ◌+◌, ◌-◌, ◌^◌, ◌≡◌, nat_lt, Bool, true, false, List, [], ◌∷◌, length, Option, Some, None}
use Rattle.std.specs.Prelude.{Ok, Err, codes, if◌then◌else◌}
use Rattle.std.specs.Str.{bytes_eq}
use Rattle.ptl_types.specs.Handles.{one_more}
use Rattle.coll_text.specs.Text.{is_empty, lines as lines_of, number_between, words}
use Rattle.log_words.specs.declared.faults.Flaw.{Flaw}
use Rattle.log_words.specs.declared.faults.Flaw.TheVariants.{AfterEnd, BadHeader, TooLong, Unended}
use Rattle.log_words.specs.declared.faults.LineFault.{LineFault}
use Rattle.log_lines.specs.Lines.{read_line}
use Rattle.log_lines.specs.declared.lines.Line.{Line}
use Rattle.log_lines.specs.declared.lines.Line.TheVariants as lines
use Rattle.log_lines.specs.declared.lines.TheConstants.{LONGEST_LINE}
use Rattle.log_verdict.specs.Answering.{Came}
use Rattle.log_verdict.specs.Scenes.{no_interfaces}
use Rattle.log_verdict.specs.Steps.{LineCame}
use Rattle.log_verdict.specs.declared.answering.Step.{Step}
use Rattle.log_verdict.specs.declared.answering.Step.TheVariants as steps
use Rattle.log_verdict.specs.declared.judge.Judge.{Judge}
use Rattle.log_verdict.specs.declared.judge.Stage.{Stage}
use Rattle.log_verdict.specs.declared.judge.Stage.TheVariants.{Header, Ranks, Body, Ended}
use Rattle.log_verdict.specs.declared.judge.Taken.{Taken}
use Rattle.log_verdict.specs.declared.judge.Taken.TheVariants as takes
use Rattle.log_verdict.specs.declared.judge.Verdict.{Verdict}
use Rattle.log_verdict.specs.declared.judge.Verdict.TheVariants as verdicts

-- no line was taken yet; where `filling` is set the answers of calls are written, and else they are judged
pub record IsNew (filling any_order : Bool) (j : Judge) : Type 0 where
  pub fills : j.fills ≡ filling
  pub stage : j.stage ≡ Header
  pub line : j.line ≡ 0
  pub calls : j.calls ≡ 0
  pub scene : j.scene ≡ no_interfaces 0 any_order

-- the judge after a line, and what became of the line
pub record Took : Type 0 where
  pub judge : Judge
  pub taken : Taken

abbrev pub took : Judge → Taken → Took
took j t = record { judge = j; taken = t }

-- the number of the line that is taken
abbrev pub next_line : Judge → Judge
next_line j = record j { line = one_more j.line }

abbrev pub refuses : Judge → ℕ → Flaw → Took
refuses j column flaw = took j (takes.Ends (verdicts.Refused j.line column flaw))

-- a line that is too long, at the first byte that is too many
abbrev pub too_long : List ℕ → Bool
too_long line = nat_lt LONGEST_LINE (length line)

abbrev pub refuses_long : Judge → Took
refuses_long j = refuses j (LONGEST_LINE + 1) TooLong

-- `ni 1`
abbrev pub heads : Judge → List ℕ → Took
heads j line =
    if too_long line then refuses_long j
    else if bytes_eq line (codes "ni 1") then took (record j { stage = Ranks }) takes.Goes
    else refuses j 1 BadHeader

-- `ranks N`
abbrev pub ranks_of : List (List ℕ) → Option ℕ
ranks_of (key ∷ n ∷ []) = if bytes_eq key (codes "ranks") then number_between 1 (2 ^ 32 - 1) n else None
ranks_of _ = None

abbrev pub ranks_taken : Option ℕ → Judge → Took
ranks_taken None j = refuses j 1 BadHeader
ranks_taken (Some n) j = took (record j { scene = record j.scene { ranks = n }; stage = Body }) takes.Goes

abbrev pub tells_ranks : Judge → List ℕ → Took
tells_ranks j line = if too_long line then refuses_long j else ranks_taken (ranks_of (words line)) j

-- one call more, where the line is one
abbrev pub counted : Line → ℕ → ℕ
counted (lines.Calls rank call said) n = one_more n
counted _ n = n

abbrev pub with_counted : Line → Judge → Judge
with_counted l j = record j { calls = counted l j.calls }

abbrev pub became : Step → Line → Judge → Took
became steps.Goes l j = took (with_counted l j) takes.Goes
became (steps.Owes text) l j = took (with_counted l j) (takes.Owes text)
became (steps.Refused fault) l j = refuses j fault.column fault.flaw
became (steps.Differs column said owed) l j = took j (takes.Ends (verdicts.Differs j.line column said owed))

-- a line of which something comes
pub record StepTook (l : Line) (j : Judge) (t : Took) : Type 0 where
  pub came : Came
  pub comes : LineCame j.fills l j.scene came
  pub is : t ≡ became came.step l (record j { scene = came.scene })

-- a line behind the first two: `end`, one that is refused, or one of which something comes
pub data ShortTook (j : Judge) (line : List ℕ) (t : Took) : Type 0 where
  Over : bytes_eq line (codes "end") ≡ true → t ≡ took (record j { stage = Ended }) takes.Goes → ShortTook j line t
  Flawed : (fault : LineFault) → bytes_eq line (codes "end") ≡ false → read_line line ≡ Err fault
      → t ≡ refuses j fault.column fault.flaw → ShortTook j line t
  Reads : (l : Line) → bytes_eq line (codes "end") ≡ false → read_line line ≡ Ok l → StepTook l j t → ShortTook j line t

pub data BodyTook (j : Judge) (line : List ℕ) (t : Took) : Type 0 where
  Long : too_long line ≡ true → t ≡ refuses_long j → BodyTook j line t
  Short : too_long line ≡ false → ShortTook j line t → BodyTook j line t

-- the line that is due
abbrev pub StageTook : Stage → Judge → List ℕ → Took → Type 0
StageTook Header j line t = t ≡ heads j line
StageTook Ranks j line t = t ≡ tells_ranks j line
StageTook Body j line t = BodyTook j line t
StageTook Ended j line t = t ≡ refuses j 1 AfterEnd

unfoldable pub LineTook : Judge → List ℕ → Took → Type 0
LineTook j line t = StageTook j.stage j line t

-- the verdict where none was given before; `rest` are the bytes behind the last LF
abbrev pub refused : Judge → ℕ → Flaw → Verdict
refused j column flaw = verdicts.Refused j.line column flaw

abbrev pub ended_with : Judge → List ℕ → Verdict
ended_with j rest = if is_empty rest then verdicts.Conforms j.calls else refused j 1 AfterEnd

abbrev pub unended_with : Judge → List ℕ → Verdict
unended_with j rest = if too_long rest then refused j (LONGEST_LINE + 1) TooLong else refused j 1 Unended

abbrev pub end_at : Stage → Judge → List ℕ → Verdict
end_at Ended j rest = ended_with j rest
end_at _ j rest = unended_with j rest

unfoldable pub end_verdict : Judge → List ℕ → Verdict
end_verdict j rest = end_at j.stage j rest

-- the verdict that ends a log, where there is one
abbrev pub verdict_given : Taken → Option Verdict
verdict_given (takes.Ends v) = Some v
verdict_given _ = None

-- where answers are written, a line that is refused or differs changes nothing but the number of lines
abbrev pub Unchanged : Judge → Taken → Judge → Type 0
Unchanged j (takes.Ends v) k = j.fills ≡ true → k ≡ next_line j
Unchanged j _ k = Unit {0}

-- a line after which the log goes on
pub data Passes (j : Judge) (line : List ℕ) (k : Judge) : Type 0 where
  Judged : LineTook (next_line j) line (took k takes.Goes) → Passes j line k
  Written : (text : List ℕ) → LineTook (next_line j) line (took k (takes.Owes text)) → Passes j line k

-- the verdict on a line, where it gives one
abbrev pub LineJudged : Judge → List ℕ → Judge → Option Verdict → Type 0
LineJudged j line k None = Passes j line k
LineJudged j line k (Some v) = LineTook (next_line j) line (took k (takes.Ends v))

-- The verdict on a text from here on, cut at each LF: that of the first line which is refused or differs; where there is none, that of the
-- end, behind the last LF.
pub data Verdicts (v : Verdict) : Judge → List (List ℕ) → Type 0 where
  Stands : (j : Judge) (rest : List ℕ) → v ≡ end_verdict (next_line j) rest → Verdicts v j (rest ∷ [])
  EndsAt : (j k : Judge) (line : List ℕ) (pieces : List (List ℕ)) → (pieces ≡ [] → ⊥) → LineTook (next_line j) line (took k (takes.Ends v))
      → Verdicts v j (line ∷ pieces)
  GoesOn : (j k : Judge) (line : List ℕ) (pieces : List (List ℕ)) → Passes j line k → Verdicts v k pieces → Verdicts v j (line ∷ pieces)

-- the verdict on a whole log
pub record IsVerdict (any_order : Bool) (text : List ℕ) (v : Verdict) : Type 0 where
  pub judge : Judge
  pub is_new : IsNew false any_order judge
  pub stands : Verdicts v judge (lines_of text)
