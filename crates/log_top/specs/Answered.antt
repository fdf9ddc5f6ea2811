-- All that holds after a call of the program.
use Rattle.std.specs.Prelude.{ℕ, ◌≡◌, Bool, true, false, List, [], ◌∷◌, ◌++◌, Option, Some, None, codes, if◌then◌else◌}
use Rattle.std.specs.Str.{bytes_eq}
use Rattle.coll_text.specs.Text.{lines as lines_of}
use Rattle.port_io.specs.Counts.{Rose}
use Rattle.port_io.specs.Ends.{Inflow, Outflow}
use Rattle.log_verdict.specs.Filling.{Extent, IsFilled}
use Rattle.log_verdict.specs.Filling.Extent.{Begun, Stopped, Whole}
use Rattle.log_verdict.specs.Judging.{IsNew, IsVerdict, LineTook, Unchanged, next_line, took}
use Rattle.log_verdict.specs.declared.judge.Judge.{Judge}
use Rattle.log_verdict.specs.declared.judge.Taken.{Taken}
use Rattle.log_verdict.specs.declared.judge.Verdict.{Verdict}
use Rattle.log_verdict.specs.declared.judge.Verdict.TheVariants.{Conforms}
use Rattle.run_text.specs.Ending.{IsTold, Written}
use Rattle.run_text.specs.Putting.{Ends, FailsWithin, Takes}
use Rattle.run_text.specs.declared.status.Status.{Status}
use Rattle.run_text.specs.declared.status.Status.TheVariants.{Done, Usage, Refused, ReadFault, WriteFault, NoMemory}
use Rattle.log_words.specs.declared.faults.Flaw.{Flaw}
use Rattle.log_top.specs.Ending.{Explained}
use Rattle.log_top.specs.Telling.{flaw_of, owed_usage, owed_verdict, served, verdict_lines}
use Rattle.log_top.specs.declared.ending.Ended.{Ended}
use Rattle.log_top.specs.declared.top.Mode.{Mode}
use Rattle.log_top.specs.declared.top.Mode.TheVariants.{Judge as Judging, Fill, Serve}

-- ---- the words

abbrev pub mode_in : List ℕ → Option Mode
mode_in word =
    if bytes_eq word (codes "judge") then Some Judging
    else if bytes_eq word (codes "fill") then Some Fill
    else if bytes_eq word (codes "serve") then Some Serve
    else None

abbrev pub order_in : List (List ℕ) → Option Bool
order_in [] = Some false
order_in (word ∷ []) = if bytes_eq word (codes "any-order") then Some true else None
order_in _ = None

-- what is asked for, and whether messages of one lane may overtake each other
abbrev pub both_of : Option Mode → Option Bool → Option (Mode × Bool)
both_of (Some mode) (Some any_order) = Some (mode, any_order)
both_of _ _ = None

abbrev pub asked : List (List ℕ) → Option (Mode × Bool)
asked [] = None
asked (word ∷ words) = both_of (mode_in word) (order_in words)

-- ---- what stays in the source: an end of what it had

pub record Leaves (bytes : List ℕ) (source' : Inflow) : Type 0 where
  pub read : List ℕ
  pub rest : List ℕ
  pub parts : bytes ≡ read ++ rest
  pub told : IsTold source'.left rest

-- ---- `judge`: the lines of the verdict are written, as a whole, or a beginning of them where the sink fails; nothing, where the source
-- failed or there was no memory

pub data JudgeAnswers (any_order : Bool) (bytes : List ℕ) (source source' : Inflow) (sink sink' : Outflow) (ended : Ended) : Type 0 where
  Judged : (v : Verdict) → IsVerdict any_order bytes v → Written (owed_verdict v) sink sink' ended.status → ended.flaw ≡ flaw_of v
      → Leaves bytes source' → JudgeAnswers any_order bytes source source' sink sink' ended
  Unread : ended.status ≡ ReadFault → Rose source.faults source'.faults → sink' ≡ sink
      → JudgeAnswers any_order bytes source source' sink sink' ended
  Lacking : ended.status ≡ NoMemory → sink' ≡ sink → JudgeAnswers any_order bytes source source' sink sink' ended

-- ---- `fill`: the lines are written with their answers, and behind them the verdict, where one comes before the end. Filled in as a
-- whole it conforms. A beginning stands where the source or the sink failed, or there was no memory.

abbrev pub behind : Extent → List ℕ
behind Begun = []
behind (Whole calls) = []
behind (Stopped v) = verdict_lines v

pub data FillAnswers (any_order : Bool) (bytes : List ℕ) (source source' : Inflow) (sink sink' : Outflow) (ended : Ended) : Type 0 where
  Filled : (out : List ℕ) (calls : ℕ) → ended.status ≡ Done → IsFilled any_order bytes out (Whole calls)
      → IsVerdict any_order out (Conforms calls) → Ends sink sink' out → IsTold source'.left []
      → FillAnswers any_order bytes source source' sink sink' ended
  Stops : (out : List ℕ) (v : Verdict) → ended.status ≡ Refused → ended.flaw ≡ flaw_of v → IsFilled any_order bytes out (Stopped v)
      → Ends sink sink' (out ++ verdict_lines v) → Leaves bytes source' → FillAnswers any_order bytes source source' sink sink' ended
  Fails : (out : List ℕ) (extent : Extent) → ended.status ≡ WriteFault → IsFilled any_order bytes out extent
      → FailsWithin sink sink' (out ++ behind extent) → Leaves bytes source' → FillAnswers any_order bytes source source' sink sink' ended
  Unread : (out held : List ℕ) → ended.status ≡ ReadFault → Rose source.faults source'.faults → IsFilled any_order bytes out Begun
      → Takes sink sink' out held → FillAnswers any_order bytes source source' sink sink' ended
  Lacking : (out held : List ℕ) → ended.status ≡ NoMemory → IsFilled any_order bytes out Begun → Takes sink sink' out held
      → FillAnswers any_order bytes source source' sink sink' ended

-- ---- `serve`: each line gets its answer, and the sink is finished after each. A line that is refused or differs changes nothing.

-- so the lines are answered from here on, up to the last LF, or until there is a fault or no memory
pub data Serves (status : Status) : Judge → List (List ℕ) → Outflow → Outflow → Type 0 where
  Over : (j : Judge) (rest : List ℕ) (sink : Outflow) → status ≡ Done → Serves status j (rest ∷ []) sink sink
  Unread : (j : Judge) (pieces : List (List ℕ)) (sink : Outflow) → status ≡ ReadFault → Serves status j pieces sink sink
  Lacking : (j : Judge) (pieces : List (List ℕ)) (sink : Outflow) → status ≡ NoMemory → Serves status j pieces sink sink
  Fails : (j k : Judge) (line : List ℕ) (pieces : List (List ℕ)) (t : Taken) (sink sink' : Outflow) → status ≡ WriteFault
      → LineTook (next_line j) line (took k t) → FailsWithin sink sink' (served t) → Serves status j (line ∷ pieces) sink sink'
  GoesOn : (j k : Judge) (line : List ℕ) (pieces : List (List ℕ)) (t : Taken) (sink mid sink' : Outflow)
      → LineTook (next_line j) line (took k t) → Unchanged j t k → Ends sink mid (served t) → Serves status k pieces mid sink'
      → Serves status j (line ∷ pieces) sink sink'

pub record IsServed (any_order : Bool) (bytes : List ℕ) (sink sink' : Outflow) (status : Status) : Type 0 where
  pub judge : Judge
  pub is_new : IsNew true any_order judge
  pub serves : Serves status judge (lines_of bytes) sink sink'

pub record ServeAnswers (any_order : Bool) (bytes : List ℕ) (source source' : Inflow) (sink sink' : Outflow) (status : Status) : Type 0
  where
    pub served : IsServed any_order bytes sink sink' status
    pub read_fault : status ≡ ReadFault → Rose source.faults source'.faults
    pub over : status ≡ Done → IsTold source'.left []
    pub leaves : status ≡ WriteFault → Leaves bytes source'

-- ---- any words

abbrev pub Answers : Option (Mode × Bool) → List ℕ → Inflow → Inflow → Outflow → Outflow → Ended → Type 0
Answers None bytes source source' sink sink' ended = Written owed_usage sink sink' ended.status × (source' ≡ source)
Answers (Some (Judging, any_order)) bytes source source' sink sink' ended = JudgeAnswers any_order bytes source source' sink sink' ended
Answers (Some (Fill, any_order)) bytes source source' sink sink' ended = FillAnswers any_order bytes source source' sink sink' ended
Answers (Some (Serve, any_order)) bytes source source' sink sink' ended =
    ServeAnswers any_order bytes source source' sink sink' ended.status

-- The same for the bytes that the source tells, or for some where it tells none.
abbrev pub AnswersSome : Option (Mode × Bool) → Inflow → Inflow → Outflow → Outflow → Ended → Type 0
AnswersSome asks source source' sink sink' ended =
    (bytes : List ℕ) × IsTold source.left bytes × Answers asks bytes source source' sink sink' ended

-- The whole program: the text, and what is said on standard error.
pub record Does (asks : Option (Mode × Bool)) (source source' : Inflow) (sink sink' notes notes' : Outflow) (status : Status) : Type 0 where
  pub flaw : Option Flaw
  pub answers : AnswersSome asks source source' sink sink' (record { status = status; flaw = flaw })
  pub explained : Explained status flaw notes notes'
