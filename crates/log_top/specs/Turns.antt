-- What code has of each turn.
use Rattle.std.specs.Prelude.{ℕ, ◌≡◌, ◌≤◌, Bool, true, List, [], ◌∷◌, ◌++◌, Option, Some, None}
use Rattle.coll_text.specs.Text.{lines as lines_of}
use Rattle.port_io.specs.Counts.{Rose}
use Rattle.port_io.specs.Ends.{GivesFront, Inflow, IsAtEnd, Outflow}
use Rattle.log_verdict.specs.Filling.{Extent, FillEnds, FillGoes, Fills, IsFilled, fill_end}
use Rattle.log_verdict.specs.Judging.{IsVerdict, LineJudged, LineTook, Unchanged, Verdicts, end_verdict, next_line, took}
use Rattle.log_verdict.specs.declared.filler.Filler.{Filler}
use Rattle.log_verdict.specs.declared.judge.Judge.{Judge}
use Rattle.log_verdict.specs.declared.judge.Taken.{Taken}
use Rattle.log_verdict.specs.declared.judge.Verdict.{Verdict}
use Rattle.log_verdict.specs.declared.judge.Verdict.TheVariants.{Conforms}
use Rattle.run_text.specs.Ending.{IsTold}
use Rattle.run_text.specs.Putting.{Ends, FailsWithin, Takes}
use Rattle.run_text.specs.declared.status.Status.{Status}
use Rattle.run_text.specs.declared.status.Status.TheVariants.{Done, NoMemory, ReadFault, Refused, WriteFault}
use Rattle.log_top.specs.Answered.{IsServed, Leaves, Serves}
use Rattle.log_top.specs.Ending.{alone}
use Rattle.log_top.specs.Reading.{NoBreak, Reader, Reads}
use Rattle.log_top.specs.Telling.{flaw_of, served, verdict_lines}
use Rattle.log_top.specs.declared.ending.Ended.{Ended}
use Rattle.log_top.specs.declared.filling.Turn.{Turn}
use Rattle.log_top.specs.declared.filling.Turn.TheVariants as turns
use Rattle.log_top.specs.declared.reading.Read.{Read}
use Rattle.log_top.specs.declared.reading.Read.TheVariants.{Line, Long, Last}

-- ---- a line or the end is judged

abbrev pub JudgedRead : Judge → List ℕ → Read → Judge → Option Verdict → Type 0
JudgedRead j line Line k o = LineJudged j line k o
JudgedRead j line Long k o = LineJudged j line k o
JudgedRead j line Last k o = o ≡ Some (end_verdict (next_line j) line)

pub record JudgeTurn (j : Judge) (r : Reader) (source : Inflow) (k : Judge) (q : Reader) (source' : Inflow) (o : Option Verdict) : Type 0
  where
    pub read : Read
    pub reads : Reads r source q source' read
    pub judged : JudgedRead j q.line read k o

-- as far as it was read: what is left decides the verdict on the whole
pub record JudgedSoFar (any_order : Bool) (source now : Inflow) (r : Reader) (j : Judge) : Type 0 where
  pub past : List ℕ
  pub front : GivesFront source.left now.left past
  pub faults : source.faults ≤ now.faults
  pub goes : (rest : List ℕ) (v : Verdict) → Verdicts v j (lines_of (r.held ++ rest)) → IsVerdict any_order (past ++ rest) v

-- the verdict on the bytes of a source
pub record JudgedFrom (any_order : Bool) (source source' : Inflow) (v : Verdict) : Type 0 where
  pub bytes : List ℕ
  pub told : IsTold source.left bytes
  pub is : IsVerdict any_order bytes v
  pub leaves : Leaves bytes source'

-- ---- a line or the end is filled in

abbrev pub IsLine : Read → Type 0
IsLine Line = Unit {0}
IsLine Long = Unit {0}
IsLine Last = ⊥

abbrev pub StoppedRead : Read → Filler → List ℕ → Filler → Verdict → Type 0
StoppedRead Line f line g v = FillEnds f line g v
StoppedRead Long f line g v = FillEnds f line g v
StoppedRead Last f line g v = fill_end f line ≡ v

abbrev pub FilledRead : Filler → List ℕ → Read → Filler → Turn → Type 0
FilledRead f line read g (turns.Line text) = IsLine read × FillGoes f line g text
FilledRead f line read g (turns.Whole calls) = (read ≡ Last) × (fill_end f line ≡ Conforms calls)
FilledRead f line read g (turns.Stopped v) = StoppedRead read f line g v

pub record FillTurn (f : Filler) (r : Reader) (source : Inflow) (g : Filler) (q : Reader) (source' : Inflow) (t : Turn) : Type 0 where
  pub read : Read
  pub reads : Reads r source q source' read
  pub filled : FilledRead f q.line read g t

-- as far as it was read; what is held of the text that is to be written isn't in the sink yet
pub record FilledSoFar (any_order : Bool) (source now : Inflow) (r : Reader) (f : Filler) (sink sink_now : Outflow) (held : List ℕ) : Type 0
  where
    pub past : List ℕ
    pub front : GivesFront source.left now.left past
    pub faults : source.faults ≤ now.faults
    pub out : List ℕ
    pub takes : Takes sink sink_now out held
    pub goes : (rest later : List ℕ) (extent : Extent) → Fills f (lines_of (r.held ++ rest)) later extent
        → IsFilled any_order (past ++ rest) (out ++ later) extent

-- the end of a text is written, with the status that is owed
pub data Closes (owed : Status) (sink sink' : Outflow) (text : List ℕ) (status : Status) : Type 0 where
  Closed : status ≡ owed → Ends sink sink' text → Closes owed sink sink' text status
  Broke : status ≡ WriteFault → FailsWithin sink sink' text → Closes owed sink sink' text status
  Lacked : status ≡ NoMemory → sink' ≡ sink → Closes owed sink sink' text status

-- a line is written, or the sink fails
abbrev pub PutAs : Outflow → Outflow → List ℕ → List ℕ → Option Ended → Type 0
PutAs sink sink' text held None = Takes sink sink' text held
PutAs sink sink' text held (Some ended) = FailsWithin sink sink' text × (ended ≡ alone WriteFault)

-- what became of a line or of the end is written
abbrev pub TurnWritten : Outflow → Outflow → List ℕ → List ℕ → Turn → Option Ended → Type 0
TurnWritten sink sink' before held (turns.Line text) o = PutAs sink sink' (before ++ (text ++ 10 ∷ [])) held o
TurnWritten sink sink' before held (turns.Whole calls) None = ⊥
TurnWritten sink sink' before held (turns.Whole calls) (Some ended) = Closes Done sink sink' before ended.status
TurnWritten sink sink' before held (turns.Stopped v) None = ⊥
TurnWritten sink sink' before held (turns.Stopped v) (Some ended) =
    Closes Refused sink sink' (before ++ verdict_lines v) ended.status × (ended.flaw ≡ flaw_of v)

-- one turn; or nothing was read or written
pub data FilledOne (f : Filler) (r : Reader) (source : Inflow) (sink : Outflow) (before : List ℕ) (g : Filler) (q : Reader)
    (source' : Inflow) (sink' : Outflow) (held : List ℕ) (o : Option Ended) : Type 0 where
  Turned : (t : Turn) → FillTurn f r source g q source' t → TurnWritten sink sink' before held t o
      → FilledOne f r source sink before g q source' sink' held o
  NotRead : o ≡ Some (alone ReadFault) → Rose source.faults source'.faults → sink' ≡ sink
      → FilledOne f r source sink before g q source' sink' held o
  NoRoom : o ≡ Some (alone NoMemory) → sink' ≡ sink → FilledOne f r source sink before g q source' sink' held o

-- ---- a line is served; or there is none, and what stands behind the last LF was read

abbrev pub ServedAs : Judge → List ℕ → Judge → List ℕ → List ℕ → Option Taken → Type 0
ServedAs j bytes k line held (Some t) = (bytes ≡ line ++ 10 ∷ held) × LineTook (next_line j) line (took k t) × Unchanged j t k
ServedAs j bytes k line held None = (bytes ≡ line) × (held ≡ [])

pub record ServeTurn (j : Judge) (r : Reader) (source : Inflow) (k : Judge) (q : Reader) (source' : Inflow) (o : Option Taken) : Type 0
  where
    pub bytes : List ℕ
    pub line : List ℕ
    pub front : GivesFront source.left source'.left bytes
    pub faults : source.faults ≤ source'.faults
    pub no_break : NoBreak line
    pub served : ServedAs j (r.held ++ bytes) k line q.held o
    pub over : o ≡ None → IsAtEnd source'.left

pub record ServedSoFar (any_order : Bool) (source now : Inflow) (r : Reader) (j : Judge) (sink sink_now : Outflow) : Type 0 where
  pub past : List ℕ
  pub front : GivesFront source.left now.left past
  pub faults : source.faults ≤ now.faults
  pub goes : (rest : List ℕ) (sink' : Outflow) (status : Status) → Serves status j (lines_of (r.held ++ rest)) sink_now sink'
      → IsServed any_order (past ++ rest) sink sink' status

-- an answer is written, or the sink fails, or there is no memory
abbrev pub AnsweredAs : Outflow → Outflow → List ℕ → Option Status → Type 0
AnsweredAs sink sink' text None = Ends sink sink' text
AnsweredAs sink sink' text (Some WriteFault) = FailsWithin sink sink' text
AnsweredAs sink sink' text (Some NoMemory) = sink' ≡ sink
AnsweredAs sink sink' text (Some _) = ⊥

-- one turn; or there is none, or nothing was read
pub data ServedOne (j : Judge) (r : Reader) (source : Inflow) (sink : Outflow) (k : Judge) (q : Reader) (source' : Inflow)
    (sink' : Outflow) (o : Option Status) : Type 0 where
  Turned : (t : Taken) → ServeTurn j r source k q source' (Some t) → AnsweredAs sink sink' (served t) o
      → ServedOne j r source sink k q source' sink' o
  AtEnd : o ≡ Some Done → ServeTurn j r source k q source' None → sink' ≡ sink → ServedOne j r source sink k q source' sink' o
  NotRead : o ≡ Some ReadFault → Rose source.faults source'.faults → sink' ≡ sink → ServedOne j r source sink k q source' sink' o
  NoRoom : o ≡ Some NoMemory → sink' ≡ sink → ServedOne j r source sink k q source' sink' o
