-- A log whose calls have no answers: each line is written with the answer that is owed, and judged before it is written.
use Rattle.std.specs.Prelude.{ℕ, ◌≡◌, nat_eq, Bool, true, false, List, [], ◌∷◌, ◌++◌, Option, Some, None, codes, if◌then◌else◌}
use Rattle.std.specs.Prelude.{Result, Ok, Err}
use Rattle.std.specs.List.{ends_with}
use Rattle.coll_text.specs.Text.{lines as lines_of}
use Rattle.log_verdict.specs.Judging.{IsNew, LineTook, Passes, end_verdict, next_line, took}
use Rattle.log_verdict.specs.declared.filler.Filled.{Filled}
use Rattle.log_verdict.specs.declared.filler.Filled.TheVariants as filled
use Rattle.log_verdict.specs.declared.filler.Filler.{Filler}
use Rattle.log_verdict.specs.declared.judge.Judge.{Judge}
use Rattle.log_verdict.specs.declared.judge.Taken.{Taken}
use Rattle.log_verdict.specs.declared.judge.Taken.TheVariants as takes
use Rattle.log_verdict.specs.declared.judge.Verdict.{Verdict}
use Rattle.log_verdict.specs.declared.judge.Verdict.TheVariants as verdicts

-- no line was taken yet
pub record IsNewFiller (any_order : Bool) (f : Filler) : Type 0 where
  pub fills : IsNew true any_order f.fills
  pub judges : IsNew false any_order f.judges

-- ---- a line

-- the answer stands behind `->`, which the line may have already
abbrev pub arrowed : List ℕ → List ℕ
arrowed line = if ends_with nat_eq line (codes " ->") then line else line ++ codes " ->"

-- the line as it is to be written
abbrev pub line_written : List ℕ → Taken → Option (List ℕ)
line_written line takes.Goes = Some line
line_written line (takes.Owes text) = Some (arrowed line ++ text)
line_written line (takes.Ends v) = None

-- what code has of it: such a line, or a verdict; and what a judge says of it
abbrev pub WrittenAs : Filler → List ℕ → Filler → Result (List ℕ) Verdict → Type 0
WrittenAs f line g (Ok text) = (taken : Taken) × LineTook (next_line f.fills) line (took g.fills taken)
    × (line_written line taken ≡ Some text)
WrittenAs f line g (Err v) = LineTook (next_line f.fills) line (took g.fills (takes.Ends v))

abbrev pub JudgedAs : Judge → List ℕ → Judge → Filled → Type 0
JudgedAs j line k (filled.Line text) = Passes j line k × (text ≡ line)
JudgedAs j line k (filled.Ends v) = LineTook (next_line j) line (took k (takes.Ends v))

-- it is written, and is judged to be right
pub record FillGoes (f : Filler) (line : List ℕ) (g : Filler) (text : List ℕ) : Type 0 where
  pub taken : Taken
  pub comes : LineTook (next_line f.fills) line (took g.fills taken)
  pub is : line_written line taken ≡ Some text
  pub right : Passes f.judges text g.judges

-- it isn't: the line is refused, or differs; or it would be refused as it was to be written, as where it becomes too long
pub data FillEnds (f : Filler) (line : List ℕ) (g : Filler) (v : Verdict) : Type 0 where
  Refused : LineTook (next_line f.fills) line (took g.fills (takes.Ends v)) → FillEnds f line g v
  Unfit : (taken : Taken) (text : List ℕ) → LineTook (next_line f.fills) line (took g.fills taken) → line_written line taken ≡ Some text
      → LineTook (next_line f.judges) text (took g.judges (takes.Ends v)) → FillEnds f line g v

abbrev pub FillTook : Filler → List ℕ → Filler → Filled → Type 0
FillTook f line g (filled.Line text) = FillGoes f line g text
FillTook f line g (filled.Ends v) = FillEnds f line g v

-- ---- the end of the text; what was written ends there too

abbrev pub end_or : Verdict → Verdict → Verdict
end_or (verdicts.Conforms calls) v = v
end_or (verdicts.Differs line column said owed) v = verdicts.Differs line column said owed
end_or (verdicts.Refused line column flaw) v = verdicts.Refused line column flaw

abbrev pub fill_end : Filler → List ℕ → Verdict
fill_end f rest = end_or (end_verdict (next_line f.fills) rest) (end_verdict (next_line f.judges) [])

-- ---- a text

-- how far it was filled in: to some line, as a whole with so many calls, or up to a verdict
pub data Extent : Type 0 where
  Begun : Extent
  Whole : (calls : ℕ) → Extent
  Stopped : (v : Verdict) → Extent

-- What is written of a text from here on, cut at each LF.
pub data Fills : Filler → List (List ℕ) → List ℕ → Extent → Type 0 where
  Here : (f : Filler) (pieces : List (List ℕ)) → Fills f pieces [] Extent.Begun
  Over : (f : Filler) (rest : List ℕ) (calls : ℕ) → fill_end f rest ≡ verdicts.Conforms calls → Fills f (rest ∷ []) [] (Extent.Whole calls)
  Stays : (f : Filler) (rest : List ℕ) (v : Verdict) → fill_end f rest ≡ v → Fills f (rest ∷ []) [] (Extent.Stopped v)
  EndsAt : (f g : Filler) (line : List ℕ) (pieces : List (List ℕ)) (v : Verdict) → (pieces ≡ [] → ⊥) → FillEnds f line g v
      → Fills f (line ∷ pieces) [] (Extent.Stopped v)
  GoesOn : (f g : Filler) (line : List ℕ) (pieces : List (List ℕ)) (text out : List ℕ) (extent : Extent) → FillGoes f line g text
      → Fills g pieces out extent → Fills f (line ∷ pieces) (text ++ 10 ∷ out) extent

-- what is written of a whole log
pub record IsFilled (any_order : Bool) (text out : List ℕ) (extent : Extent) : Type 0 where
  pub filler : Filler
  pub is_new : IsNewFiller any_order filler
  pub fills : Fills filler (lines_of text) out extent
