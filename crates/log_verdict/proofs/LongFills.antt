-- A line that is too long is refused by its beginning, where answers are filled in.
use Rattle.std.proofs.Common.{◌≡◌, ℕ, ◌<◌, List, [], ◌++◌, length, Some, ap, ◌∙◌, subst}
use Rattle.log_lines.specs.declared.lines.TheConstants.{LONGEST_LINE}
use Rattle.log_verdict.specs.Filling.{FillEnds, FillGoes, end_or, fill_end, line_written}
use Rattle.log_verdict.specs.Filling.FillEnds.{Refused, Unfit}
use Rattle.log_verdict.specs.Judging.{LineTook, end_verdict, next_line, took}
use Rattle.log_verdict.specs.declared.filler.Filler.{Filler}
use Rattle.log_verdict.specs.declared.judge.Taken.{Taken}
use Rattle.log_verdict.specs.declared.judge.Taken.TheVariants as takes
use Rattle.log_verdict.specs.declared.judge.Verdict.{Verdict}
use Rattle.log_verdict.proofs.Longs.{long_took}

none_written : (line text : List ℕ) (t : Taken) (v : Verdict) → t ≡ takes.Ends v → line_written line t ≡ Some text → ⊥
none_written line text t v is e = absurd (let w = rw is at e in cc)

pub never_long : (f g : Filler) (line text : List ℕ) → LONGEST_LINE < length line → FillGoes f line g text → ⊥
never_long f g line text long h =
    let t = long_took (next_line f.fills) g.fills line [] h.taken long h.comes in
    none_written line text h.taken t.v t.is h.is

-- what became of it
pub record LongEnds (f : Filler) (line : List ℕ) (g : Filler) (v : Verdict) : Type 0 where
  pub fill_ends : FillEnds f line g v
  pub ends : fill_end f line ≡ v

pub long_ends : (f g : Filler) (line more : List ℕ) (v : Verdict) → LONGEST_LINE < length line → FillEnds f line g v
    → LongEnds f (line ++ more) g v
long_ends f g line more v long (Refused h) =
    let t = long_took (next_line f.fills) g.fills line more (takes.Ends v) long h in
    let same : t.v ≡ v = let e = t.is in cc in
    record {
      fill_ends = Refused (subst (λ (w : Verdict). LineTook (next_line f.fills) (line ++ more) (took g.fills (takes.Ends w))) same t.took);
      ends = let other = end_verdict (next_line f.judges) [] in ap (λ (w : Verdict). end_or w other) t.ends ∙ t.stops other ∙ same;
    }
long_ends f g line more v long (Unfit taken text h is wrong) =
    let t = long_took (next_line f.fills) g.fills line [] taken long h in
    absurd (none_written line text taken t.v t.is is)
