use Rattle.std.proofs.Common.{◌≡◌, ℕ, List, Some, Result, Ok, sym, ap, ◌∙◌, subst}
use Rattle.log_verdict.specs.Filling.{FillTook, JudgedAs, WrittenAs}
use Rattle.log_verdict.specs.Filling.FillEnds.{Unfit}
use Rattle.log_verdict.specs.Judging.{LineTook, Passes, next_line, took}
use Rattle.log_verdict.specs.declared.filler.Filled.{Filled}
use Rattle.log_verdict.specs.declared.filler.Filled.TheVariants as filled
use Rattle.log_verdict.specs.declared.filler.Filler.{Filler}
use Rattle.log_verdict.specs.declared.judge.Judge.{Judge}
use Rattle.log_verdict.specs.declared.judge.Taken.TheVariants as takes
use Rattle.log_verdict.specs.declared.judge.Verdict.{Verdict}
use Rattle.log_verdict.proofs.filler.Filler.take.Goals as goal

-- a line that is written is judged
fill_took : (f m g : Filler) (line text : List ℕ) (became : Filled) → WrittenAs f line m (Ok text) → m.judges ≡ f.judges
    → JudgedAs m.judges text g.judges became → g.fills ≡ m.fills → FillTook f line g became
fill_took f m g line text (filled.Line t) w judges h fills = record {
  taken = w.0;
  comes = subst (λ (j : Judge). LineTook (next_line f.fills) line (took j w.0)) (sym fills) w.1;
  is = w.2 ∙ ap (λ (x : List ℕ). Some x) (sym h.1);
  right = subst (λ (x : List ℕ). Passes f.judges x g.judges) (sym h.1) (subst (λ (j : Judge). Passes j text g.judges) judges h.0);
}
fill_took f m g line text (filled.Ends v) w judges h fills =
    Unfit w.0 text (subst (λ (j : Judge). LineTook (next_line f.fills) line (took j w.0)) (sym fills) w.1) w.2
    (subst (λ (j : Judge). LineTook (next_line j) text (took g.judges (takes.Ends v))) judges h)

pub returns-in_ok-filled-in-Ok : goal.returns-in_ok-filled-in-Ok
returns-in_ok-filled-in-Ok c =
    let f = c.args.self.now in
    let m = c.written.new.self in
    fill_took f m c.judged.new.self c.args.line.now c.in-Ok.text c.in_ok-filled-in-Ok.filled
    (subst (λ (r : Result (List ℕ) Verdict). WrittenAs f c.args.line.now m r) c.in-Ok.is c.in_ok-written.ensures.written)
    c.in_ok-written.ensures.judges c.in_ok-filled-in-Ok.ensures.judged c.in_ok-filled-in-Ok.ensures.fills
