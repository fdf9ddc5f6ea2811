use Rattle.std.proofs.Common.{◌≡◌, ℕ, List, arith, subst}
use Rattle.ptl_types.specs.Handles.{one_more}
use Rattle.log_verdict.proofs.Stays.{unchanged}
use Rattle.log_verdict.specs.Judging.{LineTook, Took}
use Rattle.log_verdict.specs.declared.judge.Judge.{Judge}
use Rattle.log_verdict.proofs.judge.Judge.take.Goals as goal

-- the log whose lines are counted so far
abbrev counted : Judge → ℕ → Judge
counted j n = record j { line = n }

by_line : (j : Judge) (n m : ℕ) (line : List ℕ) (t : Took) → n ≡ m → LineTook (counted j n) line t → LineTook (counted j m) line t
by_line j n m line t e h = subst (λ (k : ℕ). LineTook (counted j k) line t) e h

pub returns : goal.returns
returns c =
    let j = c.args.self.now in
    let e : c.saturating_add-self.result ≡ one_more j.line = omega arith in
    let h = by_line j c.saturating_add-self.result (one_more j.line) c.args.line.now _ e c.in_ok-taken.ensures in
    record {
      took = h;
      stays = unchanged j _ _ c.in_ok-taken.taken h;
    }
