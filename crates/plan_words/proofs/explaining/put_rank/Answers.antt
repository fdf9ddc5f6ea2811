use Rattle.std.proofs.Common.{◌∷◌, []}
use Rattle.std.specs.Prelude.{codes}
use Rattle.std.specs.Fmt.{decimal}
use Rattle.coll_text.specs.Text.{line}
use Rattle.plan_core.specs.calls.RankOps.{rank_ops}
use Rattle.run_text.proofs.Taking.{Puts-exit, Puts-then}
use Rattle.plan_words.specs.Words.{ops_lines}
use Rattle.plan_words.proofs.explaining.put_rank.Goals as goal

pub returns-in_err-put_line : goal.returns-in_err-put_line
returns-in_err-put_line g c =
    let p = c.args.text.now.plan.now in
    Puts-exit _ _ _ _ (line (codes "rank" ∷ decimal c.args.r ∷ [])) (ops_lines c.args.text.now.head p (rank_ops p c.args.r)) _
    c.from_residual.ensures.0 (rw c.from.ensures at c.in_err-put_line.ensures)

pub returns : goal.returns
returns g c =
    let p = c.args.text.now.plan.now in
    Puts-then _ _ _ _ _ _ (line (codes "rank" ∷ decimal c.args.r ∷ [])) (ops_lines c.args.text.now.head p (rank_ops p c.args.r)) _
    (rw c.from.ensures at c.in_ok-put_line.ensures) c.put_ops.ensures
