use Rattle.std.proofs.Common.{◌∷◌, []}
use Rattle.std.specs.Prelude.{codes}
use Rattle.std.specs.Fmt.{decimal}
use Rattle.coll_text.specs.Text.{line}
use Rattle.run_text.proofs.Taking.{Puts-exit, Puts-then}
use Rattle.plan_top.proofs.writing.put_result.Goals as goal

pub returns-in_err-put : goal.returns-in_err-put
returns-in_err-put g c = Puts-exit _ _ _ _ (codes "result ") _ _ c.from_residual.ensures.0 c.in_err-put.ensures.puts

pub returns : goal.returns
returns g c =
    Puts-then _ _ _ _ _ _ (codes "result ") (line (c.args.name.now ∷ decimal c.args.rank ∷ decimal c.args.cell ∷ [])) _
    c.in_ok-put.ensures.puts (rw (c.from.ensures, c.from-2.ensures) at c.put_line.ensures)
