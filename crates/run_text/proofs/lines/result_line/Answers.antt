use Rattle.std.proofs.Common.{◌∷◌}
use Rattle.std.specs.Fmt.{decimal}
use Rattle.run_text.proofs.Spaced.{spaced, result_line-puts}
use Rattle.run_text.proofs.Taking.{Puts-exit, Puts-exit-then, Puts-then}
use Rattle.run_text.proofs.lines.result_line.Goals as goal

pub returns-in_err-put : goal.returns-in_err-put
returns-in_err-put g c =
    rw result_line-puts (Puts-exit _ _ _ _ c.args.name.now _ _ c.from_residual.ensures.0 c.in_err-put.ensures.puts)

pub returns-in_err-put_number : goal.returns-in_err-put_number
returns-in_err-put_number g c =
    rw result_line-puts (Puts-exit-then _ _ _ _ _ _ c.args.name.now (32 ∷ decimal c.args.rank) _ _
    c.from_residual-in_err-put_number.ensures.0 c.in_ok-put.ensures.puts c.in_err-put_number.ensures)

pub returns-in_err-put_values : goal.returns-in_err-put_values
returns-in_err-put_values g c =
    rw result_line-puts (Puts-then _ _ _ _ _ _ c.args.name.now _ _ c.in_ok-put.ensures.puts
    (Puts-exit-then _ _ _ _ _ _ (32 ∷ decimal c.args.rank) (spaced c.args.ty c.args.list.now) _ _
    c.from_residual-in_err-put_values.ensures.0 c.in_ok-put_number.ensures c.in_err-put_values.ensures))

pub returns : goal.returns
returns g c =
    rw result_line-puts (Puts-then _ _ _ _ _ _ c.args.name.now _ _ c.in_ok-put.ensures.puts
    (Puts-then _ _ _ _ _ _ (32 ∷ decimal c.args.rank) _ _ c.in_ok-put_number.ensures
    (Puts-then _ _ _ _ _ _ (spaced c.args.ty c.args.list.now) _ _ c.in_ok-put_values.ensures c.put-2.ensures.puts)))
