use Rattle.std.proofs.Common.{[], ◌∷◌}
use Rattle.run_text.proofs.Taking.{Puts-exit, Puts-then}
use Rattle.log_top.proofs.filling.put_line.Goals as goal

pub returns-in_err-put : goal.returns-in_err-put
returns-in_err-put g c =
    Puts-exit _ _ c.args.out.now c.put.new.self c.args.line.now (10 ∷ []) _ c.from_residual.ensures.0 c.in_err-put.ensures.puts

pub returns : goal.returns
returns g c =
    Puts-then _ _ _ c.args.out.now c.put.new.self c.put-2.new.self c.args.line.now (10 ∷ []) _ c.in_ok-put.ensures.puts c.put-2.ensures.puts
