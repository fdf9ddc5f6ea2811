use Rattle.run_text.proofs.Taking.{EndsWith-stops, EndsWith-then}
use Rattle.plan_top.proofs.judging.write_line.Goals as goal

pub returns-in_err-put : goal.returns-in_err-put
returns-in_err-put g c = EndsWith-stops _ _ _ _ c.from_residual.ensures.0 (rw c.requires at c.in_err-put.ensures.puts)

pub returns : goal.returns
returns g c = EndsWith-then _ _ _ _ _ _ (rw c.requires at c.in_ok-put.ensures.puts) c.end.ensures.ends
