use Rattle.run_text.proofs.Taking.{EndsWith-then, EndsWith-stops}
use Rattle.portals_top.proofs.values.write_values.Goals as goal

pub returns-in_err-put_values : goal.returns-in_err-put_values
returns-in_err-put_values g c = EndsWith-stops _ _ _ _ c.from_residual.ensures.0 (rw c.requires.empty at c.in_err-put_values.ensures)

pub returns : goal.returns
returns g c = EndsWith-then _ _ _ _ _ _ (rw c.requires.empty at c.in_ok-put_values.ensures) c.end.ensures.ends
