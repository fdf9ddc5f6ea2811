use Rattle.run_text.proofs.Taking.{EndsWith-then, EndsWith-stops}
use Rattle.given_top.proofs.checking.write_failure.Goals as goal

pub returns-in_err-fails_line : goal.returns-in_err-fails_line
returns-in_err-fails_line g c = EndsWith-stops _ _ _ _ c.from_residual.ensures.0 (rw c.requires at c.in_err-fails_line.ensures)

pub returns : goal.returns
returns g c = EndsWith-then _ _ _ _ _ _ (rw c.requires at c.in_ok-fails_line.ensures) c.end.ensures.ends
