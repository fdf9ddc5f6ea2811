use Rattle.run_text.proofs.Taking.{EndsWith-then, EndsWith-stops}
use Rattle.run_text.proofs.results.write_result.Goals as goal

pub returns-in_err-put_result : goal.returns-in_err-put_result
returns-in_err-put_result g c = record {
  ends = EndsWith-stops _ _ _ _ c.from_residual.ensures.0
      (rw c.requires.empty at c.in_err-put_result.ensures);
}

pub returns : goal.returns
returns g c = record { ends = EndsWith-then _ _ _ _ _ _ (rw c.requires.empty at c.in_ok-put_result.ensures) c.end.ensures.ends }
