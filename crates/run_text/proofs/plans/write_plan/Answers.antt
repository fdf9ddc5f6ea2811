use Rattle.run_text.proofs.Taking.{EndsWith-then, EndsWith-stops}
use Rattle.run_text.proofs.plans.write_plan.Goals as goal

pub returns-in_err-put_plan : goal.returns-in_err-put_plan
returns-in_err-put_plan g c = record {
  ends = EndsWith-stops _ _ _ _ c.from_residual.ensures.0
      (rw c.requires.empty at c.in_err-put_plan.ensures);
}

pub returns : goal.returns
returns g c = record { ends = EndsWith-then _ _ _ _ _ _ (rw c.requires.empty at c.in_ok-put_plan.ensures) c.end.ensures.ends }
