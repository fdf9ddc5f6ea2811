use Rattle.run_text.proofs.Taking.{EndsWith-stops, EndsWith-then}
use Rattle.plan_words.proofs.costing.write_costs.Goals as goal

pub returns-in_err-put_costs : goal.returns-in_err-put_costs
returns-in_err-put_costs g c = EndsWith-stops _ _ _ _ c.from_residual.ensures.0 (rw c.requires.empty at c.in_err-put_costs.ensures)

pub returns : goal.returns
returns g c = EndsWith-then _ _ _ _ _ _ (rw c.requires.empty at c.in_ok-put_costs.ensures) c.end.ensures.ends
