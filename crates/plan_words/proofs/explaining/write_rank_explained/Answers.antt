use Rattle.run_text.proofs.Taking.{EndsWith-stops, EndsWith-then}
use Rattle.plan_words.proofs.explaining.write_rank_explained.Goals as goal

pub returns-in_err-put_rank : goal.returns-in_err-put_rank
returns-in_err-put_rank g c = EndsWith-stops _ _ _ _ c.from_residual.ensures.0 (rw c.requires.empty at c.in_err-put_rank.ensures)

pub returns : goal.returns
returns g c = EndsWith-then _ _ _ _ _ _ (rw c.requires.empty at c.in_ok-put_rank.ensures) c.end.ensures.ends
