use Rattle.run_text.proofs.Taking.{Puts-exit, Puts-then}
use Rattle.plan_words.specs.Limits.{most_line, ranks_lines}
use Rattle.plan_words.proofs.limits.put_limits.Goals as goal

pub returns-in_err-put_ranks : goal.returns-in_err-put_ranks
returns-in_err-put_ranks g c =
    Puts-exit _ _ _ _ (ranks_lines c.args.takes.now) (most_line c.args.takes.now) _ c.from_residual.ensures.0 c.in_err-put_ranks.ensures

pub returns : goal.returns
returns g c =
    Puts-then _ _ _ _ _ _ (ranks_lines c.args.takes.now) (most_line c.args.takes.now) _ c.in_ok-put_ranks.ensures c.put_most.ensures
