use Rattle.std.proofs.Common.{◌≡◌, ◌+◌, ◌-◌, ◌%◌, ◌^◌}
use Rattle.run_text.specs.Summary.{rank_sum}
use Rattle.run_text.proofs.Sums.{sum_from}
use Rattle.run_text.proofs.summary.buffer_sum.Given as goal

abbrev pub invariant-loop-rank : goal.invariant-loop-rank
invariant-loop-rank g l =
    let o = g.H.ResultLists.outline l.held in
    let at_rank = rank_sum o (g.H.ResultLists.lists l.held) l.buffer in
    (l.total + sum_from at_rank l.rank (o.ranks - l.rank)) % 2 ^ 64 ≡ sum_from at_rank 0 o.ranks % 2 ^ 64
