use Rattle.std.proofs.Common.{◌≡◌, ◌+◌, ◌-◌, ◌%◌, ◌^◌, ◌∙◌, ap, refl, subst, arith}
use Rattle.std.specs.Prelude.{sum}
use Rattle.coll_text.specs.Elements.{elements}
use Rattle.coll_shape.specs.declared.types.Buffer.{Buffer}
use Rattle.coll_shape.specs.Folding.{at}
use Rattle.coll_shape.specs.Meaning.{lists_of}
use Rattle.run_text.specs.Summary.{rank_sum}
use Rattle.run_text.proofs.Sums.{added-part, buffer-is, sum_from, sum_from-next, sum_from-none}
use Rattle.run_text.proofs.summary.buffer_sum.Goals as goal

pub loop-rank-preserved : goal.loop-rank-preserved
loop-rank-preserved g c =
    let o = g.H.ResultLists.outline c.args.held.now in
    let lists = g.H.ResultLists.lists c.args.held.now in
    let b = c.args.buffer in
    let rank = c.loop-rank.rank in
    let at_rank = rank_sum o lists b in
    let all = sum_from at_rank 0 o.ranks in
    let ranks : c.ranks-rank-end.result ≡ o.ranks = rw c.shape-shape.ensures at c.ranks-rank-end.ensures.value in
    let about = buffer-is o b c.index-buffers-buffer.result c.buffers.result.now c.requires.buffer
    (rw c.shape-shape.ensures at c.buffers.ensures.value)
    c.index-buffers-buffer.is in
    let part : c.list_sum-total.result ≡ at_rank rank % 2 ^ 64 =
    (rw (← c.index-buffers-buffer.is, c.list.ensures) at c.list_sum-total.ensures)
    ∙ ap (λ (y : Buffer). sum (elements y.ty (at (lists_of lists b) rank)) % 2 ^ 64) about in
    added-part c.loop-rank.total (at_rank rank) c.list_sum-total.result (sum_from at_rank (rank + 1) (o.ranks - (rank + 1))) all _ part refl
    (subst (λ n. (c.loop-rank.total + n) % 2 ^ 64 ≡ all % 2 ^ 64) (sum_from-next at_rank rank o.ranks (omega (arith, ranks)))
    c.loop-rank.invariant)

pub returns : goal.returns
returns g c =
    let o = g.H.ResultLists.outline c.args.held.now in
    let at_rank = rank_sum o (g.H.ResultLists.lists c.args.held.now) c.args.buffer in
    let ranks : c.ranks-rank-end.result ≡ o.ranks = rw c.shape-shape.ensures at c.ranks-rank-end.ensures.value in
    let none = sum_from-none at_rank c.loop-rank.rank o.ranks (omega (arith, ranks)) in
    let left = c.loop-rank.invariant in
    omega (arith, none, left)
