use Rattle.std.proofs.Common.{◌≡◌, ◌+◌, ◌-◌, ◌++◌, subst, arith}
use Rattle.run_text.specs.Lines.{line_at}
use Rattle.run_text.specs.Putting.{Takes}
use Rattle.run_text.proofs.Taking.{Takes-next, Fails-next, Puts-stops}
use Rattle.run_text.proofs.Spaced.{lines_from, lines_from-next}
use Rattle.run_text.proofs.results.put_buffer.Goals as goal

pub returns-in_err-put_line_at : goal.returns-in_err-put_line_at
returns-in_err-put_line_at g c =
    let o = g.H.ResultLists.outline c.args.held.now in
    let lists = g.H.ResultLists.lists c.args.held.now in
    let b = c.args.buffer in
    let rank = c.loop-rank.rank in
    let old = g.K.Sink.outflow c.args.sink.now in
    let before = g.K.Sink.outflow c.loop-rank.sink in
    let new = g.K.Sink.outflow c.put_line_at.new.sink in
    let text = c.args.out.now ++ lines_from o lists b 0 o.ranks in
    let ranks : c.ranks-rank-end.result ≡ o.ranks = rw c.shape.ensures at c.ranks-rank-end.ensures.value in
    let next = lines_from-next o lists b rank o.ranks (omega arith) in
    Puts-stops old new c.args.out.now c.put_line_at.new.out (lines_from o lists b 0 o.ranks) _ c.from_residual.ensures.0
    (Fails-next old before new text c.loop-rank.out (line_at o lists b rank) (lines_from o lists b (rank + 1) (o.ranks - (rank + 1)))
    (subst (λ rest. Takes old before text (c.loop-rank.out ++ rest)) next c.loop-rank.invariant)
    c.in_err-put_line_at.ensures)

pub loop-rank-preserved : goal.loop-rank-preserved
loop-rank-preserved g c =
    let o = g.H.ResultLists.outline c.args.held.now in
    let lists = g.H.ResultLists.lists c.args.held.now in
    let b = c.args.buffer in
    let rank = c.loop-rank.rank in
    let old = g.K.Sink.outflow c.args.sink.now in
    let before = g.K.Sink.outflow c.loop-rank.sink in
    let new = g.K.Sink.outflow c.put_line_at.new.sink in
    let text = c.args.out.now ++ lines_from o lists b 0 o.ranks in
    let ranks : c.ranks-rank-end.result ≡ o.ranks = rw c.shape.ensures at c.ranks-rank-end.ensures.value in
    let next = lines_from-next o lists b rank o.ranks (omega arith) in
    Takes-next old before new text c.loop-rank.out c.put_line_at.new.out (line_at o lists b rank)
    (lines_from o lists b (rank + 1) (o.ranks - (rank + 1)))
    (subst (λ rest. Takes old before text (c.loop-rank.out ++ rest)) next c.loop-rank.invariant)
    c.in_ok-put_line_at.ensures
