use Rattle.std.proofs.Common.{◌++◌, subst}
use Rattle.run_text.specs.Orders.{order_line}
use Rattle.run_text.specs.Putting.{FailsWithin, Takes}
use Rattle.run_text.proofs.Taking.{EndsWith-stops, EndsWith-then, Fails-early, Fails-more, Fails-then, Takes-more, Takes-next, Takes-then}
use Rattle.rank_frames.specs.Frames.{mark}
use Rattle.rank_process.specs.lines.Lines.{placed_lines}
use Rattle.rank_process.proofs.printing.write_end.Goals as goal

pub returns-in_err-put : goal.returns-in_err-put
returns-in_err-put g c =
    let p = c.args.prints.now in
    let lines = placed_lines p c.args.memory.now in
    let order = order_line p.rank c.args.steps.now in
    EndsWith-stops _ _ (mark ++ (lines ++ order)) _ c.from_residual.ensures.0
    (Fails-more _ _ mark (lines ++ order) (rw (c.requires, c.end_mark.ensures) at c.in_err-put.ensures.puts))

pub returns-in_err-put-2 : goal.returns-in_err-put-2
returns-in_err-put-2 g c =
    let p = c.args.prints.now in
    let lines = placed_lines p c.args.memory.now in
    let order = order_line p.rank c.args.steps.now in
    EndsWith-stops _ _ (mark ++ (lines ++ order)) _ c.from_residual-in_err-put-2.ensures.0
    (Fails-then _ _ _ (mark ++ (lines ++ order)) _
    (Takes-more _ _ mark _ (lines ++ order) (rw (c.requires, c.end_mark.ensures) at c.in_ok-put.ensures.puts))
    (Fails-early _ _ _ lines order c.in_err-put-2.ensures))

pub returns-in_err-order_line : goal.returns-in_err-order_line
returns-in_err-order_line g c =
    let p = c.args.prints.now in
    let lines = placed_lines p c.args.memory.now in
    let order = order_line p.rank c.args.steps.now in
    let first = Takes-more _ _ mark _ (lines ++ order) (rw (c.requires, c.end_mark.ensures) at c.in_ok-put.ensures.puts) in
    let second = Takes-next _ _ _ (mark ++ (lines ++ order)) _ _ lines order first c.in_ok-put-2.ensures in
    EndsWith-stops _ _ (mark ++ (lines ++ order)) _ c.from_residual-in_err-order_line.ensures.0
    (Fails-then _ _ _ (mark ++ (lines ++ order)) _ second
    (subst (λ n. FailsWithin (g.K.Sink.outflow c.put-2.new.sink) (g.K.Sink.outflow c.order_line.new.sink)
    (c.put-2.new.out ++ order_line n c.args.steps.now)) c.rank.ensures c.in_err-order_line.ensures))

pub returns : goal.returns
returns g c =
    let p = c.args.prints.now in
    let lines = placed_lines p c.args.memory.now in
    let order = order_line p.rank c.args.steps.now in
    let first = Takes-more _ _ mark _ (lines ++ order) (rw (c.requires, c.end_mark.ensures) at c.in_ok-put.ensures.puts) in
    let second = Takes-next _ _ _ (mark ++ (lines ++ order)) _ _ lines order first c.in_ok-put-2.ensures in
    let third = Takes-then _ _ _ (mark ++ (lines ++ order)) _ _ second
    (subst (λ n. Takes (g.K.Sink.outflow c.put-2.new.sink) (g.K.Sink.outflow c.order_line.new.sink)
    (c.put-2.new.out ++ order_line n c.args.steps.now) c.order_line.new.out) c.rank.ensures c.in_ok-order_line.ensures) in
    EndsWith-then _ _ _ (mark ++ (lines ++ order)) _ _ third c.end.ensures.ends
