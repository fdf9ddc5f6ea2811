use Rattle.std.proofs.Common.{subst, sym}
use Rattle.plan_core.specs.calls.RankOps.{RankOp}
use Rattle.run_text.specs.Putting.{Puts}
use Rattle.plan_words.specs.Words.{op_line}
use Rattle.plan_words.proofs.Naming.{at_cell}
use Rattle.plan_words.proofs.explaining.OpRowsRows.put.Goals as goal

pub returns-else-place-links : goal.returns-else-place-links
returns-else-place-links g c =
    let text = c.args.self.now.text in
    subst
    (λ (w : RankOp). Puts (g.K.Sink.outflow c.args.sink.now) (g.K.Sink.outflow c.put_telling.new.sink) c.args.out.now
    c.put_telling.new.out (op_line text.head text.plan.now c.args.number w) c.put_telling.result)
    (sym (at_cell c.args.self.now.links.now c.args.self.now.cells.now c.args.number c.if-place-links.false c.requires.0))
    c.put_telling.ensures
