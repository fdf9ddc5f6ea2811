use Rattle.std.proofs.Common.{ℕ, List, ◌≡◌, ap₂, get_or, subst, sym}
use Rattle.std.specs.List.{flat_map}
use Rattle.number_lists.specs.Numbers.{from_to}
use Rattle.plan_core.specs.calls.RankOps.{RankOp, rank_ops}
use Rattle.run_text.specs.Putting.{Puts}
use Rattle.plan_words.specs.Words.{no_op, op_line, ops_lines, ops_of}
use Rattle.plan_words.proofs.Naming.{ops-count}
use Rattle.plan_words.proofs.explaining.put_ops.Goals as goal

pub returns : goal.returns
returns g c =
    let p = c.args.text.now.plan.now in
    let links = c.links-links.result.now in
    let cells = c.cells-cells.result.now in
    let same : ops_of links cells ≡ rank_ops p c.args.r = ap₂ ops_of c.links-links.ensures.value c.cells-cells.ensures.value in
    let written =
    subst
    (λ (n : ℕ). Puts (g.K.Sink.outflow c.args.sink.now) (g.K.Sink.outflow c.put_rows.new.sink) c.args.out.now c.put_rows.new.out
    (flat_map (λ i. op_line c.args.text.now.head p i (get_or (ops_of links cells) i no_op)) (from_to 0 n)) c.put_rows.result)
    (sym (ops-count links cells)) c.put_rows.ensures in
    subst
    (λ (ws : List RankOp). Puts (g.K.Sink.outflow c.args.sink.now) (g.K.Sink.outflow c.put_rows.new.sink) c.args.out.now
    c.put_rows.new.out (ops_lines c.args.text.now.head p ws) c.put_rows.result)
    same written
