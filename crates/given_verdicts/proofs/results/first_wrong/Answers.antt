-- The first that shows one.
use Rattle.std.proofs.Common.{length, ◌∙◌, sym, ap, arith}
use Rattle.plan_judge.proofs.Rows.{found_at, none_at_all, none_more}
use Rattle.given_verdicts.specs.Answers.{at_line, wrong_result}
use Rattle.given_verdicts.proofs.results.first_wrong.Goals as goal

pub returns-then-is_some : goal.returns-then-is_some
returns-then-is_some c =
    let g = c.args.given.now in
    let n = ap length c.marks.ensures in
    let t = c.loop-mark-test.true in
    let wrong = c.at_line-wrong.ensures ∙ ap (at_line c.args.first g.plan g.marks c.loop-mark.mark) c.in_ok-cause.ensures in
    found_at (wrong_result c.args.first g.plan c.args.shape.now c.args.values.now c.args.meant.now g.marks) (length g.marks)
    c.loop-mark.mark _ wrong (sym c.is_some.ensures ∙ c.if-is_some.true) (omega (arith, n, t)) c.loop-mark.invariant

pub loop-mark-preserved : goal.loop-mark-preserved
loop-mark-preserved c =
    let g = c.args.given.now in
    let wrong = c.at_line-wrong.ensures ∙ ap (at_line c.args.first g.plan g.marks c.loop-mark.mark) c.in_ok-cause.ensures in
    none_more (wrong_result c.args.first g.plan c.args.shape.now c.args.values.now c.args.meant.now g.marks) c.loop-mark.mark _
    wrong (sym c.is_some.ensures ∙ c.if-is_some.false) c.loop-mark.invariant

pub returns : goal.returns
returns c =
    let g = c.args.given.now in
    let n = ap length c.marks.ensures in
    let t = c.loop-mark-test.false in
    sym (none_at_all (wrong_result c.args.first g.plan c.args.shape.now c.args.values.now c.args.meant.now g.marks) (length g.marks)
    c.loop-mark.mark (omega (arith, n, t)) c.loop-mark.invariant)
