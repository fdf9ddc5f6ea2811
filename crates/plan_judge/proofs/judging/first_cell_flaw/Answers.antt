-- The first that has a flaw.
use Rattle.std.proofs.Common.{length, ◌∙◌, sym, arith}
use Rattle.plan_judge.specs.Causes.{cell_flaw}
use Rattle.plan_judge.proofs.Rows.{found_at, none_at_all, none_more}
use Rattle.plan_judge.proofs.judging.first_cell_flaw.Goals as goal

pub returns-then-is_some : goal.returns-then-is_some
returns-then-is_some c =
    let p = c.args.plan.now in
    let n = c.cell_count-c-end.ensures in
    let t = c.loop-c-test.true in
    found_at (cell_flaw p c.args.lengths.now) (length p.cells) c.loop-c.c _ c.in_ok-flaw.ensures
    (sym c.is_some.ensures ∙ c.if-is_some.true)
    (omega (arith, n, t)) c.loop-c.invariant

pub loop-c-preserved : goal.loop-c-preserved
loop-c-preserved c =
    let p = c.args.plan.now in
    none_more (cell_flaw p c.args.lengths.now) c.loop-c.c _ c.in_ok-flaw.ensures
    (sym c.is_some.ensures ∙ c.if-is_some.false) c.loop-c.invariant

pub returns : goal.returns
returns c =
    let p = c.args.plan.now in
    let n = c.cell_count-c-end.ensures in
    let t = c.loop-c-test.false in
    sym (none_at_all (cell_flaw p c.args.lengths.now) (length p.cells) c.loop-c.c (omega (arith, n, t)) c.loop-c.invariant)
