-- The first rank that has a flaw.
use Rattle.std.proofs.Common.{◌∙◌, sym, arith}
use Rattle.mark_judge.specs.Judged.{done_flaw}
use Rattle.plan_judge.proofs.Rows.{found_at, none_at_all, none_more}
use Rattle.mark_judge.proofs.done.first_done_flaw.Goals as goal

pub returns-then-is_some : goal.returns-then-is_some
returns-then-is_some c =
    let p = c.args.plan.now in
    let n = c.ranks-rank-end.ensures in
    let t = c.loop-rank-test.true in
    found_at (done_flaw p c.args.done.now) p.ranks c.loop-rank.rank _ c.done_flaw-flaw.ensures
    (sym c.is_some.ensures ∙ c.if-is_some.true)
    (omega (arith, n, t)) c.loop-rank.invariant

pub loop-rank-preserved : goal.loop-rank-preserved
loop-rank-preserved c =
    none_more (done_flaw c.args.plan.now c.args.done.now) c.loop-rank.rank _ c.done_flaw-flaw.ensures
    (sym c.is_some.ensures ∙ c.if-is_some.false) c.loop-rank.invariant

pub returns : goal.returns
returns c =
    let p = c.args.plan.now in
    let n = c.ranks-rank-end.ensures in
    let t = c.loop-rank-test.false in
    sym (none_at_all (done_flaw p c.args.done.now) p.ranks c.loop-rank.rank (omega (arith, n, t)) c.loop-rank.invariant)
