-- The first that has a flaw.
use Rattle.std.proofs.Common.{length, ◌∙◌, sym, arith}
use Rattle.plan_judge.specs.Causes.{link_flaw}
use Rattle.plan_judge.proofs.Rows.{found_at, none_at_all, none_more}
use Rattle.plan_judge.proofs.judging.first_link_flaw.Goals as goal

pub returns-then-is_some : goal.returns-then-is_some
returns-then-is_some c =
    let p = c.args.plan.now in
    let n = c.link_count-l-end.ensures in
    let t = c.loop-l-test.true in
    found_at (link_flaw p c.args.lengths.now) (length p.links) c.loop-l.l _ c.link_flaw-flaw.ensures
    (sym c.is_some.ensures ∙ c.if-is_some.true)
    (omega (arith, n, t)) c.loop-l.invariant

pub loop-l-preserved : goal.loop-l-preserved
loop-l-preserved c =
    let p = c.args.plan.now in
    none_more (link_flaw p c.args.lengths.now) c.loop-l.l _ c.link_flaw-flaw.ensures
    (sym c.is_some.ensures ∙ c.if-is_some.false) c.loop-l.invariant

pub returns : goal.returns
returns c =
    let p = c.args.plan.now in
    let n = c.link_count-l-end.ensures in
    let t = c.loop-l-test.false in
    sym (none_at_all (link_flaw p c.args.lengths.now) (length p.links) c.loop-l.l (omega (arith, n, t)) c.loop-l.invariant)
