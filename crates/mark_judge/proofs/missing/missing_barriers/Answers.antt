-- The first step of which a member lacks a line.
use Rattle.std.proofs.Common.{length, ◌∙◌, ap, sym, arith}
use Rattle.mark_judge.specs.Judged.{missing_at}
use Rattle.mark_judge.specs.Tables.{has}
use Rattle.plan_judge.proofs.Rows.{found_at, none_at_all}
use Rattle.mark_judge.proofs.missing.missing_barriers.Goals as goal

pub returns-then-is_some : goal.returns-then-is_some
returns-then-is_some c =
    let o = c.args.shape.now in
    let n = ap length c.steps.ensures.value in
    let t = c.loop-s-test.true in
    found_at (missing_at o (has c.args.named.now)) (length o.steps) c.loop-s.s _ c.missing_at-flaw.ensures
    (sym c.is_some.ensures ∙ c.if-is_some.true) (omega (arith, n, t)) c.loop-s.invariant

pub returns : goal.returns
returns c =
    let o = c.args.shape.now in
    let n = ap length c.steps.ensures.value in
    let t = c.loop-s-test.false in
    sym (none_at_all (missing_at o (has c.args.named.now)) (length o.steps) c.loop-s.s (omega (arith, n, t)) c.loop-s.invariant)
