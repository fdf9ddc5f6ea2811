-- The first entry that lacks its bit settles it.
use Rattle.std.proofs.Common.{length, sym, arith}
use Rattle.mark_judge.specs.Tables.{does_lack}
use Rattle.mark_judge.proofs.Tests.{any_below, none_below}
use Rattle.mark_judge.proofs.entries.lacks_one.Goals as goal

pub returns-then-does_lack : goal.returns-then-does_lack
returns-then-does_lack c =
    sym (any_below (does_lack c.args.bits c.args.entries.now c.args.step) (length c.args.entries.now) c.loop-k.k (omega arith)
    (sym c.if-does_lack.ensures))

pub returns : goal.returns
returns c =
    let t = c.loop-k-test.false in
    sym (none_below (does_lack c.args.bits c.args.entries.now c.args.step) (length c.args.entries.now)
    (λ j h. c.loop-k.invariant j (omega (arith, t, h))))
