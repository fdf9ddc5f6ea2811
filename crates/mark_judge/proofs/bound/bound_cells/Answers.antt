-- One cell more in each turn.
use Rattle.std.proofs.Common.{arith}
use Rattle.mark_judge.proofs.bound.bound_cells.Goals as goal

pub returns : goal.returns
returns c = λ d h.
    let n = c.cell_count-c-end.ensures in
    let t = c.loop-c-test.false in
    c.loop-c.invariant.told d (omega (arith, n, t, h))
