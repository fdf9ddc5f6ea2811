-- Each has less than 2^93 bytes.
use Rattle.std.proofs.Common.{length, ap, arith}
use Rattle.plan_judge.proofs.whole.bytes_of.Goals as goal

pub overflow_add-result : goal.overflow_add-result
overflow_add-result c =
    let e = ap length c.cells.ensures in
    let f = ap length c.links.ensures in
    let a = c.bytes_of_cells.ensures.most in
    let b = c.bytes_of_links.ensures.most in
    let h = c.requires in
    omega (arith, e, f, a, b, h)
