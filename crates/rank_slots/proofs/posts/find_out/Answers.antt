use Rattle.std.proofs.Common.{arith, refl}
use Rattle.atomic_table.proofs.Lists.{at_index}
use Rattle.rank_slots.proofs.posts.find_out.Goals as goal

pub returns-then-is_to-clause-some : goal.returns-then-is_to-clause-some
returns-then-is_to-clause-some c = let p = c.index-outs-likely.result in let e = c.if-is_to.ensures in let is = e.0 refl in
    (p, at_index c.args.outs.now c.of-likely.result p (omega arith) c.index-outs-likely.is, is.0, is.1)
