use Rattle.std.proofs.Common.{arith, refl}
use Rattle.atomic_table.proofs.Lists.{at_index}
use Rattle.rank_slots.proofs.posts.find_in.Goals as goal

pub returns-then-is_from-clause-some : goal.returns-then-is_from-clause-some
returns-then-is_from-clause-some c = let p = c.index-ins-likely.result in let e = c.if-is_from.ensures in let is = e.0 refl in
    (p, at_index c.args.ins.now c.of-likely.result p (omega arith) c.index-ins-likely.is, is.0, is.1)
