use Rattle.std.proofs.Common.{None, refl, arith}
use Rattle.std.proofs.lemmas.List.{get_or_past}
use Rattle.match_lists.proofs.lists.where_linked.Goals as goal

pub returns-then-handle-len : goal.returns-then-handle-len
returns-then-handle-len c = rw (get_or_past c.args.table.now.items c.args.handle.slot None
    (omega (arith, c.if-handle-len.true, c.len.ensures))) refl
