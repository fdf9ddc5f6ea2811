-- One item more in each turn.
use Rattle.count_tree.proofs.Counting.{one_more}
use Rattle.count_tree.proofs.CountTree.count_all.Goals as goal

pub loop-place-preserved : goal.loop-place-preserved
loop-place-preserved g c =
    one_more g.C.Counted.count c.args.items.now c.args.self.now c.loop-place.self c.set.new.self c.loop-place.place c.count.result
    c.index-items-place.result c.loop-place-test.true c.requires c.loop-place.invariant c.index-items-place.is c.count.ensures c.set.ensures
