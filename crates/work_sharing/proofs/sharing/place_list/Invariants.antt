use Rattle.std.proofs.Common.{length}
use Rattle.std.specs.Vec.Iter.{into_iter_items}
use Rattle.work_sharing.specs.Sharing.{AreGiven, AreShared}
use Rattle.work_sharing.proofs.sharing.place_list.Given as goal

abbrev pub invariant-loop-index : goal.invariant-loop-index
invariant-loop-index g l = record {
  given : AreGiven g.F.Fn l.f (length l.initial.places) (into_iter_items l.index-iterator);
  shared : AreShared g.F.Fn l.f l.places;
}
