use Rattle.std.proofs.Common.{length}
use Rattle.std.specs.Prelude.{All}
use Rattle.std.specs.Vec.Iter.{into_iter_items}
use Rattle.work_sharing.specs.Sharing.{AreGiven, AreShared}
use Rattle.work_sharing.proofs.sharing.place_all.Given as goal

abbrev pub invariant-loop-list : goal.invariant-loop-list
invariant-loop-list g l = record {
  given : All (λ v. AreGiven g.F.Fn l.f (length l.initial.places) v.items) (into_iter_items l.list-iterator);
  shared : AreShared g.F.Fn l.f l.places;
}
