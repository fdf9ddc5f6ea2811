use Rattle.std.proofs.Common.{length}
use Rattle.std.proofs.lemmas.List.Elements.{All-rest}
use Rattle.work_sharing.specs.Sharing.{AreGiven}
use Rattle.work_sharing.proofs.sharing.place_all.Goals as goal

pub loop-list-preserved : goal.loop-list-preserved
loop-list-preserved g c = record {
  given = All-rest (λ v. AreGiven g.F.Fn c.args.f.now (length c.args.places.now) v.items) c.in-Some.list _ _ c.in-Some.ensures.steps.0
      c.loop-list.invariant.given;
  shared = c.place_list.ensures.places;
}
