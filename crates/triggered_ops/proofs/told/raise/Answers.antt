use Rattle.std.proofs.Common.{◌≡◌, true, map, length, ap, ◌∙◌, arith}
use Rattle.triggered_ops.specs.Operations.{told_if, waits_on}
use Rattle.triggered_ops.specs.Layout.{Spotted, numbers_of, operations_in, wait_at}
use Rattle.triggered_ops.proofs.Places.{noted-numbers, noted-length}
use Rattle.triggered_ops.proofs.Moving.{first-waits}
use Rattle.triggered_ops.proofs.Telling.{noted-told}
use Rattle.triggered_ops.proofs.told.raise.Goals as goal

pub loop-place-preserved : goal.loop-place-preserved
loop-place-preserved g c =
    let i = c.loop-place.invariant in
    let ss = c.loop-place.spots.spots in
    let p = c.in-Some.place in
    let x = first-waits (wait_at ss) c.loop-place.threads c.args.stamps.now i.hung c.args.ct c.requires.belongs p c.in-Some.ensures.first in
    let is = c.make_due.ensures.spots in
    let long : length c.make_due.new.spots.spots ≡ length ss = ap (λ (s : Spotted _). length s.spots) is ∙ noted-length p true ss in
    record {
      hung = c.make_due.ensures.hung;
      places = c.make_due.ensures.places ∙ i.places;
      same = record {
        numbers = ap (λ (s : Spotted _). numbers_of s.spots) is ∙ noted-numbers p true ss ∙ i.same.numbers;
        room = ap (λ (s : Spotted _). s.room) is ∙ i.same.room;
      };
      told = ap (λ (s : Spotted _). map (told_if (waits_on c.args.ct) c.args.sum) (operations_in s.spots)) is
          ∙ noted-told ss p true c.args.ct c.args.sum x.0 x.1 x.2 ∙ i.told;
      within = omega (arith, long, i.within, c.make_due.ensures.places);
    }
