use Rattle.std.proofs.Common.{◌≡◌, false, map, length, sym, ap, ◌∙◌, arith}
use Rattle.triggered_ops.specs.Operations.{told_if, waits_on}
use Rattle.triggered_ops.specs.Layout.{Spotted, numbers_of, operations_in, wait_at}
use Rattle.triggered_ops.proofs.Places.{noted-numbers, noted-length, still-above}
use Rattle.triggered_ops.proofs.Moving.{last-waits}
use Rattle.triggered_ops.proofs.Telling.{noted-told, due-is}
use Rattle.triggered_ops.proofs.told.lower.Goals as goal

pub loop-place-preserved : goal.loop-place-preserved
loop-place-preserved g c =
    let i = c.loop-place.invariant in
    let ss = c.loop-place.spots.spots in
    let p = c.in-Some.place in
    let x = last-waits (wait_at ss) c.loop-place.threads c.args.stamps.now i.hung c.args.ct c.requires.belongs p c.in-Some.ensures.last in
    let is = c.make_undue.ensures.spots in
    let long : length c.make_undue.new.spots.spots ≡ length ss = ap (λ (s : Spotted _). length s.spots) is ∙ noted-length p false ss in
    record {
      hung = c.make_undue.ensures.hung;
      places = c.make_undue.ensures.places ∙ i.places;
      same = record {
        numbers = ap (λ (s : Spotted _). numbers_of s.spots) is ∙ noted-numbers p false ss ∙ i.same.numbers;
        room = ap (λ (s : Spotted _). s.room) is ∙ i.same.room;
      };
      told = ap (λ (s : Spotted _). map (told_if (waits_on c.args.ct) c.args.sum) (operations_in s.spots)) is
          ∙ noted-told ss p false c.args.ct c.args.sum x.0 x.1 x.2 ∙ i.told;
      within = omega (arith, long, i.within, c.make_undue.ensures.places);
      above = λ q y e s d. still-above ss p c.args.ct c.args.sum c.in-Some.ensures.some i.above q y
          (ap (λ (s : Spotted _). wait_at s.spots q) (sym is) ∙ e) s d;
    }

pub returns-clause-due : goal.returns-clause-due
returns-clause-due g c = λ p x e s. due-is c.args.sum x (λ d. c.in_default.ensures.none p x e s d)
    (λ d. c.loop-place.invariant.above p x e s d)
