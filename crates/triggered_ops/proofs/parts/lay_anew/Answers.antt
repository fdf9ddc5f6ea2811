use Rattle.std.proofs.Common.{length, refl, sym, ap, subst, ◌∙◌, arith}
use Rattle.triggered_ops.specs.Hung.{IsThinner}
use Rattle.triggered_ops.specs.Layout.{Spotted, numbers_of, operations_in, wait_at}
use Rattle.triggered_ops.proofs.Hanging.{hung-same}
use Rattle.triggered_ops.proofs.Packing.{thin-same, thin-both, take-wait, packing-begin, packing-gone, packed-end, packed-full}
use Rattle.triggered_ops.proofs.parts.lay_anew.Goals as goal

pub loop-place-init : goal.loop-place-init
loop-place-init g c = record {
  packs = packing-begin c.args.spots.now c.args.threads.now c.args.stamps.now c.requires.hung c.requires.at_most c.requires.within;
  value = refl;
  numbers = thin-same (numbers_of c.args.spots.now.spots) (numbers_of c.args.spots.now.spots) refl;
  long = sym c.len-place-end.ensures.len;
  room = refl;
  places = refl;
}

pub loop-place-preserved : goal.loop-place-preserved
loop-place-preserved g c =
    let i = c.loop-place.invariant in
    let e = c.pack-kept.ensures in
    record {
      packs = e.packs;
      value = e.value ∙ i.value;
      numbers = thin-both _ _ _ i.numbers e.numbers;
      long = e.long ∙ i.long;
      room = e.room ∙ i.room;
      places = e.places ∙ i.places;
    }

pub truncate-requires : goal.truncate-requires
truncate-requires g c = packing-gone c.loop-place.spots c.loop-place.threads c.args.stamps.now c.loop-place.kept c.loop-place.place
    c.loop-place.invariant.packs (let l = c.loop-place.invariant.long in omega (arith, l))

pub returns-clause-hung : goal.returns-clause-hung
returns-clause-hung g c =
    let i = c.loop-place.invariant in
    let gone = packing-gone c.loop-place.spots c.loop-place.threads c.args.stamps.now c.loop-place.kept c.loop-place.place i.packs
    (let l = i.long in omega (arith, l)) in
    hung-same (wait_at c.loop-place.spots.spots) (wait_at c.truncate.new.self.spots) c.loop-place.threads c.args.stamps.now
    (λ q. ap (λ (s : Spotted _). wait_at s.spots q) c.truncate.ensures ∙ take-wait c.loop-place.spots.spots c.loop-place.kept q gone)
    i.packs.hung

pub returns-clause-value : goal.returns-clause-value
returns-clause-value g c =
    let i = c.loop-place.invariant in
    ap (λ (s : Spotted _). operations_in s.spots) c.truncate.ensures
    ∙ ap operations_in (sym (packed-end c.loop-place.spots.spots c.loop-place.kept c.loop-place.place
    (let l = i.long in omega (arith, l)))) ∙ i.value

pub returns-clause-numbers : goal.returns-clause-numbers
returns-clause-numbers g c =
    let i = c.loop-place.invariant in
    subst (IsThinner (numbers_of c.args.spots.now.spots))
    (ap numbers_of (packed-end c.loop-place.spots.spots c.loop-place.kept c.loop-place.place (let l = i.long in omega (arith, l)))
    ∙ sym (ap (λ (s : Spotted _). numbers_of s.spots) c.truncate.ensures)) i.numbers

pub returns-clause-room : goal.returns-clause-room
returns-clause-room g c = ap (λ (s : Spotted _). s.room) c.truncate.ensures ∙ c.loop-place.invariant.room

pub returns-clause-full : goal.returns-clause-full
returns-clause-full g c =
    let full = packed-full c.loop-place.spots c.loop-place.threads c.args.stamps.now c.loop-place.kept c.loop-place.place
    c.loop-place.invariant.packs in
    ap (λ (s : Spotted _). length s.spots) c.truncate.ensures ∙ full
    ∙ sym (ap (λ (s : Spotted _). length (operations_in s.spots)) c.truncate.ensures)
