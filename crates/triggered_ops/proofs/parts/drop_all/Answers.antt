use Rattle.std.proofs.Common.{◌≡◌, ℕ, ◌<◌, not, filter, length, sym, ap, ◌∙◌, arith}
use Rattle.std.specs.Prelude.{is_some}
use Rattle.ptl_types.specs.declared.handles.Handle.{Handle}
use Rattle.triggered_ops.specs.Operations.{waits_on}
use Rattle.triggered_ops.specs.Hung.{IsSame, WaitsOn}
use Rattle.triggered_ops.specs.Layout.{Spotted, spotted, emptied, numbers_of, operations_in, wait_at}
use Rattle.triggered_ops.proofs.Moving.{threaded-at}
use Rattle.triggered_ops.proofs.Places.{waits-is, emptied-numbers, emptied-count}
use Rattle.triggered_ops.proofs.Telling.{emptied-cancelled, none-cancelled}
use Rattle.triggered_ops.proofs.parts.drop_all.Goals as goal

-- one that waits on the counting event is taken out
module _ {D : Type 0} (old new : Spotted D) (p : ℕ) (ct : Handle) (found : WaitsOn ct (wait_at old.spots p))
    (is : new ≡ spotted (emptied p old.spots) old.room) where
  fewer : length (operations_in new.spots) < length (operations_in old.spots)
  fewer =
      let w = waits-is ct (wait_at old.spots p) found in
      let n = emptied-count p old.spots (ap is_some w.1) in
      let e = ap (λ (s : Spotted D). length (operations_in s.spots)) is in
      omega (arith, n, e)

  still-same : (first : Spotted D) → IsSame first old → IsSame first new
  still-same first same = record {
    numbers = ap (λ (s : Spotted D). numbers_of s.spots) is ∙ emptied-numbers p old.spots ∙ same.numbers;
    room = ap (λ (s : Spotted D). s.room) is ∙ same.room;
  }

  still-rest : filter (λ p. not (waits_on ct p)) (operations_in new.spots) ≡ filter (λ p. not (waits_on ct p)) (operations_in old.spots)
  still-rest = ap (λ (s : Spotted D). filter (λ p. not (waits_on ct p)) (operations_in s.spots)) is ∙ emptied-cancelled old.spots p ct found

pub take_out-requires-clause-threaded : goal.take_out-requires-clause-threaded
take_out-requires-clause-threaded g c =
    let i = c.loop-place.invariant in
    let w = waits-is c.args.ct _ c.in-Some.ensures.found in
    threaded-at (wait_at c.loop-place.spots.spots) c.loop-place.threads c.args.stamps.now i.hung c.in-Some.place (ap is_some w.1)

pub take_out-requires-clause-waits : goal.take_out-requires-clause-waits
take_out-requires-clause-waits g c = let w = waits-is c.args.ct _ c.in-Some.ensures.found in ap is_some w.1

pub loop-place-smaller : goal.loop-place-smaller
loop-place-smaller g c = fewer c.loop-place.spots c.take_out.new.spots c.in-Some.place c.args.ct c.in-Some.ensures.found
    c.take_out.ensures.rest

pub loop-place-smaller-in-Some : goal.loop-place-smaller-in-Some
loop-place-smaller-in-Some g c = fewer c.loop-place.spots c.take_out.new.spots c.in-Some.place c.args.ct c.in-Some.ensures.found
    c.take_out.ensures.rest

pub loop-place-preserved : goal.loop-place-preserved
loop-place-preserved g c =
    let i = c.loop-place.invariant in
    record {
      hung = c.take_out.ensures.hung c.args.stamps.now i.hung;
      places = c.take_out.ensures.places ∙ i.places;
      same = still-same c.loop-place.spots c.take_out.new.spots c.in-Some.place c.args.ct c.in-Some.ensures.found c.take_out.ensures.rest
          _ i.same;
      rest = still-rest c.loop-place.spots c.take_out.new.spots c.in-Some.place c.args.ct c.in-Some.ensures.found c.take_out.ensures.rest
          ∙ i.rest;
    }

pub loop-place-preserved-in-Some : goal.loop-place-preserved-in-Some
loop-place-preserved-in-Some g c =
    let i = c.loop-place.invariant in
    record {
      hung = c.take_out.ensures.hung c.args.stamps.now i.hung;
      places = c.take_out.ensures.places ∙ i.places;
      same = still-same c.loop-place.spots c.take_out.new.spots c.in-Some.place c.args.ct c.in-Some.ensures.found c.take_out.ensures.rest
          _ i.same;
      rest = still-rest c.loop-place.spots c.take_out.new.spots c.in-Some.place c.args.ct c.in-Some.ensures.found c.take_out.ensures.rest
          ∙ i.rest;
    }

pub returns-clause-rest : goal.returns-clause-rest
returns-clause-rest g c = sym (none-cancelled c.loop-place.spots.spots c.args.ct c.in_default.ensures.none) ∙ c.loop-place.invariant.rest
