use Rattle.std.proofs.Common.{◌≡◌, ◌+◌, true, None, add-one, ap, ◌∙◌, length, rules, arith}
use Rattle.std.specs.Prelude.{is_some}
use Rattle.triggered_ops.specs.Layout.{Spotted, numbers_of, operations_in, packed, wait_at}
use Rattle.triggered_ops.proofs.Packing.{swap-length, swap-packed, passed-value, passed-thin, passed-both, packing-pass, packing-stay}
use Rattle.triggered_ops.proofs.Packing.{packing-carry, thin-same, with_one}
use Rattle.triggered_ops.proofs.parts.pack.Goals as goal

-- ---- none waits at the place
pub returns-then-is_none-clause-packs : goal.returns-then-is_none-clause-packs
returns-then-is_none-clause-packs g c =
    let none : wait_at c.args.spots.now.spots c.args.place ≡ None = search rules in
    packing-pass c.args.spots.now c.args.threads.now c.args.stamps.now c.args.kept c.args.place (c.args.place + 1) (add-one c.args.place)
    c.requires.packs c.requires.here none

pub returns-then-is_none-clause-value : goal.returns-then-is_none-clause-value
returns-then-is_none-clause-value g c =
    let none : wait_at c.args.spots.now.spots c.args.place ≡ None = search rules in
    with_one c.args.spots.now.spots c.args.place _ c.requires.here
    (λ d. passed-value c.args.spots.now.spots c.args.kept c.args.place (c.args.place + 1) d (add-one c.args.place) c.requires.here none)

pub returns-then-is_none-clause-numbers : goal.returns-then-is_none-clause-numbers
returns-then-is_none-clause-numbers g c = with_one c.args.spots.now.spots c.args.place _ c.requires.here
    (λ d. passed-thin c.args.spots.now.spots c.args.kept c.args.place (c.args.place + 1) d (add-one c.args.place) c.requires.here)

-- ---- one is carried
pub carry-requires-clause-full : goal.carry-requires-clause-full
carry-requires-clause-full g c = let some : is_some (wait_at c.args.spots.now.spots c.args.place) ≡ true = search rules in some

pub carry-requires-clause-empty : goal.carry-requires-clause-empty
carry-requires-clause-empty g c = c.requires.packs.free c.args.kept (omega arith) c.if-kept-place.true

pub returns-then-kept-place-clause-packs : goal.returns-then-kept-place-clause-packs
returns-then-kept-place-clause-packs g c =
    let some : is_some (wait_at c.args.spots.now.spots c.args.place) ≡ true = search rules in
    with_one c.args.spots.now.spots c.args.place _ c.requires.here
    (λ d. packing-carry c.args.spots.now c.carry.new.spots c.args.threads.now c.carry.new.threads c.args.stamps.now c.args.kept
    c.args.place (c.args.kept + 1) (c.args.place + 1) d (add-one c.args.kept) (add-one c.args.place)
    c.if-kept-place.true c.requires.packs c.requires.here some c.carry.ensures.hung c.carry.ensures.places
    (ap (λ (s : Spotted _). s.spots) c.carry.ensures.spots))

pub returns-then-kept-place-clause-value : goal.returns-then-kept-place-clause-value
returns-then-kept-place-clause-value g c =
    ap (λ (s : Spotted _). operations_in (packed (c.args.kept + 1) (c.args.place + 1) s.spots)) c.carry.ensures.spots
    ∙ with_one c.args.spots.now.spots c.args.place _ c.requires.here
    (λ d. ap operations_in (swap-packed c.args.spots.now.spots c.args.place c.args.kept c.if-kept-place.true c.requires.here d
    (c.args.kept + 1) (c.args.place + 1) (add-one c.args.kept) (add-one c.args.place)))

pub returns-then-kept-place-clause-numbers : goal.returns-then-kept-place-clause-numbers
returns-then-kept-place-clause-numbers g c =
    thin-same _ _ (ap (λ (s : Spotted _). numbers_of (packed (c.args.kept + 1) (c.args.place + 1) s.spots)) c.carry.ensures.spots
    ∙ with_one c.args.spots.now.spots c.args.place _ c.requires.here
    (λ d. ap numbers_of (swap-packed c.args.spots.now.spots c.args.place c.args.kept c.if-kept-place.true c.requires.here d
    (c.args.kept + 1) (c.args.place + 1) (add-one c.args.kept) (add-one c.args.place))))

pub returns-then-kept-place-clause-long : goal.returns-then-kept-place-clause-long
returns-then-kept-place-clause-long g c = ap (λ (s : Spotted _). length s.spots) c.carry.ensures.spots
    ∙ with_one c.args.spots.now.spots c.args.place _ c.requires.here
    (λ d. swap-length c.args.spots.now.spots c.args.place c.args.kept c.if-kept-place.true c.requires.here d)

pub returns-then-kept-place-clause-room : goal.returns-then-kept-place-clause-room
returns-then-kept-place-clause-room g c = ap (λ (s : Spotted _). s.room) c.carry.ensures.spots

-- ---- one stays where it is
pub returns-else-kept-place-clause-packs : goal.returns-else-kept-place-clause-packs
returns-else-kept-place-clause-packs g c =
    let some : is_some (wait_at c.args.spots.now.spots c.args.place) ≡ true = search rules in
    packing-stay c.args.spots.now c.args.threads.now c.args.stamps.now c.args.kept c.args.place (c.args.kept + 1) (c.args.place + 1)
    (add-one c.args.kept) (add-one c.args.place)
    (omega (arith, c.requires.packs.order, c.if-kept-place.false)) c.requires.packs c.requires.here some

pub returns-else-kept-place-clause-value : goal.returns-else-kept-place-clause-value
returns-else-kept-place-clause-value g c =
    let same : c.args.kept ≡ c.args.place = omega (arith, c.requires.packs.order, c.if-kept-place.false) in
    ap operations_in (passed-both c.args.spots.now.spots c.args.kept c.args.place (c.args.kept + 1) (c.args.place + 1) same
    (ap (λ n. n + 1) same))

pub returns-else-kept-place-clause-numbers : goal.returns-else-kept-place-clause-numbers
returns-else-kept-place-clause-numbers g c =
    let same : c.args.kept ≡ c.args.place = omega (arith, c.requires.packs.order, c.if-kept-place.false) in
    thin-same _ _ (ap numbers_of (passed-both c.args.spots.now.spots c.args.kept c.args.place (c.args.kept + 1) (c.args.place + 1) same
    (ap (λ n. n + 1) same)))

pub overflow_add-result-else-kept-place : goal.overflow_add-result-else-kept-place
overflow_add-result-else-kept-place g c = omega (arith, c.requires.packs.order, c.requires.here, c.requires.fits)
