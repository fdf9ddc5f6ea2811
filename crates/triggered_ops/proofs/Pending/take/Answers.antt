use Rattle.std.proofs.Common.{◌≡◌, true, Option, Some, None, length, refl, sym, ap, ◌∙◌, arith}
use Rattle.std.specs.Prelude.{IfNone, is_some, option_map}
use Rattle.triggered_ops.specs.Operations.{Operation, action_of}
use Rattle.triggered_ops.specs.Layout.{Spotted, numbers_of, operations_in, op_at, wait_at}
use Rattle.triggered_ops.proofs.Rising.{without-absent}
use Rattle.triggered_ops.proofs.Laid.{laid-same}
use Rattle.triggered_ops.proofs.Moving.{threaded-at}
use Rattle.triggered_ops.proofs.Places.{emptied-numbers, emptied-count, op-some}
use Rattle.triggered_ops.proofs.Found.{found-here, emptied-here}
use Rattle.triggered_ops.proofs.Pending.take.Goals as goal

pub waiting_at-requires : goal.waiting_at-requires
waiting_at-requires g c = c.self.invariant.rising

-- ---- it doesn't wait
pub returns-in-None-clause-value : goal.returns-in-None-clause-value
returns-in-None-clause-value g c = rw (← c.self.view_is) (sym (ap (option_map action_of) c.in-None.ensures.none))

pub returns-in-None-clause-rest : goal.returns-in-None-clause-rest
returns-in-None-clause-rest g c = sym (without-absent c.args.number c.args.self.now (rw (← c.self.view_is) c.in-None.ensures.none))

-- ---- it is taken out
pub take_out-requires-clause-threaded : goal.take_out-requires-clause-threaded
take_out-requires-clause-threaded g c =
    let i = c.self.inside in
    threaded-at (wait_at i.spots.spots) i.threads i.stamps.items c.self.invariant.hung c.in-Some.place c.in-Some.ensures.waits

pub invariant_of-self : goal.invariant_of-self
invariant_of-self g c =
    let i = c.self.inside in
    let p = c.in-Some.place in
    let is = c.take_out.ensures.rest in
    let fewer = emptied-count p i.spots.spots c.in-Some.ensures.waits in
    let n = ap (λ (s : Spotted _). length (operations_in s.spots)) is in
    laid-same i.spots c.take_out.new.spots i.threads c.take_out.new.threads i.stamps.items i.given i.limit c.self.invariant
    (record {
      numbers = ap (λ (s : Spotted _). numbers_of s.spots) is ∙ emptied-numbers p i.spots.spots;
      room =
          ap (λ (s : Spotted _). s.room) is;
    })
    (c.take_out.ensures.hung i.stamps.items c.self.invariant.hung) c.take_out.ensures.places (omega (arith, fewer, n))

pub returns-in-Some-clause-value : goal.returns-in-Some-clause-value
returns-in-Some-clause-value g c =
    let f = c.in-Some.ensures.found in
    rw (← c.self.view_is) (c.take_out.ensures.value ∙ sym (ap (option_map action_of)
    (found-here c.self.inside.spots.spots c.args.number c.in-Some.place c.self.invariant.rising f)))

pub returns-in-Some-clause-rest : goal.returns-in-Some-clause-rest
returns-in-Some-clause-rest g c =
    let f = c.in-Some.ensures.found in
    rw (
      ← c.self.view_is,
      c.take_out.ensures.rest,
      emptied-here c.self.inside.spots.spots c.args.number c.in-Some.place
          c.self.invariant.rising f,
    ) refl

-- what waits has an action
some-taken : {D : Type 0} (o : Option (Operation D)) (r : Option D) (P : Type 0) → r ≡ option_map action_of o → is_some o ≡ true →
    IfNone r P
some-taken None r P e some = cc
some-taken (Some o) None P e some = cc
some-taken (Some o) (Some d) P e some = tt

pub returns-in-Some-clause-none : goal.returns-in-Some-clause-none
returns-in-Some-clause-none g c =
    let ss = c.self.inside.spots.spots in
    some-taken (op_at ss c.in-Some.place) c.take_out.result _ c.take_out.ensures.value (op-some ss c.in-Some.place c.in-Some.ensures.waits)
