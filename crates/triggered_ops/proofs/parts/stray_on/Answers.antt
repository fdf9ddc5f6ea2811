use Rattle.std.proofs.Common.{◌≡◌, ◌*◌, None, [], length, sym, ap, ◌∙◌, rules}
use Rattle.chain_list.specs.threads.Threads.{thread, first_place}
use Rattle.triggered_ops.specs.Hung.{WaitsOn, next_in}
use Rattle.triggered_ops.specs.Layout.{wait_at}
use Rattle.triggered_ops.proofs.Hanging.{last-none, walk-begin, walk-step, walk-all}
use Rattle.triggered_ops.proofs.Entering.{no-stray, on-strays}
use Rattle.triggered_ops.proofs.Places.{waits-is}
use Rattle.triggered_ops.proofs.parts.stray_on.Goals as goal

pub returns-then-is_none-clause-none : goal.returns-then-is_none-clause-none
returns-then-is_none-clause-none g c = λ p on.
    let w = waits-is c.args.ct (wait_at c.args.spots.now.spots p) on in
    let is : c.last.result ≡ None = search rules in
    let empty : thread (2 * length c.args.stamps.now) c.args.threads.now ≡ [] = last-none _ (sym c.last.ensures.last ∙ is) in
    no-stray (wait_at c.args.spots.now.spots) c.args.threads.now c.args.stamps.now c.requires.hung c.args.ct c.requires.belongs
    (ap first_place empty) p w.0 w.1 w.2

pub loop-place-init : goal.loop-place-init
loop-place-init g c = walk-begin (λ q. WaitsOn c.args.ct (wait_at c.args.spots.now.spots q) → ⊥)
    (thread (2 * length c.args.stamps.now) c.args.threads.now)

pub next_on-requires-clause-there : goal.next_on-requires-clause-there
next_on-requires-clause-there g c = c.loop-place.invariant.there

pub loop-place-smaller : goal.loop-place-smaller
loop-place-smaller g c =
    (walk-step (λ q. WaitsOn c.args.ct (wait_at c.args.spots.now.spots q) → ⊥) c.loop-place.after
    (thread (2 * length c.args.stamps.now) c.args.threads.now) c.in-Some.place c.loop-place.invariant c.last.ensures.apart
    (sym c.next_on.ensures ∙ c.in-Some.is) (c.waits_on.ensures.no c.if-waits_on.false)).1

pub loop-place-preserved : goal.loop-place-preserved
loop-place-preserved g c =
    (walk-step (λ q. WaitsOn c.args.ct (wait_at c.args.spots.now.spots q) → ⊥) c.loop-place.after
    (thread (2 * length c.args.stamps.now) c.args.threads.now) c.in-Some.place c.loop-place.invariant c.last.ensures.apart
    (sym c.next_on.ensures ∙ c.in-Some.is) (c.waits_on.ensures.no c.if-waits_on.false)).0

pub returns-clause-none : goal.returns-clause-none
returns-clause-none g c = λ p on.
    let w = waits-is c.args.ct (wait_at c.args.spots.now.spots p) on in
    let end : next_in c.loop-place.after (thread (2 * length c.args.stamps.now) c.args.threads.now) ≡ None = sym c.next_on.ensures
    ∙ c.in_default.is in
    walk-all (λ q. WaitsOn c.args.ct (wait_at c.args.spots.now.spots q) → ⊥) c.loop-place.after
    (thread (2 * length c.args.stamps.now) c.args.threads.now) c.loop-place.invariant end p
    (on-strays (wait_at c.args.spots.now.spots) c.args.threads.now c.args.stamps.now c.requires.hung c.args.ct c.requires.belongs p w.0
    w.1 w.2) on
