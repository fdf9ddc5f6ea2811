use Rattle.std.proofs.Common.{◌≡◌, ◌<◌, ℕ, true, false, Option, Some, None, length, refl, sym, ap, subst, ◌∙◌}
use Rattle.std.specs.Prelude.{IfNone}
use Rattle.chain_list.specs.threads.Threads.{thread, first_place}
use Rattle.triggered_ops.specs.Layout.{wait_at}
use Rattle.triggered_ops.proofs.Hanging.{home-due, home-waiting}
use Rattle.triggered_ops.proofs.Moving.{home-thread, first-of_waiting, first-of_due, none-on_lists}
use Rattle.triggered_ops.proofs.parts.first_on.Goals as goal

pub first-requires : goal.first-requires
first-requires g c = subst (λ k. k < length c.args.threads.now.threads) (sym c.home.ensures)
    (home-thread (wait_at c.args.spots.now.spots) c.args.threads.now c.args.stamps.now c.requires.hung c.args.ct false)

pub first-requires-in-None : goal.first-requires-in-None
first-requires-in-None g c = subst (λ k. k < length c.args.threads.now.threads) (sym c.home-in-None.ensures)
    (home-thread (wait_at c.args.spots.now.spots) c.args.threads.now c.args.stamps.now c.requires.hung c.args.ct true)

pub returns-in-Some-clause-found : goal.returns-in-Some-clause-found
returns-in-Some-clause-found g c =
    let b = sym c.belongs.ensures ∙ c.if-not-belongs.false in
    first-of_waiting (wait_at c.args.spots.now.spots) c.args.threads.now c.args.stamps.now c.requires.hung c.args.ct b
    (Some c.in-Some.place)
    (sym c.in-Some.is ∙ c.first.ensures ∙ ap (λ k. first_place (thread k c.args.threads.now))
    (c.home.ensures ∙ home-waiting c.args.stamps.now c.args.ct b))

pub returns-in-None-clause-found : goal.returns-in-None-clause-found
returns-in-None-clause-found g c =
    let b = sym c.belongs.ensures ∙ c.if-not-belongs.false in
    first-of_due (wait_at c.args.spots.now.spots) c.args.threads.now c.args.stamps.now c.requires.hung c.args.ct b c.first-in-None.result
    (c.first-in-None.ensures ∙ ap (λ k. first_place (thread k c.args.threads.now)) (c.home-in-None.ensures
    ∙ home-due c.args.stamps.now c.args.ct b))

none-of : (o : Option ℕ) (P : Type 0) → (o ≡ None → P) → IfNone o P
none-of None P f = f refl
none-of (Some p) P f = tt

pub returns-in-None-clause-none : goal.returns-in-None-clause-none
returns-in-None-clause-none g c =
    let b = sym c.belongs.ensures ∙ c.if-not-belongs.false in
    let e = sym (c.first.ensures ∙ ap (λ k. first_place (thread k c.args.threads.now))
    (c.home.ensures ∙ home-waiting c.args.stamps.now c.args.ct b)) ∙ c.in-None.is in
    let f = sym (c.first-in-None.ensures ∙ ap (λ k. first_place (thread k c.args.threads.now))
    (c.home-in-None.ensures ∙ home-due c.args.stamps.now c.args.ct b)) in
    none-of c.first-in-None.result _ (λ is. none-on_lists (wait_at c.args.spots.now.spots) c.args.threads.now c.args.stamps.now
    c.requires.hung c.args.ct b e (f ∙ is))
