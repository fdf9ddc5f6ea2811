use Rattle.std.proofs.Common.{◌+◌, ◌*◌, ◌<◌, ◌≤◌, false, length, sym, ap, subst, ◌∙◌}
use Rattle.chain_list.specs.threads.Threads.{thread, first_place}
use Rattle.triggered_ops.specs.Layout.{wait_at}
use Rattle.triggered_ops.proofs.Hanging.{home-waiting}
use Rattle.triggered_ops.proofs.Moving.{home-thread, on-first, waits-on, none-waiting, first-high}
use Rattle.triggered_ops.proofs.lists.next_due.Goals as goal

pub first-requires : goal.first-requires
first-requires g c = subst (λ k. k < length c.args.threads.now.threads) (sym c.home.ensures)
    (home-thread (wait_at c.args.spots.now.spots) c.args.threads.now c.args.stamps.now c.requires.hung c.args.ct false)

pub returns-in-None-clause-none : goal.returns-in-None-clause-none
returns-in-None-clause-none g c =
    let is = sym (c.first.ensures ∙ ap (λ k. first_place (thread k c.args.threads.now))
    (c.home.ensures ∙ home-waiting c.args.stamps.now c.args.ct c.requires.belongs)) ∙ c.in-None.is in
    λ p x e s d. absurd (none-waiting (wait_at c.args.spots.now.spots) c.args.threads.now c.args.stamps.now c.requires.hung c.args.ct
    c.requires.belongs is p x e s d)

pub threshold-requires : goal.threshold-requires
threshold-requires g c =
    let is = sym (c.first.ensures ∙ ap (λ k. first_place (thread k c.args.threads.now))
    (c.home.ensures ∙ home-waiting c.args.stamps.now c.args.ct c.requires.belongs)) ∙ c.in-Some.is in
    let h = c.requires.hung in
    waits-on (wait_at c.args.spots.now.spots) c.args.threads.now c.args.stamps.now h (2 * c.args.ct.slot + 1) c.in-Some.place
    (on-first (wait_at c.args.spots.now.spots) c.args.threads.now c.args.stamps.now h (2 * c.args.ct.slot + 1) c.in-Some.place is)

pub returns-then-threshold-sum-clause-first : goal.returns-then-threshold-sum-clause-first
returns-then-threshold-sum-clause-first g c =
    sym (c.first.ensures ∙ ap (λ k. first_place (thread k c.args.threads.now))
    (c.home.ensures ∙ home-waiting c.args.stamps.now c.args.ct c.requires.belongs)) ∙ c.in-Some.is

pub returns-then-threshold-sum-clause-some : goal.returns-then-threshold-sum-clause-some
returns-then-threshold-sum-clause-some g c = subst (λ n. n ≤ c.args.sum) c.threshold.ensures c.if-threshold-sum.true

pub returns-else-threshold-sum-clause-none : goal.returns-else-threshold-sum-clause-none
returns-else-threshold-sum-clause-none g c =
    let is = sym (c.first.ensures ∙ ap (λ k. first_place (thread k c.args.threads.now))
    (c.home.ensures ∙ home-waiting c.args.stamps.now c.args.ct c.requires.belongs)) ∙ c.in-Some.is in
    first-high (wait_at c.args.spots.now.spots) c.args.threads.now c.args.stamps.now c.requires.hung c.args.ct c.requires.belongs
    c.in-Some.place c.args.sum is
    (subst (λ n. c.args.sum < n) c.threshold.ensures c.if-threshold-sum.false)
