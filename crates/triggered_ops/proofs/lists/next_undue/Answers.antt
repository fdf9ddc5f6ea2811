use Rattle.std.proofs.Common.{◌*◌, ◌<◌, ◌≤◌, true, length, sym, ap, subst, ◌∙◌}
use Rattle.chain_list.specs.threads.Threads.{thread, last_place}
use Rattle.triggered_ops.specs.Layout.{wait_at}
use Rattle.triggered_ops.proofs.Hanging.{home-due}
use Rattle.triggered_ops.proofs.Moving.{home-thread, on-last, waits-on, none-due, last-low}
use Rattle.triggered_ops.proofs.lists.next_undue.Goals as goal

pub last-requires : goal.last-requires
last-requires g c = subst (λ k. k < length c.args.threads.now.threads) (sym c.home.ensures)
    (home-thread (wait_at c.args.spots.now.spots) c.args.threads.now c.args.stamps.now c.requires.hung c.args.ct true)

pub returns-in-None-clause-none : goal.returns-in-None-clause-none
returns-in-None-clause-none g c =
    let is = sym (c.last.ensures.last ∙ ap (λ k. last_place (thread k c.args.threads.now))
    (c.home.ensures ∙ home-due c.args.stamps.now c.args.ct c.requires.belongs)) ∙ c.in-None.is in
    λ p x e s d. absurd (none-due (wait_at c.args.spots.now.spots) c.args.threads.now c.args.stamps.now c.requires.hung c.args.ct
    c.requires.belongs is p x e s d)

pub threshold-requires : goal.threshold-requires
threshold-requires g c =
    let is = sym (c.last.ensures.last ∙ ap (λ k. last_place (thread k c.args.threads.now))
    (c.home.ensures ∙ home-due c.args.stamps.now c.args.ct c.requires.belongs)) ∙ c.in-Some.is in
    let h = c.requires.hung in
    waits-on (wait_at c.args.spots.now.spots) c.args.threads.now c.args.stamps.now h (2 * c.args.ct.slot) c.in-Some.place
    (on-last (wait_at c.args.spots.now.spots) c.args.threads.now c.args.stamps.now h (2 * c.args.ct.slot) c.in-Some.place is)

pub returns-then-threshold-sum-clause-last : goal.returns-then-threshold-sum-clause-last
returns-then-threshold-sum-clause-last g c =
    sym (c.last.ensures.last ∙ ap (λ k. last_place (thread k c.args.threads.now))
    (c.home.ensures ∙ home-due c.args.stamps.now c.args.ct c.requires.belongs)) ∙ c.in-Some.is

pub returns-then-threshold-sum-clause-some : goal.returns-then-threshold-sum-clause-some
returns-then-threshold-sum-clause-some g c = subst (λ n. c.args.sum < n) c.threshold.ensures c.if-threshold-sum.true

pub returns-else-threshold-sum-clause-none : goal.returns-else-threshold-sum-clause-none
returns-else-threshold-sum-clause-none g c =
    let is = sym (c.last.ensures.last ∙ ap (λ k. last_place (thread k c.args.threads.now))
    (c.home.ensures ∙ home-due c.args.stamps.now c.args.ct c.requires.belongs)) ∙ c.in-Some.is in
    last-low (wait_at c.args.spots.now.spots) c.args.threads.now c.args.stamps.now c.requires.hung c.args.ct c.requires.belongs
    c.in-Some.place c.args.sum is
    (subst (λ n. n ≤ c.args.sum) c.threshold.ensures c.if-threshold-sum.false)
