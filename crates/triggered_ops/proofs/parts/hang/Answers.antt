use Rattle.std.proofs.Common.{◌<◌, length, sym, ap, subst, ◌∙◌}
use Rattle.chain_list.specs.threads.Threads.{Woven, thread}
use Rattle.triggered_ops.specs.Hung.{Ascending}
use Rattle.triggered_ops.specs.Layout.{wait_at}
use Rattle.triggered_ops.proofs.Entering.{entered, entered-stray}
use Rattle.triggered_ops.proofs.Moving.{home-thread, home-ordered, waits-on, not-threaded}
use Rattle.triggered_ops.proofs.parts.hang.Goals as goal

pub gap-after-requires-clause-within : goal.gap-after-requires-clause-within
gap-after-requires-clause-within g c = subst (λ k. k < length c.args.threads.now.threads) (sym c.home-thread.ensures)
    (home-thread (wait_at c.args.spots.now.spots) c.args.threads.now c.args.stamps.now c.requires.hung c.args.wait.ct c.args.wait.due)

pub gap-after-requires-clause-waits : goal.gap-after-requires-clause-waits
gap-after-requires-clause-waits g c = λ q on. waits-on (wait_at c.args.spots.now.spots) c.args.threads.now c.args.stamps.now
    c.requires.hung c.home-thread.result q on

pub gap-after-requires-clause-ordered : goal.gap-after-requires-clause-ordered
gap-after-requires-clause-ordered g c =
    let at = wait_at c.args.spots.now.spots in
    subst (λ k. Ascending at (thread k c.args.threads.now)) (sym c.home-thread.ensures)
    (home-ordered at c.args.threads.now c.args.stamps.now c.requires.hung c.args.wait.ct (sym c.belongs.ensures ∙ c.if-belongs.true)
    c.args.wait.due)

pub insert-requires-clause-thread : goal.insert-requires-clause-thread
insert-requires-clause-thread g c = subst (λ k. k < length c.args.threads.now.threads) (sym c.home-thread.ensures)
    (home-thread (wait_at c.args.spots.now.spots) c.args.threads.now c.args.stamps.now c.requires.hung c.args.wait.ct c.args.wait.due)

pub insert-requires-clause-free : goal.insert-requires-clause-free
insert-requires-clause-free g c = not-threaded (wait_at c.args.spots.now.spots) c.args.threads.now c.args.stamps.now c.requires.hung
    c.args.place c.requires.empty

pub insert-requires-clause-there : goal.insert-requires-clause-there
insert-requires-clause-there g c = c.gap-after.ensures.there

pub returns-then-belongs-clause-hung : goal.returns-then-belongs-clause-hung
returns-then-belongs-clause-hung g c =
    let at = wait_at c.args.spots.now.spots in
    entered at c.args.threads.now c.args.stamps.now c.requires.hung c.args.place c.args.wait c.requires.empty c.insert.new.self
    c.home-thread.result c.gap-after.result c.home-thread.ensures c.gap-after.ensures c.insert.ensures
    c.requires.low c.requires.high

pub returns-then-belongs-clause-places : goal.returns-then-belongs-clause-places
returns-then-belongs-clause-places g c = ap (λ (w : Woven). w.places) c.insert.ensures

pub push_back-requires-clause-thread : goal.push_back-requires-clause-thread
push_back-requires-clause-thread g c = subst (λ k. k < length c.args.threads.now.threads) (sym c.home-thread.ensures)
    (home-thread (wait_at c.args.spots.now.spots) c.args.threads.now c.args.stamps.now c.requires.hung c.args.wait.ct c.args.wait.due)

pub push_back-requires-clause-free : goal.push_back-requires-clause-free
push_back-requires-clause-free g c = not-threaded (wait_at c.args.spots.now.spots) c.args.threads.now c.args.stamps.now c.requires.hung
    c.args.place c.requires.empty

pub returns-else-belongs-clause-hung : goal.returns-else-belongs-clause-hung
returns-else-belongs-clause-hung g c =
    let at = wait_at c.args.spots.now.spots in
    entered-stray at c.args.threads.now c.args.stamps.now c.requires.hung c.args.place c.args.wait c.requires.empty c.push_back.new.self
    c.home-thread.result (sym c.belongs.ensures ∙ c.if-belongs.false) c.home-thread.ensures c.push_back.ensures

pub returns-else-belongs-clause-places : goal.returns-else-belongs-clause-places
returns-else-belongs-clause-places g c = ap (λ (w : Woven). w.places) c.push_back.ensures
