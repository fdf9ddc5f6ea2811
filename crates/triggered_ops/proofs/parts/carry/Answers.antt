use Rattle.std.proofs.Common.{◌<◌, length, sym, ap, subst, ◌∙◌, arith}
use Rattle.chain_list.specs.threads.Threads.{Woven, is_threaded}
use Rattle.triggered_ops.specs.Layout.{Spotted, wait_at}
use Rattle.triggered_ops.proofs.Hanging.{home-hung}
use Rattle.triggered_ops.proofs.Entering.{carried, entered-threaded}
use Rattle.triggered_ops.proofs.Moving.{home-thread, not-threaded}
use Rattle.triggered_ops.proofs.Packing.{swap-wait, with_one}
use Rattle.triggered_ops.proofs.Places.{wait-within}
use Rattle.triggered_ops.proofs.parts.carry.Goals as goal

pub insert-requires-clause-thread : goal.insert-requires-clause-thread
insert-requires-clause-thread g c = subst (λ k. k < length c.args.threads.now.threads) (sym c.home.ensures)
    (home-thread (wait_at c.args.spots.now.spots) c.args.threads.now c.args.stamps.now c.requires.hung c.in-Some.wait.ct c.in-Some.wait.due)

pub insert-requires-clause-place : goal.insert-requires-clause-place
insert-requires-clause-place g c = let w = wait-within c.args.spots.now.spots c.args.from c.requires.full in
    omega (arith, w, c.requires.order, c.requires.within)

pub insert-requires-clause-free : goal.insert-requires-clause-free
insert-requires-clause-free g c = not-threaded (wait_at c.args.spots.now.spots) c.args.threads.now c.args.stamps.now c.requires.hung
    c.args.to c.requires.empty

pub insert-requires-clause-there : goal.insert-requires-clause-there
insert-requires-clause-there g c =
    home-hung (wait_at c.args.spots.now.spots) c.args.threads.now c.args.stamps.now c.requires.hung c.home.result c.args.from
    c.in-Some.wait (sym c.wait.ensures ∙ c.in-Some.is) (sym c.home.ensures)

pub unlink-requires : goal.unlink-requires
unlink-requires g c =
    ap (is_threaded c.args.from) c.insert.ensures
    ∙ entered-threaded (wait_at c.args.spots.now.spots) c.args.threads.now c.args.stamps.now c.requires.hung c.args.from c.args.to
    c.in-Some.wait c.home.result (sym c.wait.ensures ∙ c.in-Some.is) c.home.ensures

pub returns-in-Some-clause-hung : goal.returns-in-Some-clause-hung
returns-in-Some-clause-hung g c =
    let ss = c.args.spots.now.spots in
    let w = wait-within ss c.args.from c.requires.full in
    carried (wait_at ss) c.args.threads.now c.args.stamps.now c.requires.hung c.args.from c.args.to c.in-Some.wait c.home.result
    (wait_at c.carry.new.self.spots) c.insert.new.self c.unlink.new.self
    (λ e. let lt = c.requires.order in omega (arith, lt, e)) (sym c.wait.ensures ∙ c.in-Some.is) c.requires.empty c.home.ensures
    c.insert.ensures c.unlink.ensures
    (λ q. ap (λ (s : Spotted _). wait_at s.spots q) c.carry.ensures
    ∙ with_one ss c.args.from _ w (λ d. swap-wait ss c.args.from c.args.to c.requires.order w d q))

pub returns-in-Some-clause-places : goal.returns-in-Some-clause-places
returns-in-Some-clause-places g c = ap (λ (w : Woven). w.places) c.unlink.ensures ∙ ap (λ (w : Woven). w.places) c.insert.ensures
