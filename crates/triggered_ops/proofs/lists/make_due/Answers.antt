use Rattle.std.proofs.Common.{◌≡◌, ◌+◌, ◌*◌, true, length, ap, ◌∙◌, arith}
use Rattle.std.proofs.lemmas.List.{length-map, get_or-set_other}
use Rattle.chain_list.specs.threads.Threads.{Woven, thread, is_threaded, without, with_place}
use Rattle.triggered_ops.specs.Layout.{Spotted, wait_at}
use Rattle.triggered_ops.proofs.Hanging.{home-due, length-taken, thread-without}
use Rattle.triggered_ops.proofs.Moving.{home-thread, on-first, waits-on, threaded, left-free, made-due}
use Rattle.triggered_ops.proofs.Places.{noted-at, wait-within}
use Rattle.triggered_ops.proofs.lists.make_due.Goals as goal

pub unlink-requires : goal.unlink-requires
unlink-requires g c =
    let at = wait_at c.args.spots.now.spots in
    threaded at c.args.threads.now c.args.stamps.now c.requires.hung (2 * c.args.ct.slot + 1) c.args.place
    (on-first at c.args.threads.now c.args.stamps.now c.requires.hung (2 * c.args.ct.slot + 1) c.args.place c.requires.first)

pub push_back-requires-clause-thread : goal.push_back-requires-clause-thread
push_back-requires-clause-thread g c =
    let t = home-thread (wait_at c.args.spots.now.spots) c.args.threads.now c.args.stamps.now c.requires.hung c.args.ct true in
    let l = length-map c.args.threads.now.threads (without c.args.place) in
    let e = ap (λ (w : Woven). length w.threads) c.unlink.ensures in
    omega (arith, t, l, e, c.home.ensures)

pub push_back-requires-clause-place : goal.push_back-requires-clause-place
push_back-requires-clause-place g c =
    let at = wait_at c.args.spots.now.spots in
    let some = waits-on at c.args.threads.now c.args.stamps.now c.requires.hung (2 * c.args.ct.slot + 1) c.args.place
    (on-first at c.args.threads.now c.args.stamps.now c.requires.hung (2 * c.args.ct.slot + 1) c.args.place c.requires.first) in
    let w = wait-within c.args.spots.now.spots c.args.place some in
    let e = ap (λ (w : Woven). w.places) c.unlink.ensures in
    omega (arith, w, e, c.requires.within)

pub push_back-requires-clause-free : goal.push_back-requires-clause-free
push_back-requires-clause-free g c =
    ap (is_threaded c.args.place) c.unlink.ensures ∙ left-free (wait_at c.args.spots.now.spots) c.args.threads.now c.args.stamps.now
    c.requires.hung c.args.ct c.requires.belongs c.args.place

pub note_due-requires : goal.note_due-requires
note_due-requires g c =
    let at = wait_at c.args.spots.now.spots in
    waits-on at c.args.threads.now c.args.stamps.now c.requires.hung (2 * c.args.ct.slot + 1) c.args.place
    (on-first at c.args.threads.now c.args.stamps.now c.requires.hung (2 * c.args.ct.slot + 1) c.args.place c.requires.first)

pub returns-clause-hung : goal.returns-clause-hung
returns-clause-hung g c =
    let at = wait_at c.args.spots.now.spots in
    made-due at c.args.threads.now c.args.stamps.now c.requires.hung c.args.ct c.requires.belongs c.args.place c.requires.first
    (wait_at c.note_due.new.self.spots) c.push_back.new.self
    (λ q. ap (λ (s : Spotted _). wait_at s.spots q) c.note_due.ensures ∙ noted-at c.args.place true c.args.spots.now.spots q)
    (c.push_back.ensures ∙ (λ i. with_place ((c.home.ensures ∙ home-due c.args.stamps.now c.args.ct c.requires.belongs) i) c.args.place
    (c.unlink.ensures i)))

pub returns-clause-places : goal.returns-clause-places
returns-clause-places g c = ap (λ (w : Woven). w.places) c.push_back.ensures ∙ ap (λ (w : Woven). w.places) c.unlink.ensures

pub returns-clause-fewer : goal.returns-clause-fewer
returns-clause-fewer g c =
    let at = wait_at c.args.spots.now.spots in
    let w = c.args.threads.now in
    let k = 2 * c.args.ct.slot + 1 in
    let on = on-first at w c.args.stamps.now c.requires.hung k c.args.place c.requires.first in
    let taken = length-taken c.args.place (thread k w) on in
    let home_is = c.home.ensures ∙ home-due c.args.stamps.now c.args.ct c.requires.belongs in
    let new : thread k c.push_back.new.self ≡ without c.args.place (thread k w) =
    ap (thread k) c.push_back.ensures ∙ get_or-set_other c.unlink.new.self.threads c.home.result k _ _ (λ e. omega (arith, e, home_is))
    ∙ ap (thread k) c.unlink.ensures ∙ thread-without k c.args.place w in
    let l = ap length new in
    omega (arith, taken, l)
