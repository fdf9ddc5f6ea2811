use Rattle.std.proofs.Common.{◌≡◌, true, ◌∷◌, ◌++◌, Some, None, find, length, sym, ap, ◌∙◌, arith}
use Rattle.std.specs.Option.{is_some}
use Rattle.chain_list.specs.Chain.{stamp_at, first_or}
use Rattle.chain_list.specs.threads.Threads.{thread, is_on, first_place, place_after}
use Rattle.chain_list.proofs.threads.ThreadLemmas.{on_one}
use Rattle.match_lists.specs.Buckets.{on_thread}
use Rattle.match_lists.specs.Indexed.{places_of, takes, key_of}
use Rattle.match_lists.specs.Looks.{look_of}
use Rattle.match_lists.specs.Trails.{place_in}
use Rattle.match_lists.proofs.Walking.{from_place, place-first, there}
use Rattle.match_lists.proofs.FirstOfThreads.{find-hit, find-pass}
use Rattle.match_lists.proofs.IndexLemmas.{stands, Apart-filter, first-places, on-places, after-places, part-stamped}
use Rattle.match_lists.proofs.LookLemmas.{seen-part, seen-look}
use Rattle.match_lists.proofs.match_list.first_on.Goals as goal

pub loop-next-init : goal.loop-next-init
loop-next-init g c =
    let xs = c.args.chain.now.entries in
    let h = c.args.header.now in
    let ys = on_thread c.args.limit c.args.thread xs in
    let told = c.requires.indexed.threaded c.args.thread (omega arith) in
    let at : place_in c.first-next.result ≡ first_or ys None = c.first-next.ensures ∙ ap first_place told ∙ first-places ys in
    let all : from_place (place_in c.first-next.result) ys ≡ ys = ap (λ o. from_place o ys) at ∙ place-first ys in
    record {
      live = at ∙ ap (λ l. first_or l None) (sym all);
      first = ap (λ l. find (takes h) l) (sym all);
      steps =
          omega (arith, ap length all);
    }

pub visit-place-requires-clause-look : goal.visit-place-requires-clause-look
visit-place-requires-clause-look g c =
    let xs = c.args.chain.now.entries in
    let q = stands c.args.limit c.args.thread in
    let looks = c.args.trails.now.looks.items in
    let here = place_in c.loop-next.next in
    let p = c.in-Some.unseen.place in
    let ys = on_thread c.args.limit c.args.thread xs in
    let apart = Apart-filter q xs c.nodes-nodes.ensures.apart in
    let inv = c.loop-next.invariant in
    let r = there p here ys apart (ap place_in c.in-Some.is) inv.live in
    let seen = seen-part looks q xs r.front r.entry r.behind c.requires.seen r.is in
    omega (arith, seen.0, r.at)

pub key-requires : goal.key-requires
key-requires g c =
    let xs = c.args.chain.now.entries in
    let q = stands c.args.limit c.args.thread in
    let here = place_in c.loop-next.next in
    let p = c.in-Some.unseen.place in
    let ys = on_thread c.args.limit c.args.thread xs in
    let apart = Apart-filter q xs c.nodes-nodes.ensures.apart in
    let inv = c.loop-next.invariant in
    let r = there p here ys apart (ap place_in c.in-Some.is) inv.live in
    let stamped = part-stamped q xs r.front r.entry r.behind c.nodes-nodes.ensures.apart r.is in
    ap is_some (ap (λ p. stamp_at p xs) (c.visit-place.ensures.place ∙ sym r.at) ∙ stamped)

pub returns-then-takes-clause-key : goal.returns-then-takes-clause-key
returns-then-takes-clause-key g c =
    let xs = c.args.chain.now.entries in
    let q = stands c.args.limit c.args.thread in
    let looks = c.args.trails.now.looks.items in
    let h = c.args.header.now in
    let here = place_in c.loop-next.next in
    let p = c.in-Some.unseen.place in
    let ys = on_thread c.args.limit c.args.thread xs in
    let apart = Apart-filter q xs c.nodes-nodes.ensures.apart in
    let inv = c.loop-next.invariant in
    let r = there p here ys apart (ap place_in c.in-Some.is) inv.live in
    let seen = seen-part looks q xs r.front r.entry r.behind c.requires.seen r.is in
    let its = look_of r.entry.value in
    let look = sym (c.visit-place.ensures.look its) ∙ seen-look looks r.entry p its seen r.at in
    let told = c.takes.ensures r.entry.value look in
    let rest : from_place here ys ≡ r.entry ∷ r.behind = ap (λ o. from_place (place_in o) ys) c.in-Some.is ∙ r.rest_is in
    let stamped = part-stamped q xs r.front r.entry r.behind c.nodes-nodes.ensures.apart r.is in
    let at : c.visit-place.result.0 ≡ r.entry.key.place = c.visit-place.ensures.place ∙ sym r.at in
    let stamps : Some c.key.result.stamp ≡ Some r.entry.key.stamp = c.key.ensures.stamp ∙ ap (λ p. stamp_at p xs) at ∙ stamped in
    let stamp : c.key.result.stamp ≡ r.entry.key.stamp = cc in
    let place : c.key.result.place ≡ r.entry.key.place = c.key.ensures.place ∙ at in
    let key : c.key.result ≡ r.entry.key = λ i. record { place = place i; stamp = stamp i } in
    ap (λ k. Some k) key
    ∙ ap key_of (sym (inv.first ∙ ap (λ l. find (takes h) l) rest
    ∙ find-hit (takes h) r.entry r.behind (sym told ∙ c.if-takes.true)))

pub visit-place-requires-clause-threaded : goal.visit-place-requires-clause-threaded
visit-place-requires-clause-threaded g c =
    let xs = c.args.chain.now.entries in
    let q = stands c.args.limit c.args.thread in
    let here = place_in c.loop-next.next in
    let p = c.in-Some.unseen.place in
    let ys = on_thread c.args.limit c.args.thread xs in
    let apart = Apart-filter q xs c.nodes-nodes.ensures.apart in
    let inv = c.loop-next.invariant in
    let r = there p here ys apart (ap place_in c.in-Some.is) inv.live in
    let told = c.requires.indexed.threaded c.args.thread (omega arith) in
    let on : is_on p (thread c.args.thread c.args.trails.now.threads) ≡ true =
    ap (λ ps. is_on p ps) (told ∙ ap places_of r.is) ∙ ap (λ p. is_on p (places_of (r.front ++ r.entry ∷ r.behind))) (sym r.at)
    ∙ on-places r.front r.entry r.behind in
    on_one p c.args.trails.now.threads.threads c.args.thread on

pub loop-next-smaller : goal.loop-next-smaller
loop-next-smaller g c =
    let xs = c.args.chain.now.entries in
    let q = stands c.args.limit c.args.thread in
    let here = place_in c.loop-next.next in
    let p = c.in-Some.unseen.place in
    let after = place_in c.visit-place.result.1 in
    let ys = on_thread c.args.limit c.args.thread xs in
    let apart = Apart-filter q xs c.nodes-nodes.ensures.apart in
    let inv = c.loop-next.invariant in
    let r = there p here ys apart (ap place_in c.in-Some.is) inv.live in
    let told = c.requires.indexed.threaded c.args.thread (omega arith) in
    let on : is_on p (thread c.args.thread c.args.trails.now.threads) ≡ true =
    ap (λ ps. is_on p ps) (told ∙ ap places_of r.is) ∙ ap (λ p. is_on p (places_of (r.front ++ r.entry ∷ r.behind))) (sym r.at)
    ∙ on-places r.front r.entry r.behind in
    let next : after ≡ first_or r.behind None =
    c.visit-place.ensures.after c.args.thread on ∙ (λ i. place_after (sym r.at i) ((told ∙ ap places_of r.is) i))
    ∙ after-places r.front r.entry r.behind r.away in
    let rest : from_place here ys ≡ r.entry ∷ r.behind = ap (λ o. from_place (place_in o) ys) c.in-Some.is ∙ r.rest_is in
    let then : from_place after ys ≡ r.behind = ap (λ o. from_place o ys) next ∙ r.then in
    omega (arith, ap length then, ap length rest)

pub loop-next-preserved : goal.loop-next-preserved
loop-next-preserved g c =
    let xs = c.args.chain.now.entries in
    let q = stands c.args.limit c.args.thread in
    let looks = c.args.trails.now.looks.items in
    let h = c.args.header.now in
    let here = place_in c.loop-next.next in
    let p = c.in-Some.unseen.place in
    let after = place_in c.visit-place.result.1 in
    let ys = on_thread c.args.limit c.args.thread xs in
    let apart = Apart-filter q xs c.nodes-nodes.ensures.apart in
    let inv = c.loop-next.invariant in
    let r = there p here ys apart (ap place_in c.in-Some.is) inv.live in
    let seen = seen-part looks q xs r.front r.entry r.behind c.requires.seen r.is in
    let its = look_of r.entry.value in
    let look = sym (c.visit-place.ensures.look its) ∙ seen-look looks r.entry p its seen r.at in
    let takes_it = c.takes.ensures r.entry.value look in
    let told = c.requires.indexed.threaded c.args.thread (omega arith) in
    let on : is_on p (thread c.args.thread c.args.trails.now.threads) ≡ true =
    ap (λ ps. is_on p ps) (told ∙ ap places_of r.is) ∙ ap (λ p. is_on p (places_of (r.front ++ r.entry ∷ r.behind))) (sym r.at)
    ∙ on-places r.front r.entry r.behind in
    let next : after ≡ first_or r.behind None =
    c.visit-place.ensures.after c.args.thread on ∙ (λ i. place_after (sym r.at i) ((told ∙ ap places_of r.is) i))
    ∙ after-places r.front r.entry r.behind r.away in
    let rest : from_place here ys ≡ r.entry ∷ r.behind = ap (λ o. from_place (place_in o) ys) c.in-Some.is ∙ r.rest_is in
    let then : from_place after ys ≡ r.behind = ap (λ o. from_place o ys) next ∙ r.then in
    record {
      live = next ∙ ap (λ l. first_or l None) (sym then);
      first = inv.first ∙ ap (λ l. find (takes h) l) rest
          ∙ find-pass (takes h) r.entry r.behind (sym takes_it ∙ c.if-takes.false) ∙ ap (λ l. find (takes h) l) (sym then);
      steps = omega (arith, inv.steps, ap length then, ap length rest, c.visit-place.ensures.steps);
    }
