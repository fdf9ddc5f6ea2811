use Rattle.std.proofs.Common.{◌≡◌, ◌<◌, false, Some, None, length, sym, ap, subst, ◌∙◌, refl, arith, length-set}
use Rattle.std.specs.Option.{IfSome}
use Rattle.chain_list.specs.NodeMap.{node}
use Rattle.chain_list.proofs.ChainLemmas.{length-places_after}
use Rattle.chain_list.specs.threads.Threads.{woven, is_threaded}
use Rattle.chain_list.proofs.threads.ThreadLemmas.{viewed, settled, pushed, last-within, off-threads}
use Rattle.chain_list.proofs.threads.threads.Threads.push_back.Goals as goal

pub set_next-requires-clause-before : goal.set_next-requires-clause-before
set_next-requires-clause-before c =
    let on = subst (λ w. c.args.thread < length w.threads) (sym c.self.view_is) c.requires.thread in
    let lt : c.args.thread < length c.self.inside.ends.items = omega (arith, on, c.self.invariant.long) in
    last-within _ _ _ _ c.args.thread c.args.place c.index.result.now _ c.self.invariant lt c.index.ensures c.put.ensures

pub set_next-requires-clause-after : goal.set_next-requires-clause-after
set_next-requires-clause-after c =
    let within = subst (λ w. c.args.place < w.places) (sym c.self.view_is) c.requires.place in
    let long = ap length c.put.ensures ∙ length-set c.self.inside.links c.args.place (Some (node c.args.thread None None)) in
    omega (arith, within, long)

pub set_previous-requires-clause-after : goal.set_previous-requires-clause-after
set_previous-requires-clause-after c =
    let within = subst (λ w. c.args.place < w.places) (sym c.self.view_is) c.requires.place in
    let long = ap length c.set_next.ensures.links ∙ length-places_after c.index.result.now.last (Some c.args.place) _
    ∙ ap length c.put.ensures ∙ length-set c.self.inside.links c.args.place (Some (node c.args.thread None None)) in
    omega (arith, within, long)

pub set_previous-requires-clause-before : goal.set_previous-requires-clause-before
set_previous-requires-clause-before c =
    let on = subst (λ w. c.args.thread < length w.threads) (sym c.self.view_is) c.requires.thread in
    let lt : c.args.thread < length c.self.inside.ends.items = omega (arith, on, c.self.invariant.long) in
    let long = ap length c.set_next.ensures.links ∙ length-places_after c.index.result.now.last (Some c.args.place) c.put.new.self in
    subst (λ n. IfSome c.index.result.now.last (λ q. q < n)) (sym long)
    (last-within _ _ _ _ c.args.thread c.args.place c.index.result.now _ c.self.invariant lt c.index.ensures c.put.ensures)

pub invariant_of-self : goal.invariant_of-self
invariant_of-self c =
    let on = subst (λ w. c.args.thread < length w.threads) (sym c.self.view_is) c.requires.thread in
    let lt : c.args.thread < length c.self.inside.ends.items = omega (arith, on, c.self.invariant.long) in
    let within = subst (λ w. c.args.place < w.places) (sym c.self.view_is) c.requires.place in
    let free = off-threads c.args.place _ (subst (λ w. is_threaded c.args.place w ≡ false) (sym c.self.view_is) c.requires.free) in
    let p = pushed _ _ _ _ _ _ c.args.thread c.args.place c.index.result.now
    (record { first = c.set_previous.new.ends.first; last = Some c.args.place }) c.self.invariant lt within free c.index.ensures
    c.put.ensures c.set_next.ensures.links c.set_previous.ensures.links (c.set_previous.ensures.first ∙ c.set_next.ensures.first) refl in
    settled _ _ _ p.0

pub returns : goal.returns
returns c =
    let on = subst (λ w. c.args.thread < length w.threads) (sym c.self.view_is) c.requires.thread in
    let lt : c.args.thread < length c.self.inside.ends.items = omega (arith, on, c.self.invariant.long) in
    let within = subst (λ w. c.args.place < w.places) (sym c.self.view_is) c.requires.place in
    let free = off-threads c.args.place _ (subst (λ w. is_threaded c.args.place w ≡ false) (sym c.self.view_is) c.requires.free) in
    let p = pushed _ _ _ _ _ _ c.args.thread c.args.place c.index.result.now
    (record { first = c.set_previous.new.ends.first; last = Some c.args.place }) c.self.invariant lt within free c.index.ensures
    c.put.ensures c.set_next.ensures.links c.set_previous.ensures.links (c.set_previous.ensures.first ∙ c.set_next.ensures.first) refl in
    let is = viewed _ _ _ p.0 in
    rw (← c.self.view_is) (λ i. woven (is i) (p.1 i))
