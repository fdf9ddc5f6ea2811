use Rattle.std.proofs.Common.{◌≡◌, ◌<◌, false, true, cond, Some, get_or, length, sym, ap, subst, ◌∙◌, arith, length-set}
use Rattle.std.proofs.lemmas.List.{get_or_default}
use Rattle.std.specs.Option.{is_some, IfSome}
use Rattle.chain_list.specs.NodeMap.{node}
use Rattle.chain_list.proofs.ChainLemmas.{length-places_after}
use Rattle.chain_list.specs.declared.threads.ends.Ends.{Ends}
use Rattle.chain_list.specs.threads.Threads.{Woven, woven, thread, is_on, is_threaded}
use Rattle.chain_list.specs.threads.Fields.{next_of, no_ends}
use Rattle.chain_list.proofs.threads.ThreadLemmas.{viewed, settled, off-threads}
use Rattle.chain_list.proofs.threads.InsertLemmas.{inserted, there-within, next-within}
use Rattle.chain_list.proofs.threads.threads.Threads.insert.Goals as goal

pub next_of-next-requires : goal.next_of-next-requires
next_of-next-requires c =
    let on = subst (λ w. c.args.thread < length w.threads) (sym c.self.view_is) c.requires.thread in
    let lt : c.args.thread < length c.self.inside.ends.items = omega (arith, on, c.self.invariant.long) in
    let there = subst (λ (w : Woven). IfSome c.args.after (λ p. is_on p (thread c.args.thread w) ≡ true)) (sym c.self.view_is)
    c.requires.there in
    there-within _ _ _ _ c.args.after (c.self.invariant.each c.args.thread lt) there

pub put_between-requires-clause-before : goal.put_between-requires-clause-before
put_between-requires-clause-before c =
    let on = subst (λ w. c.args.thread < length w.threads) (sym c.self.view_is) c.requires.thread in
    let lt : c.args.thread < length c.self.inside.ends.items = omega (arith, on, c.self.invariant.long) in
    let there = subst (λ (w : Woven). IfSome c.args.after (λ p. is_on p (thread c.args.thread w) ≡ true)) (sym c.self.view_is)
    c.requires.there in
    there-within _ _ _ _ c.args.after (c.self.invariant.each c.args.thread lt) there

pub put_between-requires-clause-after : goal.put_between-requires-clause-after
put_between-requires-clause-after c =
    let on = subst (λ w. c.args.thread < length w.threads) (sym c.self.view_is) c.requires.thread in
    let lt : c.args.thread < length c.self.inside.ends.items = omega (arith, on, c.self.invariant.long) in
    let there = subst (λ (w : Woven). IfSome c.args.after (λ p. is_on p (thread c.args.thread w) ≡ true)) (sym c.self.view_is)
    c.requires.there in
    let e = c.index.result.now in
    let is : e ≡ get_or c.self.inside.ends.items c.args.thread no_ends = c.index.ensures
    ∙ get_or_default c.self.inside.ends.items c.args.thread e no_ends lt in
    subst (λ o. IfSome o (λ p. p < length c.self.inside.links))
    (sym (c.next_of-next.ensures ∙ ap (λ (d : Ends). next_of c.args.after d.first c.self.inside.links) is))
    (next-within _ _ _ _ c.args.after (c.self.invariant.each c.args.thread lt) there)

pub set_next-requires-clause-after : goal.set_next-requires-clause-after
set_next-requires-clause-after c =
    let within = subst (λ (w : Woven). c.args.place < w.places) (sym c.self.view_is) c.requires.place in
    let long = ap length c.put_between.ensures ∙ length-set c.self.inside.links c.args.place
    (Some (node c.args.thread c.args.after c.next_of-next.result)) in
    omega (arith, within, long)

pub set_previous-requires-clause-before : goal.set_previous-requires-clause-before
set_previous-requires-clause-before c =
    let within = subst (λ (w : Woven). c.args.place < w.places) (sym c.self.view_is) c.requires.place in
    let long = ap length c.set_next.ensures.links ∙ length-places_after c.args.after (Some c.args.place) _ ∙ ap length c.put_between.ensures
    ∙ length-set c.self.inside.links c.args.place (Some (node c.args.thread c.args.after c.next_of-next.result)) in
    omega (arith, within, long)

pub set_next-requires-clause-before : goal.set_next-requires-clause-before
set_next-requires-clause-before c =
    let on = subst (λ w. c.args.thread < length w.threads) (sym c.self.view_is) c.requires.thread in
    let lt : c.args.thread < length c.self.inside.ends.items = omega (arith, on, c.self.invariant.long) in
    let there = subst (λ (w : Woven). IfSome c.args.after (λ p. is_on p (thread c.args.thread w) ≡ true)) (sym c.self.view_is)
    c.requires.there in
    let long = ap length c.put_between.ensures ∙ length-set c.self.inside.links c.args.place
    (Some (node c.args.thread c.args.after c.next_of-next.result)) in
    subst (λ n. IfSome c.args.after (λ p. p < n)) (sym long) (there-within _ _ _ _ c.args.after (c.self.invariant.each c.args.thread lt)
    there)

pub set_previous-requires-clause-after : goal.set_previous-requires-clause-after
set_previous-requires-clause-after c =
    let on = subst (λ w. c.args.thread < length w.threads) (sym c.self.view_is) c.requires.thread in
    let lt : c.args.thread < length c.self.inside.ends.items = omega (arith, on, c.self.invariant.long) in
    let there = subst (λ (w : Woven). IfSome c.args.after (λ p. is_on p (thread c.args.thread w) ≡ true)) (sym c.self.view_is)
    c.requires.there in
    let e = c.index.result.now in
    let is : e ≡ get_or c.self.inside.ends.items c.args.thread no_ends = c.index.ensures
    ∙ get_or_default c.self.inside.ends.items c.args.thread e no_ends lt in
    let long = ap length c.set_next.ensures.links ∙ length-places_after c.args.after (Some c.args.place) _ ∙ ap length c.put_between.ensures
    ∙ length-set c.self.inside.links c.args.place (Some (node c.args.thread c.args.after c.next_of-next.result)) in
    subst (λ n. IfSome c.next_of-next.result (λ p. p < n)) (sym long)
    (subst (λ o. IfSome o (λ p. p < length c.self.inside.links))
    (sym (c.next_of-next.ensures ∙ ap (λ (d : Ends). next_of c.args.after d.first c.self.inside.links) is))
    (next-within _ _ _ _ c.args.after (c.self.invariant.each c.args.thread lt) there))

pub invariant_of-self : goal.invariant_of-self
invariant_of-self c =
    let on = subst (λ w. c.args.thread < length w.threads) (sym c.self.view_is) c.requires.thread in
    let lt : c.args.thread < length c.self.inside.ends.items = omega (arith, on, c.self.invariant.long) in
    let within = subst (λ w. c.args.place < w.places) (sym c.self.view_is) c.requires.place in
    let free = off-threads c.args.place _ (subst (λ w. is_threaded c.args.place w ≡ false) (sym c.self.view_is) c.requires.free) in
    let there = subst (λ (w : Woven). IfSome c.args.after (λ p. is_on p (thread c.args.thread w) ≡ true)) (sym c.self.view_is)
    c.requires.there in
    let p = inserted _ _ _ _ _ _ c.args.thread c.args.place c.args.after c.next_of-next.result c.index.result.now c.set_previous.new.ends
    c.self.invariant lt within free there c.index.ensures
    c.next_of-next.ensures c.put_between.ensures c.set_next.ensures.links c.set_previous.ensures.links
    (c.set_previous.ensures.first ∙ c.set_next.ensures.first) (c.set_previous.ensures.last
    ∙ ap (λ o. cond (is_some c.next_of-next.result) o (Some c.args.place)) c.set_next.ensures.last) in
    settled _ _ _ p.0

pub returns : goal.returns
returns c =
    let on = subst (λ w. c.args.thread < length w.threads) (sym c.self.view_is) c.requires.thread in
    let lt : c.args.thread < length c.self.inside.ends.items = omega (arith, on, c.self.invariant.long) in
    let within = subst (λ w. c.args.place < w.places) (sym c.self.view_is) c.requires.place in
    let free = off-threads c.args.place _ (subst (λ w. is_threaded c.args.place w ≡ false) (sym c.self.view_is) c.requires.free) in
    let there = subst (λ (w : Woven). IfSome c.args.after (λ p. is_on p (thread c.args.thread w) ≡ true)) (sym c.self.view_is)
    c.requires.there in
    let p = inserted _ _ _ _ _ _ c.args.thread c.args.place c.args.after c.next_of-next.result c.index.result.now c.set_previous.new.ends
    c.self.invariant lt within free there c.index.ensures
    c.next_of-next.ensures c.put_between.ensures c.set_next.ensures.links c.set_previous.ensures.links
    (c.set_previous.ensures.first ∙ c.set_next.ensures.first) (c.set_previous.ensures.last
    ∙ ap (λ o. cond (is_some c.next_of-next.result) o (Some c.args.place)) c.set_next.ensures.last) in
    let is = viewed _ _ _ p.0 in
    rw (← c.self.view_is) (λ i. woven (is i) (p.1 i))
