use Rattle.std.proofs.Common.{◌≡◌, ◌<◌, true, cond, length, sym, ap, subst, ◌∙◌, arith}
use Rattle.std.specs.Option.{is_some, IfSome}
use Rattle.chain_list.proofs.ChainLemmas.{length-places_after}
use Rattle.chain_list.specs.threads.Threads.{woven, is_threaded}
use Rattle.chain_list.proofs.threads.ThreadLemmas.{viewed, settled, unlinked, seen, on-thread, link-seen, before-within, behind-within}
use Rattle.chain_list.proofs.threads.threads.Threads.unlink.Goals as goal

pub at-link-requires : goal.at-link-requires
at-link-requires c =
    let given : is_threaded c.args.place c.args.self.now ≡ true = c.requires in
    let on = on-thread c.args.place _ (subst (λ w. is_threaded c.args.place w ≡ true) (sym c.self.view_is) given) in
    (seen _ _ _ on.0 c.args.place c.self.invariant on.1).place

pub index-requires : goal.index-requires
index-requires c =
    let given : is_threaded c.args.place c.args.self.now ≡ true = c.requires in
    let on = on-thread c.args.place _ (subst (λ w. is_threaded c.args.place w ≡ true) (sym c.self.view_is) given) in
    let s = seen _ _ _ on.0 c.args.place c.self.invariant on.1 in
    let l = link-seen _ _ _ _ _ _ _ _ s c.at-link.ensures in
    omega (arith, s.within, l.0, c.thread.ensures, c.self.inside.ends.ok.0)

pub set_next-requires-clause-before : goal.set_next-requires-clause-before
set_next-requires-clause-before c =
    let given : is_threaded c.args.place c.args.self.now ≡ true = c.requires in
    let on = on-thread c.args.place _ (subst (λ w. is_threaded c.args.place w ≡ true) (sym c.self.view_is) given) in
    let s = seen _ _ _ on.0 c.args.place c.self.invariant on.1 in
    let l = link-seen _ _ _ _ _ _ _ _ s c.at-link.ensures in
    subst (λ o. IfSome o (λ q. q < length c.self.inside.links)) (sym (c.before-before.ensures ∙ l.1)) (before-within _ _ _ _ _ s)

pub set_previous-requires-clause-after : goal.set_previous-requires-clause-after
set_previous-requires-clause-after c =
    let given : is_threaded c.args.place c.args.self.now ≡ true = c.requires in
    let on = on-thread c.args.place _ (subst (λ w. is_threaded c.args.place w ≡ true) (sym c.self.view_is) given) in
    let s = seen _ _ _ on.0 c.args.place c.self.invariant on.1 in
    let l = link-seen _ _ _ _ _ _ _ _ s c.at-link.ensures in
    let long = ap length c.set_next.ensures.links ∙ length-places_after c.before-before.result c.after-after.result c.self.inside.links in
    subst (λ n. IfSome c.after-after.result (λ q. q < n)) (sym long)
    (subst (λ o. IfSome o (λ q. q < length c.self.inside.links)) (sym (c.after-after.ensures ∙ l.2)) (behind-within _ _ _ _ _ s))

pub set_next-requires-clause-after : goal.set_next-requires-clause-after
set_next-requires-clause-after c =
    let given : is_threaded c.args.place c.args.self.now ≡ true = c.requires in
    let on = on-thread c.args.place _ (subst (λ w. is_threaded c.args.place w ≡ true) (sym c.self.view_is) given) in
    let s = seen _ _ _ on.0 c.args.place c.self.invariant on.1 in
    let l = link-seen _ _ _ _ _ _ _ _ s c.at-link.ensures in
    subst (λ o. IfSome o (λ q. q < length c.self.inside.links)) (sym (c.after-after.ensures ∙ l.2)) (behind-within _ _ _ _ _ s)

pub set_previous-requires-clause-before : goal.set_previous-requires-clause-before
set_previous-requires-clause-before c =
    let given : is_threaded c.args.place c.args.self.now ≡ true = c.requires in
    let on = on-thread c.args.place _ (subst (λ w. is_threaded c.args.place w ≡ true) (sym c.self.view_is) given) in
    let s = seen _ _ _ on.0 c.args.place c.self.invariant on.1 in
    let l = link-seen _ _ _ _ _ _ _ _ s c.at-link.ensures in
    let long = ap length c.set_next.ensures.links ∙ length-places_after c.before-before.result c.after-after.result c.self.inside.links in
    subst (λ n. IfSome c.before-before.result (λ q. q < n)) (sym long)
    (subst (λ o. IfSome o (λ q. q < length c.self.inside.links)) (sym (c.before-before.ensures ∙ l.1)) (before-within _ _ _ _ _ s))

pub index_mut-requires : goal.index_mut-requires
index_mut-requires c =
    let given : is_threaded c.args.place c.args.self.now ≡ true = c.requires in
    let on = on-thread c.args.place _ (subst (λ w. is_threaded c.args.place w ≡ true) (sym c.self.view_is) given) in
    let s = seen _ _ _ on.0 c.args.place c.self.invariant on.1 in
    let l = link-seen _ _ _ _ _ _ _ _ s c.at-link.ensures in
    omega (arith, s.within, l.0, c.thread.ensures, c.self.inside.ends.ok.0)

pub invariant_of-self : goal.invariant_of-self
invariant_of-self c =
    let given : is_threaded c.args.place c.args.self.now ≡ true = c.requires in
    let on = on-thread c.args.place _ (subst (λ w. is_threaded c.args.place w ≡ true) (sym c.self.view_is) given) in
    let s = seen _ _ _ on.0 c.args.place c.self.invariant on.1 in
    let l = link-seen _ _ _ _ _ _ _ _ s c.at-link.ensures in
    let u = unlinked _ _ _ _ _ _ _ c.thread.result c.before-before.result c.after-after.result c.index.result.now c.set_previous.new.ends
    c.self.invariant s
    (c.thread.ensures ∙ l.0, c.before-before.ensures ∙ l.1, c.after-after.ensures ∙ l.2) c.index.ensures c.set_next.ensures.links
    c.set_previous.ensures.links
    (c.set_previous.ensures.first ∙ c.set_next.ensures.first) (c.set_previous.ensures.last
    ∙ ap (λ o. cond (is_some c.after-after.result) o c.before-before.result) c.set_next.ensures.last) in
    settled _ _ _ u.0

pub returns : goal.returns
returns c =
    let given : is_threaded c.args.place c.args.self.now ≡ true = c.requires in
    let on = on-thread c.args.place _ (subst (λ w. is_threaded c.args.place w ≡ true) (sym c.self.view_is) given) in
    let s = seen _ _ _ on.0 c.args.place c.self.invariant on.1 in
    let l = link-seen _ _ _ _ _ _ _ _ s c.at-link.ensures in
    let u = unlinked _ _ _ _ _ _ _ c.thread.result c.before-before.result c.after-after.result c.index.result.now c.set_previous.new.ends
    c.self.invariant s
    (c.thread.ensures ∙ l.0, c.before-before.ensures ∙ l.1, c.after-after.ensures ∙ l.2) c.index.ensures c.set_next.ensures.links
    c.set_previous.ensures.links
    (c.set_previous.ensures.first ∙ c.set_next.ensures.first) (c.set_previous.ensures.last
    ∙ ap (λ o. cond (is_some c.after-after.result) o c.before-before.result) c.set_next.ensures.last) in
    let is = viewed _ _ _ u.0 in
    rw (← c.self.view_is) (λ i. woven (is i) (u.1 i))
