use Rattle.std.proofs.Common.{◌≡◌, true, sym, ap, subst, ◌∙◌}
use Rattle.chain_list.specs.threads.Threads.{thread, is_on, is_threaded, place_after}
use Rattle.chain_list.proofs.threads.ThreadLemmas.{seen, on-thread, link-seen, after-seen}
use Rattle.chain_list.proofs.threads.threads.Threads.next.Goals as goal

pub at-requires : goal.at-requires
at-requires c =
    let given : is_threaded c.args.place c.args.self.now ≡ true = c.requires in
    let on = on-thread c.args.place _ (subst (λ w. is_threaded c.args.place w ≡ true) (sym c.self.view_is) given) in
    (seen _ _ _ on.0 c.args.place c.self.invariant on.1).place

pub returns : goal.returns
returns c = λ k on.
    let live = subst (λ w. is_on c.args.place (thread k w) ≡ true) (sym c.self.view_is) on in
    let s = seen _ _ _ k c.args.place c.self.invariant live in
    let l = link-seen _ _ _ _ _ _ _ _ s c.at.ensures in
    c.after.ensures ∙ l.2 ∙ sym (after-seen _ _ _ _ _ s) ∙ ap (λ w. place_after c.args.place (thread k w)) c.self.view_is
