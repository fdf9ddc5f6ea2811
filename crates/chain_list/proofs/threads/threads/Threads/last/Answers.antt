use Rattle.std.proofs.Common.{◌<◌, [], get_or, length, sym, ap, subst, ◌∙◌, arith}
use Rattle.std.proofs.lemmas.List.{get_or_default}
use Rattle.chain_list.specs.declared.threads.ends.Ends.{Ends}
use Rattle.chain_list.specs.threads.Threads.{thread, last_place, AreApart}
use Rattle.chain_list.specs.threads.Fields.{no_ends, threads_of}
use Rattle.chain_list.proofs.threads.InsertLemmas.{last-on, apart-on}
use Rattle.std.specs.Prelude.{None}
use Rattle.chain_list.proofs.threads.threads.Threads.last.Goals as goal

pub returns-clause-last : goal.returns-clause-last
returns-clause-last c =
    let on = subst (λ w. c.args.thread < length w.threads) (sym c.self.view_is) c.requires in
    let lt : c.args.thread < length c.self.inside.ends.items = omega (arith, on, c.self.invariant.long) in
    let t = c.self.invariant.each c.args.thread lt in
    let is = c.index.ensures ∙ get_or_default c.self.inside.ends.items c.args.thread c.index.result.now no_ends lt in
    ap (λ (d : Ends). d.last) is ∙ t.last_is ∙ last-on c.args.thread None
    (get_or (threads_of c.self.inside.links c.self.inside.ends.items) c.args.thread [])
    ∙ ap (λ w. last_place (thread c.args.thread w)) c.self.view_is

pub returns-clause-apart : goal.returns-clause-apart
returns-clause-apart c =
    let on = subst (λ w. c.args.thread < length w.threads) (sym c.self.view_is) c.requires in
    let lt : c.args.thread < length c.self.inside.ends.items = omega (arith, on, c.self.invariant.long) in
    let t = c.self.invariant.each c.args.thread lt in
    subst (λ w. AreApart (thread c.args.thread w)) c.self.view_is
    (apart-on c.args.thread (get_or (threads_of c.self.inside.links c.self.inside.ends.items) c.args.thread []) t.apart)
