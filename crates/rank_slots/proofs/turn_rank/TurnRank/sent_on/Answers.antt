use Rattle.std.proofs.Common.{◌<◌, ◌∙◌, List, length, sym, ap, subst}
use lib.ListN.{get_elem?}
use Rattle.atomic_table.proofs.Lists.{at_index}
use Rattle.ptl_types.specs.Messages.{Sent}
use Rattle.rank_slots.specs.declared.ports.OutPort.{OutPort}
use Rattle.rank_slots.specs.Names.{history}
use Rattle.rank_slots.specs.Probes.{sent_on}
use Rattle.rank_slots.proofs.Pairs.{same_at, within}
use Rattle.rank_slots.proofs.turn_rank.TurnRank.sent_on.Goals as goal

pub index-requires : goal.index-requires
index-requires c = subst (λ n. c.in-Some.at < n) c.deref.ensures.len
    (within c.deref.result.now c.in-Some.at (c.in-Some.ensures).some.0 (c.in-Some.ensures).some.1)

pub unreachable-requires : goal.unreachable-requires
unreachable-requires c = let e = c.requires in
    (c.in-None.ensures).none e.0 e.1 (ap (λ (l : List OutPort). get_elem? l e.0) c.deref.ensures.value ∙ e.2) e.3 e.4

pub returns : goal.returns
returns c = λ k agree. let s = c.args.self.now in let f = (c.in-Some.ensures).some in let p = c.index.result.now in
    let was = ap (λ (l : List OutPort). get_elem? l c.in-Some.at) (sym c.deref.ensures.value) ∙ f.1 in
    let there = at_index s.outs.items c.in-Some.at p (within s.outs.items c.in-Some.at f.0 was) c.index.ensures in
    let one = same_at s.outs.items c.in-Some.at p f.0 there was in
    c.sent.ensures ∙ (ap (λ (ms : List Sent). length ms) ((s.tied.out c.in-Some.at p there).sent_is k agree)
    ∙ (λ m. sent_on s.job s.node.value.task.rank k (history s) ((ap (λ (z : OutPort). z.target) one ∙ f.2) m)
    ((ap (λ (z : OutPort). z.lane) one ∙ f.3) m)))
