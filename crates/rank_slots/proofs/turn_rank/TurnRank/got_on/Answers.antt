use Rattle.std.proofs.Common.{◌<◌, ◌∙◌, List, length, sym, ap, subst}
use lib.ListN.{get_elem?}
use Rattle.atomic_table.proofs.Lists.{at_index}
use Rattle.ptl_types.specs.Messages.{Sent}
use Rattle.cuts.specs.histories.History.{got}
use Rattle.rank_slots.specs.declared.ports.InPort.{InPort}
use Rattle.rank_slots.specs.Names.{history}
use Rattle.rank_slots.proofs.Pairs.{same_at, within}
use Rattle.rank_slots.proofs.turn_rank.TurnRank.got_on.Goals as goal

pub index-requires : goal.index-requires
index-requires c = subst (λ n. c.in-Some.at < n) c.deref.ensures.len
    (within c.deref.result.now c.in-Some.at (c.in-Some.ensures).some.0 (c.in-Some.ensures).some.1)

pub unreachable-requires : goal.unreachable-requires
unreachable-requires c = let e = c.requires in
    (c.in-None.ensures).none e.0 e.1 (ap (λ (l : List InPort). get_elem? l e.0) c.deref.ensures.value ∙ e.2) e.3 e.4

pub returns : goal.returns
returns c = let s = c.args.self.now in let f = (c.in-Some.ensures).some in let p = c.index.result.now in
    let was = ap (λ (l : List InPort). get_elem? l c.in-Some.at) (sym c.deref.ensures.value) ∙ f.1 in
    let there = at_index s.ins.items c.in-Some.at p (within s.ins.items c.in-Some.at f.0 was) c.index.ensures in
    let one = same_at s.ins.items c.in-Some.at p f.0 there was in
    c.received.ensures ∙ (ap (λ (ms : List Sent). length ms) (s.tied.into c.in-Some.at p there).got_is
    ∙ (λ m. length (got (history s) ((ap (λ (z : InPort). z.source) one ∙ f.2) m) ((ap (λ (z : InPort). z.lane) one ∙ f.3) m))))
