use Rattle.std.proofs.Common.{◌<◌, ◌∙◌, List, sym, ap, subst}
use lib.ListN.{get_elem?}
use Rattle.atomic_table.proofs.Lists.{at_index}
use Rattle.rank_slots.specs.declared.ports.OutPort.{OutPort}
use Rattle.rank_slots.proofs.Pairs.{same_at, within}
use Rattle.rank_slots.proofs.turn_rank.TurnRank.is_shut.Goals as goal

pub index-requires : goal.index-requires
index-requires c = subst (λ n. c.in-Some.at < n) c.deref.ensures.len
    (within c.deref.result.now c.in-Some.at (c.in-Some.ensures).some.0 (c.in-Some.ensures).some.1)

pub returns-in-Some-clause-shut : goal.returns-in-Some-clause-shut
returns-in-Some-clause-shut c = λ t. let s = c.args.self.now in let f = (c.in-Some.ensures).some in let p = c.index.result.now in
    let was = ap (λ (l : List OutPort). get_elem? l c.in-Some.at) (sym c.deref.ensures.value) ∙ f.1 in
    let there = at_index s.outs.items c.in-Some.at p (within s.outs.items c.in-Some.at f.0 was) c.index.ensures in
    let one = same_at s.outs.items c.in-Some.at p f.0 there was in record {
      at = c.in-Some.at;
      port = p;
      there = there;
      target = ap (λ (z : OutPort). z.target) one ∙ f.2;
      lane_is = ap (λ (z : OutPort). z.lane) one ∙ f.3;
      waits = sym c.waits.ensures ∙ t;
    }

pub returns-in-Some-clause-open : goal.returns-in-Some-clause-open
returns-in-Some-clause-open c = λ t i o a goes lane. let s = c.args.self.now in let f = (c.in-Some.ensures).some in let p =
    c.index.result.now in
    let was = ap (λ (l : List OutPort). get_elem? l c.in-Some.at) (sym c.deref.ensures.value) ∙ f.1 in
    let there = at_index s.outs.items c.in-Some.at p (within s.outs.items c.in-Some.at f.0 was) c.index.ensures in
    let here = s.tied.outs_differ i c.in-Some.at o f.0 a was (goes ∙ sym f.2) (lane ∙ sym f.3) in
    let one = same_at s.outs.items c.in-Some.at p o there (ap (get_elem? s.outs.items) (sym here) ∙ a) in
    ap (λ (z : OutPort). z.end.waits) (sym one) ∙ (sym c.waits.ensures ∙ t)

pub returns-in-None-clause-open : goal.returns-in-None-clause-open
returns-in-None-clause-open c = λ t i o a goes lane. absurd ((c.in-None.ensures).none i o
    (ap (λ (l : List OutPort). get_elem? l i) c.deref.ensures.value ∙ a) goes lane)
