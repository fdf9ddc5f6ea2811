use Rattle.std.proofs.Common.{◌∙◌, Bool, true, false, sym, ap, refl, inl, inr, subst}
use Rattle.std.specs.Prelude.{IsFalse, IsTrue, not}
use Rattle.ptl_types.specs.declared.headers.Lane.TheVariants.{Answer}
use Rattle.rank_slots.specs.Missing.{IsShut}
use Rattle.rank_slots.specs.Ports.{IsOpen}
use Rattle.ni_model.specs.Answers.{is_awaited}
use Rattle.atomic_table.proofs.Lists.{at_index}
use Rattle.rank_node.specs.Node.{NodeState}
use Rattle.rank_slots.specs.declared.ports.InPort.{InPort}
use Rattle.rank_slots.proofs.Pairs.{same_at}
use Rattle.rank_slots.proofs.turn_rank.TurnRank.may_take.Goals as goal

pub returns-in-Answer-clause-due : goal.returns-in-Answer-clause-due
returns-in-Answer-clause-due c = λ t p a l. sym (c.awaits.ensures ∙ ap (λ (n : NodeState). is_awaited n.nic.mds.live) c.deref.ensures) ∙ t

pub returns-in-Answer-clause-open : goal.returns-in-Answer-clause-open
returns-in-Answer-clause-open c = λ t p a l. let s = c.args.self.now in
    let one = same_at s.ins.items c.args.at c.index-port.result.now p
    (at_index s.ins.items c.args.at c.index-port.result.now c.requires.at c.index-port.ensures) a in
    let e = sym l ∙ (ap (λ (z : InPort). z.lane) (sym one) ∙ c.in-Answer.is) in cc

pub returns-in-Answer-clause-no : goal.returns-in-Answer-clause-no
returns-in-Answer-clause-no c = λ t p a. let s = c.args.self.now in
    let one = same_at s.ins.items c.args.at c.index-port.result.now p
    (at_index s.ins.items c.args.at c.index-port.result.now c.requires.at c.index-port.ensures) a in
    inl (
      ap (λ (z : InPort). z.lane) (sym one) ∙ c.in-Answer.is,
      sym (c.awaits.ensures ∙ ap (λ (n : NodeState). is_awaited n.nic.mds.live) c.deref.ensures) ∙ t,
    )

pub returns-then-free-clause-due : goal.returns-then-free-clause-due
returns-then-free-clause-due c = λ t p a l. let s = c.args.self.now in
    let one = same_at s.ins.items c.args.at c.index-port.result.now p
    (at_index s.ins.items c.args.at c.index-port.result.now c.requires.at c.index-port.ensures) a in
    let e = sym l ∙ (ap (λ (z : InPort). z.lane) (sym one) ∙ c.in-Request.is) in cc

pub returns-else-free-clause-due : goal.returns-else-free-clause-due
returns-else-free-clause-due c = λ t p a l. let s = c.args.self.now in
    let one = same_at s.ins.items c.args.at c.index-port.result.now p
    (at_index s.ins.items c.args.at c.index-port.result.now c.requires.at c.index-port.ensures) a in
    let e = sym l ∙ (ap (λ (z : InPort). z.lane) (sym one) ∙ c.in-Request.is) in cc

not-true : (b : Bool) → IsTrue (not b) → IsFalse b
not-true true e = cc
not-true false e = refl

not-false : (b : Bool) → IsFalse (not b) → IsTrue b
not-false true e = refl
not-false false e = cc

pub returns-else-free-clause-open : goal.returns-else-free-clause-open
returns-else-free-clause-open c = λ t p a l. let s = c.args.self.now in
    let one = same_at s.ins.items c.args.at c.index-port.result.now p
    (at_index s.ins.items c.args.at c.index-port.result.now c.requires.at c.index-port.ensures) a in
    subst (λ (z : InPort). IsOpen z.source Answer s.outs.items) one (c.is_shut.ensures.open (not-true c.is_shut.result t))

pub returns-else-free-clause-no : goal.returns-else-free-clause-no
returns-else-free-clause-no c = λ t p a. let s = c.args.self.now in
    let one = same_at s.ins.items c.args.at c.index-port.result.now p
    (at_index s.ins.items c.args.at c.index-port.result.now c.requires.at c.index-port.ensures) a in
    inr (
      ap (λ (z : InPort). z.lane) (sym one) ∙ c.in-Request.is,
      subst (λ (z : InPort). IsShut z.source Answer s.outs.items) one (c.is_shut.ensures.shut (not-false c.is_shut.result t)),
    )
