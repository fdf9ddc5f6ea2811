use Rattle.std.proofs.Common.{◌≡◌, ⊎_elim, arith, true≢false, sym, ap, ◌∙◌, refl}
use lib.ListN.{get_elem?}
use Rattle.std.proofs.lemmas.Bool.{cases_eq}
use Rattle.atomic_table.proofs.Lists.{at_index}
use Rattle.rank_slots.specs.declared.ports.InPort.{InPort}
use Rattle.rank_slots.proofs.Pairs.{same_at, within}
use Rattle.rank_slots.proofs.posts.search_ins.Goals as goal

pub returns-then-is_from-clause-some : goal.returns-then-is_from-clause-some
returns-then-is_from-clause-some c = let p = c.index-ins-at.result in let e = c.if-is_from.ensures in let is = e.0 refl in
    (p, at_index c.args.ins.now c.loop-at.at p c.loop-at-test.true c.index-ins-at.is, is.0, is.1)

pub loop-at-preserved : goal.loop-at-preserved
loop-at-preserved c = let p = c.index-ins-at.result in let e = c.if-is_from.ensures in let at = c.loop-at.at in
    let there = at_index c.args.ins.now at p c.loop-at-test.true c.index-ins-at.is in
    λ i x below is goes lane. ⊎_elim
    (λ (here : i ≡ at). let same = same_at c.args.ins.now at p x there (ap (get_elem? c.args.ins.now) (sym here) ∙ is) in
    true≢false (sym (e.1 (ap (λ (z : InPort). z.source) same ∙ goes, ap (λ (z : InPort). z.lane) same ∙ lane))))
    (λ (apart : i ≡ at → ⊥). c.loop-at.invariant i x (omega (arith, below, apart)) is goes lane) (cases_eq i at)

pub returns-clause-none : goal.returns-clause-none
returns-clause-none c = λ i p at goes lane. c.loop-at.invariant i p (let k = within c.args.ins.now i p at in let f =
    c.loop-at-test.false in
    omega (arith, k, f)) at
    goes lane
