use Rattle.std.proofs.Common.{◌≡◌, ⊎_elim, arith, true≢false, sym, ap, ◌∙◌, refl}
use lib.ListN.{get_elem?}
use Rattle.std.proofs.lemmas.Bool.{cases_eq}
use Rattle.atomic_table.proofs.Lists.{at_index}
use Rattle.rank_slots.specs.declared.ports.OutPort.{OutPort}
use Rattle.rank_slots.proofs.Pairs.{same_at, within}
use Rattle.rank_slots.proofs.posts.search_outs.Goals as goal

pub returns-then-is_to-clause-some : goal.returns-then-is_to-clause-some
returns-then-is_to-clause-some c = let p = c.index-outs-at.result in let e = c.if-is_to.ensures in let is = e.0 refl in
    (p, at_index c.args.outs.now c.loop-at.at p c.loop-at-test.true c.index-outs-at.is, is.0, is.1)

pub loop-at-preserved : goal.loop-at-preserved
loop-at-preserved c = let p = c.index-outs-at.result in let e = c.if-is_to.ensures in let at = c.loop-at.at in
    let there = at_index c.args.outs.now at p c.loop-at-test.true c.index-outs-at.is in
    λ i x below is goes lane. ⊎_elim
    (λ (here : i ≡ at). let same = same_at c.args.outs.now at p x there (ap (get_elem? c.args.outs.now) (sym here) ∙ is) in
    true≢false (sym (e.1 (ap (λ (z : OutPort). z.target) same ∙ goes, ap (λ (z : OutPort). z.lane) same ∙ lane))))
    (λ (apart : i ≡ at → ⊥). c.loop-at.invariant i x (omega (arith, below, apart)) is goes lane) (cases_eq i at)

pub returns-clause-none : goal.returns-clause-none
returns-clause-none c = λ i p at goes lane. c.loop-at.invariant i p (let k = within c.args.outs.now i p at in let f =
    c.loop-at-test.false
    in omega (arith, k, f)) at goes lane
