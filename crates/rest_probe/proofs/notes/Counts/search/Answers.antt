use Rattle.std.proofs.Common.{◌≡◌, ◌∙◌, ⊎_elim, List, length, ap, sym, arith, refl, true≢false}
use mathlib.Core.Option.{some}
use lib.ListN.{get_elem?}
use Rattle.std.proofs.lemmas.Bool.{cases_eq}
use Rattle.atomic_table.proofs.Lists.{at_index}
use Rattle.rest_probe.specs.declared.notes.LaneCount.{LaneCount}
use Rattle.rest_probe.proofs.Elements.{same-at, within}
use Rattle.rest_probe.proofs.notes.Counts.search.Goals as goal

pub returns-then-is_on-clause-some : goal.returns-then-is_on-clause-some
returns-then-is_on-clause-some c = let is = c.self.view_is in let m = c.index.result.now in let on = c.if-is_on.ensures.0 refl in
    let here = at_index c.self.inside.items.items c.loop-at.at m (let t = c.loop-at-test.true in let n = c.len-at-end.ensures in
    omega (arith, t, n)) c.index.ensures in
    let same : m ≡ record { rank = c.args.rank; lane = c.args.lane; number = m.number } =
    λ k. record { rank = on.0 k; lane = on.1 k; number = m.number } in record {
      at = c.loop-at.at;
      there = ap (λ (l : List LaneCount). get_elem? l c.loop-at.at) (sym is) ∙ (here ∙ ap some same);
    }

pub loop-at-preserved : goal.loop-at-preserved
loop-at-preserved c = let is = c.self.view_is in let m = c.index.result.now in let at = c.loop-at.at in
    let here = ap (λ (l : List LaneCount). get_elem? l at) (sym is)
    ∙ at_index c.self.inside.items.items at m (let t = c.loop-at-test.true in let n = c.len-at-end.ensures in omega (arith, t, n))
    c.index.ensures in
    λ i x below there goes lane. ⊎_elim
    (λ (e : i ≡ at). let same = same-at c.args.self.now at m x here (ap (get_elem? c.args.self.now) (sym e) ∙ there) in
    true≢false (sym (c.if-is_on.ensures.1 (ap (λ (z : LaneCount). z.rank) same ∙ goes, ap (λ (z : LaneCount). z.lane) same ∙ lane))))
    (λ (apart : i ≡ at → ⊥). c.loop-at.invariant i x (omega (arith, below, apart)) there goes lane) (cases_eq i at)

pub returns-clause-none : goal.returns-clause-none
returns-clause-none c = λ i x there goes lane. c.loop-at.invariant i x (let w = within c.args.self.now i x there in let t =
    c.loop-at-test.false in
    let n = ap (λ (l : List LaneCount). length l) c.self.view_is in let k = c.len-at-end.ensures in omega (arith, w, t, n, k)) there goes
    lane
