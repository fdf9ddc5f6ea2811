use Rattle.std.proofs.Common.{◌≡◌, ◌<◌, ◌∙◌, ⊎_elim, List, length, ap, sym, subst, arith}
use Rattle.std.proofs.lemmas.Bool.{cases_eq}
use lib.ListN.{get_elem?}
use Rattle.atomic_table.proofs.Lists.{at_index}
use Rattle.rest_probe.specs.declared.notes.RankNote.{RankNote}
use Rattle.rest_probe.specs.Answered.{IsEven}
use Rattle.rest_probe.proofs.Elements.{same-at, within}
use Rattle.rest_probe.proofs.waves.Wave.uneven_from.Goals as goal

pub uneven_at-requires-clause-lane : goal.uneven_at-requires-clause-lane
uneven_at-requires-clause-lane c = λ x at. let is = c.self.view_is in let old = c.self.inside.ranks.items in let m = c.index.result.now in
    let here = ap (λ (l : List RankNote). get_elem? l c.args.s) (sym is)
    ∙ at_index old c.args.s m (subst (λ (l : List RankNote). c.args.s < length l) (sym is) c.requires) c.index.ensures in
    let one = ap (λ (z : RankNote). length z.note.sent) (same-at c.args.self.now c.args.s m x here at) in let t = c.loop-at-test.true in
    let n = c.len-at-end.ensures in omega (arith, one, t, n)

pub returns-in-Some-clause-some : goal.returns-in-Some-clause-some
returns-in-Some-clause-some c = (c.loop-at.at, (c.in-Some.ensures).some, c.loop-at.invariant)

pub loop-at-preserved : goal.loop-at-preserved
loop-at-preserved c = λ i low. ⊎_elim
    (λ (is : i ≡ c.loop-at.at). subst (λ q. IsEven c.args.self.now c.args.s q) (sym is) (c.in_default.ensures).none)
    (λ (apart : i ≡ c.loop-at.at → ⊥). c.loop-at.invariant i (omega (arith, low, apart))) (cases_eq i c.loop-at.at)

pub returns-clause-none : goal.returns-clause-none
returns-clause-none c = λ i x y k there at other. let is = c.self.view_is in let old = c.self.inside.ranks.items in let m =
    c.index.result.now in
    let here = ap (λ (l : List RankNote). get_elem? l c.args.s) (sym is)
    ∙ at_index old c.args.s m (subst (λ (l : List RankNote). c.args.s < length l) (sym is) c.requires) c.index.ensures in
    let one = ap (λ (z : RankNote). length z.note.sent) (same-at c.args.self.now c.args.s m x here there) in
    c.loop-at.invariant i (let w = within x.note.sent i k at in let t = c.loop-at-test.false in let n = c.len-at-end.ensures in
    omega (arith, one, w, t, n)) x y k there at other
