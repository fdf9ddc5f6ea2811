use Rattle.std.proofs.Common.{◌≡◌, ⊎_elim, List, length, ap, subst, sym, arith}
use Rattle.std.proofs.lemmas.Bool.{cases_eq}
use Rattle.rest_probe.specs.declared.notes.RankNote.{RankNote}
use Rattle.rest_probe.specs.Answered.{IsEven}
use Rattle.rest_probe.proofs.Causes.{even-below}
use Rattle.rest_probe.proofs.Elements.{within}
use Rattle.rest_probe.proofs.waves.Wave.first_uneven.Goals as goal

pub uneven_from-requires : goal.uneven_from-requires
uneven_from-requires c = let t = c.loop-s-test.true in let e = ap (λ (l : List RankNote). length l) c.self.view_is in let k =
    c.len-s-end.ensures in omega (arith, t, e, k)

pub returns-in-Some-clause-some : goal.returns-in-Some-clause-some
returns-in-Some-clause-some c = let e = (c.in-Some.ensures).some in
    (c.loop-s.s, e.0, e.1, even-below c.args.self.now c.loop-s.s e.0 c.loop-s.invariant e.2)

pub loop-s-preserved : goal.loop-s-preserved
loop-s-preserved c = λ r i low. ⊎_elim
    (λ (is : r ≡ c.loop-s.s). subst (λ q. IsEven c.args.self.now q i) (sym is) ((c.in_default.ensures).none i))
    (λ (apart : r ≡ c.loop-s.s → ⊥). c.loop-s.invariant r i (omega (arith, low, apart))) (cases_eq r c.loop-s.s)

pub returns-clause-none : goal.returns-clause-none
returns-clause-none c = λ s i x y k there at other. c.loop-s.invariant s i (let w = within c.args.self.now s x there in let t =
    c.loop-s-test.false in
    let e = ap (λ (l : List RankNote). length l) c.self.view_is in let n = c.len-s-end.ensures in omega (arith, w, t, e, n)) x y k there
    at other
