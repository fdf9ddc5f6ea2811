use Rattle.std.proofs.Common.{◌≡◌, ◌≢◌, ◌<◌, ◌∙◌, ⊎_elim, false, length, length-set, ap, sym, refl, arith}
use mathlib.Core.Option.{some}
use lib.ListN.{get_elem?}
use Rattle.atomic_table.proofs.Lists.{at_index, at_set, set_else}
use Rattle.rest_probe.specs.declared.notes.RankNote.{RankNote}
use Rattle.rest_probe.specs.Waves.{emptied}
use Rattle.rest_probe.proofs.Elements.{mapped, same-at, within}
use Rattle.rest_probe.proofs.waves.Wave.clear.Goals as goal

pub loop-r-init : goal.loop-r-init
loop-r-init c = record { many = refl; before = λ i x y h a b. absurd (omega (arith, h)); later = λ i h. refl }

pub loop-r-preserved : goal.loop-r-preserved
loop-r-preserved c =
    let i = c.loop-r.invariant in let old = c.self.inside.ranks.items in let xs = c.loop-r.self-inside.ranks.items in let at = c.loop-r.r in
    let m = c.index_mut.result.now in let q : RankNote = record m { there = false } in
    let low : at < length xs = (let t = c.loop-r-test.true in let n = c.len-count.ensures in let k = i.many in omega (arith, t, n, k)) in
    let here = at_index xs at m low c.index_mut.ensures.value in record {
      many = length-set xs at q ∙ i.many;
      before = λ j x y below a b. ⊎_elim
          (λ (is : (j ≡ at) × (q ≡ y)). sym is.1 ∙ ap (λ (z : RankNote). record z { there = false })
          (same-at xs at m x here (i.later at (omega arith) ∙ (ap (get_elem? old) (sym is.0) ∙ a))))
          (λ (is : (j ≢ at) × (get_elem? xs j ≡ some y)). i.before j x y (let n = is.0 in omega (arith, n, below)) a is.1)
          (at_set xs at j q y b);
      later = λ j above. set_else xs at j q (λ is. omega (arith, is, above)) ∙ i.later j (omega (arith, above));
    }

pub returns : goal.returns
returns c =
    let i = c.loop-r.invariant in let old = c.self.inside.ranks.items in let xs = c.loop-r.self-inside.ranks.items in
    mapped (λ (z : RankNote). record z { there = false }) old xs i.many
    (λ j x y a b. i.before j x y (let k = within old j x a in let n = c.len-count.ensures in let t = c.loop-r-test.false in
    omega (arith, k, n, t)) a b)
    ∙ ap emptied c.self.view_is
