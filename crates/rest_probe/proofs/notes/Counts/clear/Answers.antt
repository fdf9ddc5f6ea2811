use Rattle.std.proofs.Common.{◌≡◌, ◌≢◌, ◌<◌, ◌∙◌, ⊎_elim, length, length-set, ap, sym, refl, arith}
use mathlib.Core.Option.{some}
use lib.ListN.{get_elem?}
use Rattle.atomic_table.proofs.Lists.{at_index, at_set, set_else}
use Rattle.rest_probe.specs.declared.notes.LaneCount.{LaneCount}
use Rattle.rest_probe.specs.Counted.{cleared, counted}
use Rattle.rest_probe.proofs.Elements.{mapped, same-at, within}
use Rattle.rest_probe.proofs.notes.Counts.clear.Goals as goal

pub loop-at-init : goal.loop-at-init
loop-at-init c = record { many = refl; before = λ i x y h a b. absurd (omega (arith, h)); later = λ i h. refl }

pub loop-at-preserved : goal.loop-at-preserved
loop-at-preserved c =
    let i = c.loop-at.invariant in let old = c.self.inside.items.items in let xs = c.loop-at.self-inside.items.items in let at =
    c.loop-at.at in
    let m = c.index_mut.result.now in let q = counted m 0 in
    let low : at < length xs = (let t = c.loop-at-test.true in let n = c.len-count.ensures in let k = i.many in omega (arith, t, n, k)) in
    let here = at_index xs at m low c.index_mut.ensures.value in record {
      many = length-set xs at q ∙ i.many;
      before = λ j x y below a b. ⊎_elim
          (λ (is : (j ≡ at) × (q ≡ y)). sym is.1 ∙ ap (λ (z : LaneCount). counted z 0)
          (same-at xs at m x here (i.later at (omega arith) ∙ (ap (get_elem? old) (sym is.0) ∙ a))))
          (λ (is : (j ≢ at) × (get_elem? xs j ≡ some y)). i.before j x y (let n = is.0 in omega (arith, n, below)) a is.1)
          (at_set xs at j q y b);
      later = λ j above. set_else xs at j q (λ is. omega (arith, is, above)) ∙ i.later j (omega (arith, above));
    }

pub returns : goal.returns
returns c =
    let i = c.loop-at.invariant in let old = c.self.inside.items.items in let xs = c.loop-at.self-inside.items.items in
    mapped (λ (z : LaneCount). counted z 0) old xs i.many
    (λ j x y a b. i.before j x y (let k = within old j x a in let n = c.len-count.ensures in let t = c.loop-at-test.false in
    omega (arith, k, n, t)) a b)
    ∙ ap cleared c.self.view_is
