-- The lanes of one rank more in each turn.
use Rattle.std.proofs.Common.{suc, ◌+◌, ◌≡◌, ◌∷◌, [], ◌∙◌, List, ap, arith, length, length-append, refl, subst, sym}
use mathlib.Core.Option.{some-ne-none}
use Rattle.pair_wires.specs.declared.bounds.Bounds.{Bounds}
use Rattle.rank_wiring.specs.declared.lanes.OutLanes.{OutLanes}
use Rattle.rank_wiring.specs.Fans.{AreFans, IsFan}
use Rattle.rank_slots.specs.Lanes.{lanes_before, lanes_from}
use Rattle.rank_wiring.proofs.Fans.{fans-more, next-at_most}
use Rattle.rank_wiring.proofs.lanes.all_fans.Goals as goal

pub loop-s-init : goal.loop-s-init
loop-s-init c = let none = c.in_ok-fans.ensures.items in record {
  count = ap (λ (l : List OutLanes). length l) none;
  first = refl;
  fans = subst (AreFans c.args.schedule.now.plan) (sym none) (λ s f at. absurd (some-ne-none f (sym at)));
}

-- the rank is one of the plan's, and few lanes come from it and those below it
pub overflow_cast-many : goal.overflow_cast-many
overflow_cast-many c =
    let o = c.args.schedule.now in let p = o.plan in
    let t = c.loop-s-test.true in
    let n : c.ranks-ranks.result ≡ p.ranks = c.ranks-ranks.ensures.value in
    let at_most = next-at_most p o.inputs c.plan.ensures.sound c.loop-s.s (omega (arith, t, n)) in
    let many = ap (λ (l : List Bounds). length l) c.in_ok-lanes.ensures in
    let len = c.len-many.ensures in record { fits = omega (arith, at_most, many, len) }

pub overflow_add-first : goal.overflow_add-first
overflow_add-first c =
    let o = c.args.schedule.now in let p = o.plan in
    let t = c.loop-s-test.true in
    let n : c.ranks-ranks.result ≡ p.ranks = c.ranks-ranks.ensures.value in
    let at_most = next-at_most p o.inputs c.plan.ensures.sound c.loop-s.s (omega (arith, t, n)) in
    let many = ap (λ (l : List Bounds). length l) c.in_ok-lanes.ensures in let first = c.loop-s.invariant.first in
    let len = c.len-many.ensures in omega (arith, at_most, many, len, first)

pub loop-s-preserved : goal.loop-s-preserved
loop-s-preserved c =
    let p = c.args.schedule.now.plan in let s = c.loop-s.s in let i = c.loop-s.invariant in
    let fans = c.loop-s.fans.items in let f : OutLanes = record { first = c.loop-s.first; lanes = c.in_ok-lanes.lanes } in
    let pushed = c.in_ok-push.ensures.items in
    let many = ap (λ (l : List Bounds). length l) c.in_ok-lanes.ensures in let len = c.len-many.ensures in
    let e : suc s ≡ s + 1 = omega arith in record {
      count = (let a = ap (λ (l : List OutLanes). length l) pushed in let b = length-append fans (f ∷ []) in let k = i.count in
          omega (arith, a, b, k));
      first = (let a = length-append (lanes_before p s) (lanes_from p s) in let b = i.first in
          (omega (arith, a, b, many, len)) ∙ ap (λ m. length (lanes_before p m)) e);
      fans = subst (AreFans p) (sym pushed)
          (fans-more p fans f i.fans (subst (λ m. IsFan p m f) (sym i.count) (record { first = i.first; lanes = c.in_ok-lanes.ensures })));
    }

pub returns-clause-count : goal.returns-clause-count
returns-clause-count c =
    let t = c.loop-s-test.false in let u = c.loop-s.auto.s-end in let k = c.loop-s.invariant.count in
    let n : c.ranks-ranks.result ≡ c.args.schedule.now.plan.ranks = c.ranks-ranks.ensures.value in
    omega (arith, t, u, k, n)
