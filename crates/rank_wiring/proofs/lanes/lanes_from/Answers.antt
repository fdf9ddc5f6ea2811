-- Two lanes more in each turn.
use Rattle.std.proofs.Common.{suc, ◌+◌, ◌≡◌, ◌∙◌, ◌++◌, List, ap, arith}
use Rattle.ptl_types.specs.declared.headers.Lane.TheVariants.{Request, Answer}
use Rattle.pair_wires.specs.declared.bounds.Bounds.{Bounds}
use Rattle.rank_slots.specs.Lanes.{bounds_if_used, lanes_below}
use Rattle.rank_wiring.proofs.lanes.lanes_from.Goals as goal

pub loop-d-preserved : goal.loop-d-preserved
loop-d-preserved c =
    let p = c.args.schedule.now.plan in let s = c.args.s in let d = c.loop-d.d in
    let e : suc d ≡ d + 1 = omega arith in
    let a = c.in_ok-push_lane.ensures in let b = c.in_ok-push_lane-2.ensures in
    (b ∙ ap (λ (v : List Bounds). v ++ bounds_if_used p s d Answer)
    (a ∙ ap (λ (v : List Bounds). v ++ bounds_if_used p s d Request) c.loop-d.invariant))
    ∙ ap (λ m. lanes_below p s m) e

pub returns : goal.returns
returns c =
    let p = c.args.schedule.now.plan in
    let t = c.loop-d-test.false in let u = c.loop-d.auto.d-end in
    let n : c.ranks-ranks.result ≡ p.ranks = c.ranks-ranks.ensures.value in
    let all : c.loop-d.d ≡ p.ranks = omega (arith, t, u, n) in
    c.loop-d.invariant ∙ ap (λ m. lanes_below p c.args.s m) all
