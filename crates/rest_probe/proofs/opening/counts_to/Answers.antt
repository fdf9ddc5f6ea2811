use Rattle.std.proofs.Common.{◌≡◌, ◌++◌, ◌∙◌, ℕ, List, length, flat_map, ap, sym, arith}
use Rattle.number_lists.specs.Numbers.{from_to}
use Rattle.rest_probe.specs.declared.notes.LaneCount.{LaneCount}
use Rattle.rest_probe.specs.Lanes.{pair_lanes}
use Rattle.rest_probe.proofs.Gathered.{to-short, lanes-more}
use Rattle.rest_probe.proofs.opening.counts_to.Goals as goal

pub loop-s-preserved : goal.loop-s-preserved
loop-s-preserved c = let f : ℕ → List LaneCount = (λ s. pair_lanes c.args.schedule.now.plan s c.args.r s) in
    c.in_ok-push_pair.ensures ∙ (ap (λ (v : List LaneCount). v ++ f c.loop-s.s) c.loop-s.invariant ∙ sym (lanes-more f c.loop-s.s))

pub of-requires : goal.of-requires
of-requires c = let n = c.loop-s.s in let e = ap (λ (v : List LaneCount). length v) c.loop-s.invariant in
    let h = to-short c.args.schedule.now.plan c.args.r n in
    let at_most = c.ranks-ranks.ensures.at_most in
    let end = c.loop-s.auto.s-end in omega (arith, e, h, at_most, end)

pub returns : goal.returns
returns c = let told = c.ranks-ranks.ensures.value in
    let test = c.loop-s-test.false in let end = c.loop-s.auto.s-end in
    let all : c.loop-s.s ≡ c.args.schedule.now.plan.ranks = omega (arith, told, test, end) in
    c.of.ensures ∙ (c.loop-s.invariant ∙ ap (λ n. flat_map (λ s. pair_lanes c.args.schedule.now.plan s c.args.r s) (from_to 0 n)) all)
