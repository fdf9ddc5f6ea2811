use Rattle.std.proofs.Common.{◌≡◌, ◌++◌, ◌∙◌, ℕ, List, length, flat_map, ap, sym, arith}
use Rattle.number_lists.specs.Numbers.{from_to}
use Rattle.rest_probe.specs.declared.notes.LaneCount.{LaneCount}
use Rattle.rest_probe.specs.Lanes.{pair_lanes}
use Rattle.rest_probe.proofs.Gathered.{from-short, lanes-more}
use Rattle.rest_probe.proofs.opening.counts_from.Goals as goal

pub loop-d-preserved : goal.loop-d-preserved
loop-d-preserved c = let f : ℕ → List LaneCount = (λ d. pair_lanes c.args.schedule.now.plan c.args.r d d) in
    c.in_ok-push_pair.ensures ∙ (ap (λ (v : List LaneCount). v ++ f c.loop-d.d) c.loop-d.invariant ∙ sym (lanes-more f c.loop-d.d))

pub of-requires : goal.of-requires
of-requires c = let n = c.loop-d.d in let e = ap (λ (v : List LaneCount). length v) c.loop-d.invariant in
    let h = from-short c.args.schedule.now.plan c.args.r n in
    let at_most = c.ranks-ranks.ensures.at_most in
    let end = c.loop-d.auto.d-end in omega (arith, e, h, at_most, end)

pub returns : goal.returns
returns c = let told = c.ranks-ranks.ensures.value in
    let test = c.loop-d-test.false in let end = c.loop-d.auto.d-end in
    let all : c.loop-d.d ≡ c.args.schedule.now.plan.ranks = omega (arith, told, test, end) in
    c.of.ensures ∙ (c.loop-d.invariant ∙ ap (λ n. flat_map (λ d. pair_lanes c.args.schedule.now.plan c.args.r d d) (from_to 0 n)) all)
