-- One link back in each turn.
use Rattle.std.proofs.Common.{None, get_or, ap}
use Rattle.plan_core.specs.declared.Link.{Link}
use Rattle.plan_costs.proofs.Walking.{walk_ends, walk_first, walk_step}
use Rattle.plan_costs.proofs.path.walk.Goals as goal

pub loop-at-init : goal.loop-at-init
loop-at-init c =
    walk_first c.args.timed.now.numbers.now c.args.timed.now.plan.now c.args.timed.now.times.now c.args.end _ _ c.requires.end.known
    c.new-links.ensures.items c.nothing-spent.ensures

pub loop-at-preserved : goal.loop-at-preserved
loop-at-preserved c =
    let n = c.args.timed.now.numbers.now in
    let p = c.args.timed.now.plan.now in
    let t = c.args.timed.now.times.now in
    walk_step n p t c.args.end c.loop-at.at c.in-Some.l _ c.loop-at.links.items _ c.loop-at.spent _ _
    (get_or c.args.last.now c.loop-at.at None) c.requires.costed c.loop-at.invariant
    (c.requires.last.links c.loop-at.at c.loop-at.invariant.known) c.in-Some.is
    c.in_ok-push.ensures.items c.spent_by.ensures.value c.plus-spent.ensures (ap (λ (k : Link). k.source) c.link_at-at.ensures)

pub returns : goal.returns
returns c =
    let n = c.args.timed.now.numbers.now in
    let p = c.args.timed.now.plan.now in
    let t = c.args.timed.now.times.now in
    walk_ends n p t c.args.end c.loop-at.at c.loop-at.links.items _ c.loop-at.spent (get_or c.args.last.now c.loop-at.at None)
    c.requires.costed c.requires.end c.loop-at.invariant (c.requires.last.links c.loop-at.at c.loop-at.invariant.known)
    c.in_default.not-Some c.reverse.ensures.items
