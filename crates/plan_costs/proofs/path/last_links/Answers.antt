-- One link more in each turn.
use Rattle.std.proofs.Common.{rules, ◌<◌, length, arith}
use Rattle.plan_core.specs.Plan.{link}
use Rattle.plan_costs.proofs.Walking.{last_known, last_more, no_links}
use Rattle.plan_costs.proofs.path.last_links.Goals as goal

pub loop-l-init : goal.loop-l-init
loop-l-init c = no_links c.args.timed.now.numbers.now c.args.timed.now.plan.now c.args.timed.now.times.now _ (search rules)

pub note-requires-clause-before : goal.note-requires-clause-before
note-requires-clause-before c =
    let p = c.args.timed.now.plan.now in
    let n = c.link_count-l-end.ensures in
    let t = c.loop-l-test.true in
    let below : c.loop-l.l < length p.links = omega (arith, n, t) in
    last_known c.args.timed.now.numbers.now p c.args.timed.now.times.now c.loop-l.l (link p c.loop-l.l).target _ (omega (arith, below))
    (c.loop-l.invariant.links (link p c.loop-l.l).target (c.requires.costed.timed.tabled.targets c.loop-l.l below))

pub loop-l-preserved : goal.loop-l-preserved
loop-l-preserved c =
    let p = c.args.timed.now.plan.now in
    let n = c.link_count-l-end.ensures in
    let t = c.loop-l-test.true in
    let below : c.loop-l.l < length p.links = omega (arith, n, t) in
    last_more c.args.timed.now.numbers.now p c.args.timed.now.times.now c.loop-l.l c.loop-l.last.items c.note.new.last.items
    c.loop-l.invariant below (c.requires.costed.timed.tabled.targets c.loop-l.l below) c.note.ensures
