-- One link more in each turn.
use Rattle.std.proofs.Common.{refl}
use Rattle.std.proofs.lemmas.List.Elements.{All-get_or}
use Rattle.plan_terms.specs.Cells.{ComesTo}
use Rattle.plan_terms.proofs.Landing.{all_put, more_put}
use Rattle.plan_terms.proofs.evaluating.land_all.Goals as goal

pub link_at-requires : goal.link_at-requires
link_at-requires c =
    (All-get_or (ComesTo c.args.plan.now c.args.c) c.args.links.now c.loop-l.l-index 0 c.loop-l-test.true c.requires).known

pub loop-l-init : goal.loop-l-init
loop-l-init c = record { same = λ V. refl }

pub loop-l-preserved : goal.loop-l-preserved
loop-l-preserved c =
    more_put c.args.plan.now c.args.before.now c.args.links.now c.args.places.now c.loop-l.places c.land.new.places c.loop-l.l-index
    c.args.c c.link_at.result c.loop-l-test.true
    (All-get_or (ComesTo c.args.plan.now c.args.c) c.args.links.now c.loop-l.l-index 0 c.loop-l-test.true c.requires)
    c.link_at.ensures c.loop-l.invariant c.in_ok-land.ensures

pub returns : goal.returns
returns c =
    all_put c.args.plan.now c.args.before.now c.args.links.now c.args.places.now c.loop-l.places c.loop-l.l-index c.loop-l-test.false
    c.loop-l.invariant
