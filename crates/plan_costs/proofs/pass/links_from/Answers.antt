-- One link more in each turn.
use Rattle.std.proofs.Common.{◌<◌, ◌++◌, ◌∷◌, [], arith, length, set, get_or, ap, ◌∙◌}
use Rattle.plan_core.specs.declared.Link.{Link}
use Rattle.plan_core.specs.Plan.{link}
use Rattle.plan_tables.specs.Rising.{of_key}
use Rattle.plan_tables.proofs.Passes.{length-table, listed-more}
use Rattle.plan_costs.proofs.pass.links_from.Goals as goal

pub add-requires : goal.add-requires
add-requires c =
    let p = c.args.plan.now in
    let e = length-table (of_key (λ m. (link p m).source) c.loop-l.l) (length p.cells) c.loop-l.table c.loop-l.invariant in
    let n = c.link_count-l-end.ensures in
    let t = c.loop-l-test.true in
    let below : c.loop-l.l < length p.links = omega (arith, n, t) in
    let h = c.requires.tabled.sources c.loop-l.l below in
    let s = ap (λ (k : Link). k.source) c.link_at.ensures in
    omega (arith, e, h, s)

pub loop-l-preserved : goal.loop-l-preserved
loop-l-preserved c =
    let p = c.args.plan.now in
    let n = c.link_count-l-end.ensures in
    let t = c.loop-l-test.true in
    let below : c.loop-l.l < length p.links = omega (arith, n, t) in
    c.in_ok-add.ensures
    ∙ ap (λ (k : Link). set c.loop-l.table k.source (get_or c.loop-l.table k.source [] ++ c.loop-l.l ∷ [])) c.link_at.ensures
    ∙ listed-more (λ m. (link p m).source) c.loop-l.l (length p.cells) c.loop-l.table (c.requires.tabled.sources c.loop-l.l below)
    c.loop-l.invariant
