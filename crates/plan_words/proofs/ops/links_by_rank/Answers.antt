-- One number more in each turn.
use Rattle.std.proofs.Common.{◌<◌, ◌≡◌, ◌++◌, ◌∷◌, [], arith, map, set, get_or, ap, ◌∙◌, length}
use Rattle.plan_core.specs.Plan.{from_to}
use Rattle.plan_tables.specs.Rising.{of_key, no_numbers}
use Rattle.plan_tables.specs.Tables.{all_ranks, from_rank}
use Rattle.plan_tables.proofs.Passes.{length-table, listed-more}
use Rattle.plan_words.proofs.ops.links_by_rank.Goals as goal

pub loop-l-init : goal.loop-l-init
loop-l-init c = c.in_ok-out.ensures ∙ ap (λ n. map no_numbers (from_to 0 n)) c.ranks.ensures

pub add-requires : goal.add-requires
add-requires c =
    let e = length-table (of_key (from_rank c.args.plan.now) c.loop-l.l) c.args.plan.now.ranks c.loop-l.out c.loop-l.invariant in
    let h = c.from_rank.ensures.rank in
    omega (arith, e, h)

pub loop-l-preserved : goal.loop-l-preserved
loop-l-preserved c =
    let k = from_rank c.args.plan.now c.loop-l.l in
    let h = c.from_rank.ensures.rank in
    let e = c.from_rank.ensures.value in
    c.in_ok-add.ensures
    ∙ ap (λ r. set c.loop-l.out r (get_or c.loop-l.out r [] ++ c.loop-l.l ∷ [])) e
    ∙ listed-more (from_rank c.args.plan.now) c.loop-l.l c.args.plan.now.ranks c.loop-l.out (let z : k < c.args.plan.now.ranks =
    omega (arith, h, e) in z)
    c.loop-l.invariant

pub returns : goal.returns
returns c =
    let test = c.loop-l-test.false in
    let end = c.loop-l.auto.l-end in
    let count = c.link_count-l-end.ensures in
    let all : c.loop-l.l ≡ length c.args.plan.now.links = omega (arith, test, end, count) in
    c.loop-l.invariant ∙ ap (λ n. map (of_key (from_rank c.args.plan.now) n) (all_ranks c.args.plan.now)) all
