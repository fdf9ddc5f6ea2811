-- One number more in each turn.
use Rattle.std.proofs.Common.{◌<◌, ◌≡◌, ◌++◌, ◌∷◌, [], arith, map, set, get_or, ap, ◌∙◌, length}
use Rattle.plan_core.specs.Plan.{from_to}
use Rattle.plan_tables.specs.Rising.{of_key, no_numbers}
use Rattle.plan_tables.specs.Tables.{all_ranks, rank_of}
use Rattle.plan_tables.proofs.Passes.{length-table, listed-more}
use Rattle.plan_words.proofs.ops.cells_by_rank.Goals as goal

pub loop-c-init : goal.loop-c-init
loop-c-init c = c.in_ok-own.ensures ∙ ap (λ n. map no_numbers (from_to 0 n)) c.ranks.ensures

pub add-requires : goal.add-requires
add-requires c =
    let e = length-table (of_key (rank_of c.args.plan.now) c.loop-c.c) c.args.plan.now.ranks c.loop-c.own c.loop-c.invariant in
    let h = c.rank_of.ensures.rank in
    omega (arith, e, h)

pub loop-c-preserved : goal.loop-c-preserved
loop-c-preserved c =
    let k = rank_of c.args.plan.now c.loop-c.c in
    let h = c.rank_of.ensures.rank in
    let e = c.rank_of.ensures.value in
    c.in_ok-add.ensures
    ∙ ap (λ r. set c.loop-c.own r (get_or c.loop-c.own r [] ++ c.loop-c.c ∷ [])) e
    ∙ listed-more (rank_of c.args.plan.now) c.loop-c.c c.args.plan.now.ranks c.loop-c.own (let z : k < c.args.plan.now.ranks =
    omega (arith, h, e) in z)
    c.loop-c.invariant

pub returns : goal.returns
returns c =
    let test = c.loop-c-test.false in
    let end = c.loop-c.auto.c-end in
    let count = c.cell_count-c-end.ensures in
    let all : c.loop-c.c ≡ length c.args.plan.now.cells = omega (arith, test, end, count) in
    c.loop-c.invariant ∙ ap (λ n. map (of_key (rank_of c.args.plan.now) n) (all_ranks c.args.plan.now)) all
