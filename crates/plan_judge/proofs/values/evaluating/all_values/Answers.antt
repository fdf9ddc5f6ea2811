-- One cell more in each turn.
use Rattle.std.proofs.Common.{◌≡◌, ◌<◌, [], length, get_or, ap, ◌∙◌, arith}
use Rattle.plan_core.specs.Plan.{in_links}
use Rattle.plan_core.specs.Values.{values}
use Rattle.plan_tables.proofs.Passes.{get-row, length-table}
use Rattle.plan_judge.proofs.values.evaluating.all_values.Goals as goal

pub at-requires : goal.at-requires
at-requires c =
    let p = c.args.plan.now in
    let n = c.cell_count-c-end.ensures in
    let t = c.loop-c-test.true in
    let e = length-table (in_links p) (length p.cells) c.args.into.now c.requires.table in
    omega (arith, e, n, t)

pub next_value-requires-clause-links : goal.next_value-requires-clause-links
next_value-requires-clause-links c =
    let p = c.args.plan.now in
    let n = c.cell_count-c-end.ensures in
    let t = c.loop-c-test.true in
    let there : c.loop-c.c < length p.cells = omega (arith, n, t) in
    c.at.ensures ∙ ap (λ v. get_or v c.loop-c.c []) c.requires.table ∙ get-row (in_links p) (length p.cells) c.loop-c.c [] there

pub returns : goal.returns
returns c =
    let p = c.args.plan.now in
    let n = c.cell_count-c-end.ensures in
    let t = c.loop-c-test.false in
    c.loop-c.invariant.so_far ∙ ap (values p c.args.inputs.now) (let e : c.loop-c.c ≡ length p.cells = omega (arith, n, t) in e)
