-- The cells, and the areas after them.
use Rattle.std.proofs.Common.{◌==◌, ◌++◌, ◌*◌, ◌^◌, ◌≤◌, length, flat_map, ap, ap₂, ◌∙◌, arith, subst, sym}
use Rattle.ptl_types.specs.Filled.{Filled}
use Rattle.plan_core.specs.Plan.{Plan, cell, own}
use Rattle.plan_core.specs.Values.{initial}
use Rattle.plan_core.specs.calls.Areas.{blank_areas}
use Rattle.plan_tables.specs.Installed.{Installed}
use Rattle.plan_tables.proofs.Indexed.{all-below}
use Rattle.schedule_compiler.proofs.Kept.{at_most-inputs}
use Rattle.schedule_compiler.proofs.loading.load.Goals as goal

pub add_cells-requires-clause-count : goal.add_cells-requires-clause-count
add_cells-requires-clause-count c = c.input_count-count.ensures ∙ sym c.requires.inputs.many

pub add_cells-requires-clause-few_inputs : goal.add_cells-requires-clause-few_inputs
add_cells-requires-clause-few_inputs c =
    let s = c.args.schedule.now in
    subst (λ n. n ≤ 2 ^ 24) (sym (ap₂ (λ k (q : Plan). k * q.ranks) c.input_count-count.ensures c.plan-plan.ensures.value))
    (at_most-inputs s.plan s.inputs c.plan-plan.ensures.sound)

pub add_cells-requires-clause-lists : goal.add_cells-requires-clause-lists
add_cells-requires-clause-lists c = λ b h. c.requires.inputs.lists b h ∙ sym (ap (λ (q : Plan). q.ranks) c.plan-plan.ensures.value)

pub add_cells-requires-clause-own : goal.add_cells-requires-clause-own
add_cells-requires-clause-own c = λ i h.
    let p = c.args.schedule.now.plan in
    let o = c.cells.ensures ∙ ap (λ (t : Installed). t.cells) c.requires.table in
    let m = all-below (λ k. (cell p k).rank == c.args.r) (length p.cells) c.cells.result.now o i h in
    let e = ap (λ (q : Plan). length q.cells) c.plan-plan.ensures.value in
    omega (arith, m, e)

pub returns : goal.returns
returns c =
    let p = c.plan-plan.result.now in
    let ins = c.args.inputs.now in
    let r = c.args.r in
    let o = c.cells.ensures ∙ ap (λ (t : Installed). t.cells) c.requires.table in
    ap (λ (f : Filled). f.list) c.from_vec.ensures
    ∙ c.in_ok-add_areas.ensures
    ∙ ap (λ v. v ++ blank_areas p r) (c.in_ok-add_cells.ensures ∙ ap₂ (λ v w. v ++ flat_map (initial p ins) w) c.in_ok-bytes.ensures.items
    o)
    ∙ ap (λ (q : Plan). flat_map (initial q ins) (own c.args.schedule.now.plan r) ++ blank_areas q r) c.plan-plan.ensures.value
