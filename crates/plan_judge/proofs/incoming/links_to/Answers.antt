-- The table is a row of lists.
use Rattle.std.proofs.Common.{◌∙◌, [], length, get_or, ap, arith}
use Rattle.plan_core.specs.Plan.{in_links}
use Rattle.plan_tables.proofs.Passes.{get-row, length-table}
use Rattle.plan_judge.proofs.incoming.links_to.Goals as goal

pub at-requires : goal.at-requires
at-requires c =
    let p = c.args.plan.now in
    let h = c.requires.cell in
    let e = length-table (in_links p) (length p.cells) c.args.into.now c.requires.table in
    omega (arith, e, h)

pub returns : goal.returns
returns c =
    let p = c.args.plan.now in
    c.at.ensures ∙ ap (λ v. get_or v c.args.c []) c.requires.table ∙ get-row (in_links p) (length p.cells) c.args.c [] c.requires.cell
