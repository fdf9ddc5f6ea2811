-- The table has an entry for each cell.
use Rattle.std.proofs.Common.{ap, ◌∙◌, arith, length, get_or}
use Rattle.plan_core.proofs.Drawing.{length-row}
use Rattle.plan_core.specs.calls.Calls.{cell_start}
use Rattle.plan_tables.proofs.Passes.{get-row}
use Rattle.plan_tables.proofs.calls.start_at.Goals as goal

pub bounds-starts-c : goal.bounds-starts-c
bounds-starts-c c =
    let e = ap length c.requires.starts ∙ length-row (cell_start c.args.plan.now) 0 (length c.args.plan.now.cells) in
    let h = c.requires.cell in
    omega (arith, e, h)

pub returns : goal.returns
returns c = ap (λ v. get_or v c.args.c 0) c.requires.starts ∙ get-row (cell_start c.args.plan.now) (length c.args.plan.now.cells) c.args.c
    0 c.requires.cell
