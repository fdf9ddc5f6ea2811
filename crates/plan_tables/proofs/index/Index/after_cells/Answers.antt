-- A row of the table.
use Rattle.std.proofs.Common.{◌∙◌, ap, arith, get_or}
use Rattle.plan_core.specs.calls.Areas.{region_length}
use Rattle.plan_tables.proofs.Passes.{get-row, length-table}
use Rattle.plan_tables.proofs.index.Index.after_cells.Goals as goal

pub at-requires : goal.at-requires
at-requires c = let e = length-table (region_length c.args.plan.now) c.args.plan.now.ranks c.args.self.now.lengths
    c.requires.index.lengths in let h = c.requires.rank in omega (arith, e, h)

pub returns : goal.returns
returns c = c.at.ensures ∙ ap (λ t. get_or t c.args.r 0) c.requires.index.lengths
    ∙ get-row (region_length c.args.plan.now) c.args.plan.now.ranks c.args.r 0 c.requires.rank
