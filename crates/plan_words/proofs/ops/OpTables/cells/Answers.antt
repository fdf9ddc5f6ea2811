-- A row of the table.
use Rattle.std.proofs.Common.{◌==◌, ◌∙◌, ap, arith, get_or, length, []}
use Rattle.plan_core.specs.Plan.{cell, own}
use Rattle.plan_tables.proofs.Indexed.{at_most-listed}
use Rattle.plan_tables.proofs.Passes.{get-row, length-table}
use Rattle.plan_words.proofs.ops.OpTables.cells.Goals as goal

pub at-requires : goal.at-requires
at-requires c =
    let e = length-table (own c.args.plan.now) c.args.plan.now.ranks c.args.self.now.own c.requires.tables.own in
    let h = c.requires.rank in
    omega (arith, e, h)

pub returns-clause-value : goal.returns-clause-value
returns-clause-value c =
    c.at.ensures
    ∙ ap (λ t. get_or t c.args.r []) c.requires.tables.own
    ∙ get-row (own c.args.plan.now) c.args.plan.now.ranks c.args.r [] c.requires.rank

pub returns-clause-at_most : goal.returns-clause-at_most
returns-clause-at_most c =
    at_most-listed (λ k. (cell c.args.plan.now k).rank == c.args.r) (length c.args.plan.now.cells) c.at.result.now
    (returns-clause-value c)
