-- A row of the table.
use Rattle.std.proofs.Common.{◌∙◌, ap, arith, get_or, length, []}
use Rattle.plan_core.specs.calls.Areas.{comes_to, links_to}
use Rattle.plan_tables.proofs.Passes.{get-row, length-table}
use Rattle.plan_tables.proofs.Indexed.{all-below, at_most-listed}
use Rattle.plan_tables.proofs.index.Index.into_at.Goals as goal

pub at-requires : goal.at-requires
at-requires c = let e = length-table (links_to c.args.plan.now) c.args.plan.now.ranks c.args.self.now.into c.requires.index.into in
    let h = c.requires.rank in omega (arith, e, h)

pub returns-clause-value : goal.returns-clause-value
returns-clause-value c = c.at.ensures ∙ ap (λ t. get_or t c.args.r []) c.requires.index.into
    ∙ get-row (links_to c.args.plan.now) c.args.plan.now.ranks c.args.r [] c.requires.rank

pub returns-clause-links : goal.returns-clause-links
returns-clause-links c = λ i h. all-below (comes_to c.args.plan.now c.args.r) (length c.args.plan.now.links) c.at.result.now
    (returns-clause-value c) i h

pub returns-clause-at_most : goal.returns-clause-at_most
returns-clause-at_most c = at_most-listed (comes_to c.args.plan.now c.args.r) (length c.args.plan.now.links) c.at.result.now
    (returns-clause-value c)
