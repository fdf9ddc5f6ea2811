-- What stands at the rank's places.
use Rattle.std.proofs.Common.{◌+◌, ◌∙◌, ap, ap₂, arith, get_or, length}
use Rattle.std.specs.Prelude.{if◌then◌else◌}
use Rattle.plan_core.specs.Plan.{own}
use Rattle.plan_core.specs.calls.RankOps.{sends_of}
use Rattle.plan_tables.proofs.Passes.{get-row, length-table}
use Rattle.mark_judge.proofs.done.counter.Goals as goal

pub at-requires : goal.at-requires
at-requires c =
    let p = c.args.plan.now in
    let e = length-table (λ r. length (own p r)) p.ranks c.args.cells.now c.requires.cells in
    let h = c.requires.rank in
    omega (arith, e, h)

pub at-requires-2 : goal.at-requires-2
at-requires-2 c =
    let p = c.args.plan.now in
    let e = length-table (λ r. if p.remote then sends_of p r else 0) p.ranks c.args.sent.now c.requires.sent in
    let h = c.requires.rank in
    omega (arith, e, h)

pub returns : goal.returns
returns c =
    let p = c.args.plan.now in
    let a = ap (λ v. get_or v c.args.rank 0) c.requires.cells ∙ get-row (λ r. length (own p r)) p.ranks c.args.rank 0 c.requires.rank in
    let b = ap (λ v. get_or v c.args.rank 0) c.requires.sent
    ∙ get-row (λ r. if p.remote then sends_of p r else 0) p.ranks c.args.rank 0 c.requires.rank in
    ap₂ (λ n m. n + m) (c.from.ensures ∙ c.at.ensures ∙ a) (c.from-2.ensures ∙ c.at-2.ensures ∙ b)
