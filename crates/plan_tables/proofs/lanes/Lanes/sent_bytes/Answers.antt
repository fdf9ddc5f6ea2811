-- A place of the table.
use Rattle.std.proofs.Common.{◌+◌, ◌*◌, ◌∙◌, ap, ap₂, arith, get_or, length, sum_by}
use Rattle.plan_tables.specs.Rising.{of_key}
use Rattle.plan_tables.specs.Tables.{lane_key, link_length}
use Rattle.plan_tables.proofs.Passes.{length-table}
use Rattle.plan_tables.proofs.Pairs.{summed-lane, pair-in}
use Rattle.plan_tables.proofs.lanes.Lanes.sent_bytes.Goals as goal

pub at-requires : goal.at-requires
at-requires c =
    let p = c.args.plan.now in
    let e = length-table (λ i. sum_by (link_length p) (of_key (lane_key p) (length p.links) i)) (p.ranks * p.ranks) c.args.self.now.bytes
    c.requires.bytes in
    let r = ap (λ v. c.args.s * v + c.args.d) c.ranks-ranks.ensures in
    let k = pair-in p.ranks c.args.s c.args.d c.requires.source c.requires.target in
    omega (arith, e, r, k)

pub returns : goal.returns
returns c =
    let p = c.args.plan.now in
    c.at.ensures
    ∙ ap₂ (λ t v. get_or t (c.args.s * v + c.args.d) 0) c.requires.bytes c.ranks-ranks.ensures
    ∙ summed-lane p c.args.s c.args.d c.requires.tabled c.requires.source c.requires.target
