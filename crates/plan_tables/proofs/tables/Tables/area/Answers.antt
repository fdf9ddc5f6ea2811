-- A place of the table.
use Rattle.std.proofs.Common.{◌+◌, ◌*◌, ◌∙◌, ap, arith, get_or}
use Rattle.plan_tables.proofs.ByClass.{area-length}
use Rattle.plan_tables.proofs.Passes.{length-table}
use Rattle.plan_tables.proofs.PerClass.{bytes-at, key-in}
use Rattle.plan_tables.proofs.tables.Tables.area.Goals as goal

pub at-requires : goal.at-requires
at-requires c =
    let p = c.args.plan.now in
    let e = length-table _ (p.ranks * 81) c.args.self.now.index.areas.bytes c.requires.tables.index.bytes in
    let k = key-in p.ranks c.args.r c.args.class c.requires.rank c.requires.class in
    omega (arith, e, k)

pub returns : goal.returns
returns c =
    let p = c.args.plan.now in
    c.at.ensures
    ∙ ap (λ t. get_or t (c.args.r * 81 + c.args.class) 0) c.requires.tables.index.bytes
    ∙ bytes-at p c.args.r c.args.class c.requires.rank c.requires.class
    ∙ area-length p c.args.r c.args.class c.requires.rank c.requires.class
