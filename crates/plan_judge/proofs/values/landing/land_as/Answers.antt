use Rattle.plan_judge.proofs.values.Landed.{atomic}
use Rattle.plan_judge.proofs.values.landing.land_as.Goals as goal

pub returns-in-Atomic : goal.returns-in-Atomic
returns-in-Atomic c =
    let is = c.in-Atomic.is in
    rw is
    (atomic c.args.cell.now c.args.link.now.target_offset c.args.carried.now c.args.bytes.now _ (c.requires.begins is) (c.requires.same is)
    c.requires.whole c.join.ensures)
