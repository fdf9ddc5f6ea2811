-- By `Done`.
use Rattle.worlds.proofs.Done.{values_at, none_left, stays_alone, keeps_values}
use Rattle.worlds.proofs.world.World.done.Goals as goal

pub returns-clause-values : goal.returns-clause-values
returns-clause-values c = λ enough. values_at _ c.counted.ensures.kept c.args.r c.requires c.counted.result c.counted.ensures.value enough

pub returns-clause-stays : goal.returns-clause-stays
returns-clause-stays c = λ enough. keeps_values _ c.counted.ensures.kept c.args.r c.requires c.counted.result c.counted.ensures.value enough

pub returns-clause-none_left : goal.returns-clause-none_left
returns-clause-none_left c = λ enough remote.
    none_left _ c.counted.ensures.kept c.args.r c.requires c.counted.result c.counted.ensures.value enough remote

pub returns-clause-left_alone : goal.returns-clause-left_alone
returns-clause-left_alone c = λ enough none.
    stays_alone _ c.counted.ensures.kept c.args.r c.requires c.counted.result c.counted.ensures.value enough none
