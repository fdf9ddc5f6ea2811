use Rattle.std.proofs.Common.{◌<◌, arith, length}
use Rattle.atomic_table.proofs.Lists.{at_index}
use Rattle.rank_wiring.proofs.open.built_rank_of.Goals as goal

pub build_rank-requires-clause-fan : goal.build_rank-requires-clause-fan
build_rank-requires-clause-fan c =
    let f = c.index-fans-rank in
    let low : c.args.rank < length c.args.fans.now = search arith in
    c.requires.fans c.args.rank f.result (at_index _ _ f.result low f.is)
