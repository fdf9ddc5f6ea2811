use Rattle.std.proofs.Common.{◌<◌, Option, arith, length, subst}
use Rattle.std.specs.Prelude.{IfSome}
use Rattle.atomic_table.proofs.Lists.{at_index}
use Rattle.rank_wiring.specs.declared.open.BuiltRank.{BuiltRank}
use Rattle.rank_wiring.specs.Opening.{IsFanned}
use Rattle.rank_wiring.proofs.open.made_or_make.Goals as goal

pub returns-in-Some : goal.returns-in-Some
returns-in-Some c =
    subst (λ (o : Option BuiltRank). IfSome o (λ (b : BuiltRank). IsFanned c.args.job.now c.args.rank b.slot b.load))
    c.in-Some.is c.requires.place

pub build_rank-requires-clause-fan : goal.build_rank-requires-clause-fan
build_rank-requires-clause-fan c =
    let f = c.index-fans-rank in
    let low : c.args.rank < length c.args.fans.now = search arith in
    c.requires.fans c.args.rank f.result (at_index _ _ f.result low f.is)
