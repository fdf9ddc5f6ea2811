use denote.Param.Send.{sendable}
use Rattle.std.proofs.Common.{◌+◌, arith, subst}
use Rattle.std.proofs.Crossing.{crosses}
use Rattle.rank_wiring.specs.declared.open.BuiltRank.{BuiltRank}
use Rattle.rank_wiring.specs.Opening.{IsFanned}
use Rattle.work_sharing.proofs.Placed.{shared-each}
use Rattle.rank_wiring.proofs.Sent.{built-send}
use Rattle.rank_wiring.proofs.open.build_ranks.Goals as goal

pub map_indices-requires-send-X : goal.map_indices-requires-send-X
map_indices-requires-send-X g c κs within = search (built-send, crosses, sendable) depth 40

pub returns-clause-built : goal.returns-clause-built
returns-clause-built g c =
    shared-each _ _ (λ i (b : BuiltRank). IsFanned c.args.job.now (0 + i) b.slot b.load)
    (λ i b made. subst (λ n. IsFanned c.args.job.now n b.slot b.load) (omega arith) made) _ c.in_ok-places.ensures.each
