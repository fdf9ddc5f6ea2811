use Rattle.std.proofs.Common.{◌≡◌, ◌+◌, ◌*◌, [], replicate, ap, ◌∙◌}
use Rattle.chain_list.specs.threads.Threads.{woven}
use Rattle.match_lists.specs.Buckets.{last_thread}
use Rattle.match_lists.proofs.IndexLemmas.{IsIndexed-none}
use Rattle.match_lists.proofs.LookLemmas.{IsMatchList-none}
use Rattle.match_lists.proofs.match_list.MatchList.with_room.Goals as goal

pub invariant_of-result : goal.invariant_of-result
invariant_of-result c =
    let threads : c.in_ok-trails.trails.threads ≡ woven (replicate (last_thread c.args.limit + 1) []) c.args.limit =
    c.in_ok-trails.ensures.threads ∙ ap (λ n. woven (replicate (3 * n + 1) []) c.args.limit) c.buckets.ensures in
    let indexed = IsIndexed-none _ _ c.args.limit c.in_ok-chain.ensures threads in
    IsMatchList-none _ _ _ c.args.limit indexed c.in_ok-chain.ensures c.in_ok-trails.ensures.looks
