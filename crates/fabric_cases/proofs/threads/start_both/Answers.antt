use denote.Param.Send.{IsSync, sendable}
use Rattle.std.proofs.Common.{rules}
use Rattle.std.proofs.Crossing.{crosses}
use Rattle.rank_threads.proofs.Sent.{fabric-sync, hand-send}
use Rattle.fabric_cases.proofs.threads.start_both.Goals as goal

pub join-requires-send-F : goal.join-requires-send-F
join-requires-send-F g c κs within =
    let s : IsSync g.row.G = search rules parts 8 in
    let r : IsSync g.row.R = search rules parts 8 in
    search (fabric-sync, hand-send, crosses, sendable) depth 60 fits 20000

pub join-requires-send-A : goal.join-requires-send-A
join-requires-send-A g c κs within = search (hand-send, sendable) depth 20
