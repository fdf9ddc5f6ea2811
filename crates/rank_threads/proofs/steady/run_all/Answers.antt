use denote.Param.Send.{IsSync, sendable}
use Rattle.std.proofs.Common.{rules}
use Rattle.std.proofs.Crossing.{crosses}
use Rattle.std.proofs.sync.atomic.AtomicBool.TheSendSync as flag
use Rattle.rest_probe.proofs.waves.Wave.TheSendSync as wave
use Rattle.rank_threads.proofs.Sent.{fabric-sync, hand-send}
use Rattle.rank_threads.proofs.steady.run_all.Goals as goal

pub join_mut-requires-send-F : goal.join_mut-requires-send-F
join_mut-requires-send-F g c κs within =
    let s : IsSync g.row.G = search rules parts 8 in
    let r : IsSync g.row.R = search rules parts 8 in
    search (flag.the_sync, wave.the_send, fabric-sync, hand-send, crosses, sendable) depth 60 fits 20000
