use denote.Param.Send.{IsSync, sendable}
use Rattle.std.proofs.Common.{arith, rules}
use Rattle.std.proofs.Crossing.{crosses}
use Rattle.std.proofs.sync.atomic.AtomicBool.TheSendSync as flag
use Rattle.turn_table.specs.States.{HandState}
use Rattle.rank_slots.specs.declared.turn_rank.TurnRank.{TurnRank}
use Rattle.rank_threads.proofs.Parts.{sum-each}
use Rattle.rank_threads.proofs.Sent.{fabric-sync, hand-send}
use Rattle.rank_threads.proofs.steady.assist_all.Goals as goal

pub returns-clause-parts : goal.returns-clause-parts
returns-clause-parts g c = sum-each (λ (h : HandState TurnRank). h.knows.parts) c.args.hands.now c.for_each_mut.new.s c.for_each_mut.auto.s
    (λ i d low. let k = (c.for_each_mut.ensures i d low).1 in first_of (grind arith, cc, search rules))

pub for_each_mut-requires-send-T : goal.for_each_mut-requires-send-T
for_each_mut-requires-send-T g c κs within = search (hand-send, sendable) depth 20

pub for_each_mut-requires-sync-F : goal.for_each_mut-requires-sync-F
for_each_mut-requires-sync-F g c κs within =
    let s : IsSync g.row.G = search rules parts 8 in
    let r : IsSync g.row.R = search rules parts 8 in
    search (flag.the_sync, fabric-sync, crosses, sendable) depth 60 fits 20000
