-- What may go to another thread or be shared by threads, field by field: a search through all fields of a slot or a fabric runs out of
-- steps.
use denote.RattleType.{RattleType}
use denote.Param.Send.{IsSend, IsSync, sendable, recorded_sync, struct_sync, view_sync}
use denote.Struct.Declared.{shape}
use Rattle.std.proofs.Crossing.{crosses}
use Rattle.pair_wires.proofs.wire.Wire.TheSendSync as wire
use Rattle.rank_node.proofs.Sent.{node-sync}
use Rattle.schedule_compiler.proofs.job.Job.TheSendSync as job
use Rattle.turn_table.proofs.table.TurnHand.TheSendSync as hands
use Rattle.turn_table.proofs.table.Turns.TheSendSync as turns
use Rattle.turn_table.specs.contracts.table.TurnHand as hand
use Rattle.worlds.proofs.frame.Frame.TheSendSync as frame
use Rattle.rank_threads.specs.contracts.fabric.Fabric as fabric
use Rattle.rank_threads.specs.contracts.fabric.Fabric.TheInside as inside
use Rattle.rank_slots.specs.contracts.turn_rank.TurnRank as slot
use Rattle.rank_slots.specs.contracts.past.TurnRankPast.TheImpl as past
use Rattle.rank_slots.proofs.mail.Mail.TheSendSync as mail
use Rattle.rank_slots.proofs.Sent.{slot-send}

pub hand-send : IsSend (hand.the_row slot.the_row past.ghosts)
hand-send = hands.the_send slot.the_row past.ghosts slot-send

pub fabric-sync : (G : RattleType) → IsSync G → IsSync (fabric.the_row G)
fabric-sync G s =
    view_sync (inside.the_row G) _ _ _ _
    (recorded_sync (inside.the_field G).row _ _ (inside.the_type G).to_one (struct_sync (shape (inside.the_type G)) (
      turns.the_sync slot.the_row past.ghosts slot-send,
      (
        search (wire.the_sync, crosses) depth 20,
        (
          mail.the_field_sync,
          (
            s,
            (
              job.the_sync,
              (search sendable, (frame.the_sync, (search (node-sync, crosses) depth 20, tt))),
            ),
          ),
        ),
      ),
    )))
