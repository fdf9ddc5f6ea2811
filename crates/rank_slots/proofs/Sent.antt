-- What may go to another thread, field by field: a search through all fields of a slot runs out of steps.
use denote.Param.Send.{IsSend, recorded_send, struct_send}
use denote.Struct.Declared.{shape}
use Rattle.std.proofs.Crossing.{crosses}
use Rattle.rank_node.proofs.Sent.{node-send}
use Rattle.schedule_compiler.proofs.job.Job.TheSendSync as job
use Rattle.rank_slots.specs.contracts.turn_rank.TurnRank as slot
use Rattle.rank_slots.proofs.hints.Hints.TheSendSync as hints
use Rattle.rank_slots.proofs.ports.InPort.TheSendSync as in_port
use Rattle.rank_slots.proofs.ports.OutPort.TheSendSync as out_port

pub slot-field-send : IsSend slot.the_field.row
slot-field-send =
    struct_send (shape slot.the_type) (
      job.the_send,
      (
        search (node-send, crosses) depth 20,
        (
          search (out_port.the_send, crosses) depth 20,
          (
            search (in_port.the_send, crosses) depth 20,
            (search (hints.the_send, crosses) depth 20, tt),
          ),
        ),
      ),
    )

pub slot-send : IsSend slot.the_row
slot-send = recorded_send slot.the_field.row _ _ slot.the_type.to_one slot-field-send
