-- A node may go to another thread, and threads may share one, as each of its fields may: field by field, since a search through all of them
-- runs out of steps. What it began with and the calls that prepared it have no bytes.
use denote.Param.Send.{IsSend, IsSync, sendable, recorded_send, recorded_sync, struct_send, struct_sync, view_send, view_sync}
use denote.Struct.Declared.{shape}
use Rattle.std.proofs.Crossing.{crosses}
use Rattle.portals_ni.proofs.nic.Nic.TheSendSync as nic
use Rattle.rank_node.specs.contracts.node.Node.{the_row}
use Rattle.rank_node.specs.contracts.node.Node.TheInside as inside
use Rattle.rank_node.proofs.compiled.Compiled.TheSendSync as compiled
use Rattle.rank_node.proofs.gates.Gates.TheSendSync as gates
use Rattle.rank_node.proofs.history.History.TheSendSync as history
use Rattle.rank_node.proofs.kept.NodeHandles.TheSendSync as kept
use Rattle.target_engine.proofs.spare_buffers.SpareBuffers.TheSendSync as spares

pub node-send : IsSend the_row
node-send =
    view_send inside.the_row _ _ _ _ (recorded_send inside.the_field.row _ _ inside.the_type.to_one (struct_send (shape inside.the_type) (
      compiled.the_field_send,
      (
        search crosses,
        (
          search crosses,
          (
            nic.the_send,
            (
              kept.the_send,
              (
                history.the_send,
                (search (crosses, sendable) depth 20, (search sendable, (gates.the_send, (spares.the_field_send, tt)))),
              ),
            ),
          ),
        ),
      ),
    )))

pub node-sync : IsSync the_row
node-sync =
    view_sync inside.the_row _ _ _ _ (recorded_sync inside.the_field.row _ _ inside.the_type.to_one (struct_sync (shape inside.the_type) (
      compiled.the_field_sync,
      (
        search crosses,
        (
          search crosses,
          (
            nic.the_sync,
            (
              kept.the_sync,
              (
                history.the_sync,
                (search (crosses, sendable) depth 20, (search sendable, (gates.the_sync, (spares.the_field_sync, tt)))),
              ),
            ),
          ),
        ),
      ),
    )))
