-- Threads may share a world, as each of its fields.
use denote.Param.Send.{IsSync, recorded_sync, struct_sync, view_sync}
use denote.Struct.Declared.{shape}
use Rattle.std.proofs.Crossing.{crosses}
use Rattle.schedule_compiler.proofs.job.Job.TheSendSync as job
use Rattle.rank_node.proofs.Sent.{node-sync}
use Rattle.worlds.proofs.parts.traffic.Traffic.TheSendSync as traffic
use Rattle.worlds.specs.contracts.world.World.{the_row}
use Rattle.worlds.specs.contracts.world.World.TheInside as inside

pub world-sync : IsSync the_row
world-sync =
    view_sync inside.the_row _ _ _ _ (recorded_sync inside.the_field.row _ _ inside.the_type.to_one (struct_sync (shape inside.the_type) (
      job.the_sync,
      (search (node-sync, crosses) depth 20, (traffic.the_field_sync, tt)),
    )))
