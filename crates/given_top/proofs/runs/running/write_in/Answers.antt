use denote.Param.Send.{sendable}
use Rattle.std.proofs.Crossing.{crosses}
use Rattle.coll_shape.proofs.shape.Shape.TheSendSync as shapes
use Rattle.worlds.proofs.Sent.{world-sync}
use Rattle.given_top.proofs.runs.running.write_in.Goals as goal

pub write_result_by-requires-sync-H : goal.write_result_by-requires-sync-H
write_result_by-requires-sync-H g c κs within = search (world-sync, shapes.the_sync, crosses, sendable) depth 40
