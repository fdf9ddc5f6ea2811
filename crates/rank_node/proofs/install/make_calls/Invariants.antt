use Rattle.std.proofs.Common.{take, drop}
use Rattle.rank_node.specs.Calls.{AreMade, MayCallAll, count_calls}
use Rattle.rank_node.specs.Handles.{Fits, counted_in}
use Rattle.rank_node.proofs.install.make_calls.Given as goal

abbrev pub invariant-loop-call : goal.invariant-loop-call
invariant-loop-call l =
    AreMade l.cells (take l.call-index l.calls) l.fn.nic l.nic l.fn.kept l.kept
    × MayCallAll l.cells l.fn.nic.ranks l.fn.nic.limits (counted_in l.kept) (drop l.call-index l.calls)
    × Fits (count_calls (drop l.call-index l.calls) (counted_in l.kept)) l.kept.room
