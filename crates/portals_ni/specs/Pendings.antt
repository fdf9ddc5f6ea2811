-- What the pending operations of an interface wait with, and what they are told.
use Rattle.std.specs.Prelude.{ℕ, List, Option, Some, None, filter}
use Rattle.ptl_types.specs.declared.handles.Handle.{Handle}
use Rattle.ptl_types.specs.declared.handles.Count.{Count}
use Rattle.ptl_types.specs.declared.calls.TriggeredOp.{TriggeredOp}
use Rattle.ni_model.specs.Tables.{Table, lookup}
use Rattle.ni_model.specs.Counts.{total}
use Rattle.ni_model.specs.Ready.{is_rank, posted_at, target_of}
use Rattle.triggered_ops.specs.Operations.{Operations, told, due_numbers, posted_all}
use Rattle.portals_ni.specs.declared.posted_op.PostedOp.{PostedOp}

-- the action of a pending operation
abbrev pub action_in : PostedOp → TriggeredOp
action_in a = a.action

-- the sum of a counting event is told to the operations that wait on it, where it is live
abbrev pub tell_at : Handle → Option Count → Operations PostedOp → Operations PostedOp
tell_at h None ops = ops
tell_at h (Some c) ops = told h (total c) ops

-- the same of the counting event that rose, if one did
abbrev pub told_by : Option Handle → Table Count → Operations PostedOp → Operations PostedOp
told_by None cts ops = ops
told_by (Some h) cts ops = tell_at h (lookup h cts.live) ops

-- the sum of a counting event, where it is live
abbrev pub sum_at : Option Count → ℕ
sum_at None = 0
sum_at (Some c) = total c

-- the numbers of those that are due and whose message is for rank d, rising
abbrev pub due_numbers_to : ℕ → Operations PostedOp → List ℕ
due_numbers_to d ops = filter (λ t. is_rank d (target_of (posted_at t (posted_all action_in ops)))) (due_numbers ops)
