-- How calls of an interface answer.
use Rattle.std.specs.Prelude.{ℕ, Bool, false, ◌≡◌, Option, Some, None, Result, Ok, Err}
use Rattle.ptl_types.specs.declared.handles.Handle.{Handle}
use Rattle.ptl_types.specs.declared.handles.Count.{Count}
use Rattle.ptl_types.specs.declared.calls.NiFault.{NiFault}
use Rattle.ptl_types.specs.declared.calls.NiFault.TheVariants.{Stale}
use Rattle.ptl_types.specs.declared.calls.EqGot.{EqGot}
use Rattle.ptl_types.specs.declared.calls.TriggeredOp.{TriggeredOp}
use Rattle.ptl_types.specs.declared.calls.TriggeredOp.TheVariants.{Inc, Set}
use Rattle.ptl_types.specs.Messages.{Sent}
use Rattle.ni_model.specs.Tables.{Table, changed}
use Rattle.ni_model.specs.Counts.{counted}
use Rattle.ni_model.specs.Queues.{Waiting, taken_from}
use Rattle.ni_model.specs.State.{State}
use Rattle.ni_model.specs.Calls.{Done, MayLackMemory}

-- a call that makes a thing, under some slot that no live thing of its table has, unless it lacks memory
pub record MakesIfMemory {A : Type 0} (taken : ℕ → Bool) (call : ℕ → Done (Result A NiFault)) (old : State) (end : Done (Result A NiFault))
    : Type 0 where
  pub slot : ℕ
  pub free : taken slot ≡ false
  pub ended : MayLackMemory (call slot) old end

-- the first event of a queue that is live
abbrev pub event_taken : Option Waiting → Result EqGot NiFault
event_taken None = Err Stale
event_taken (Some q) = Ok (taken_from q)

-- the message of a start that isn't refused
abbrev pub as_started : Result Sent NiFault → Result (Option Sent) NiFault
as_started (Ok m) = Ok (Some m)
as_started (Err fault) = Err fault

-- what an action does that counts
abbrev pub action_counts : TriggeredOp → Table Count → Table Count
action_counts (Inc ct by) cts = counted (Some ct) by cts
action_counts (Set ct to) cts = changed ct (λ (c : Count). to) cts
action_counts _ cts = cts

-- the counting event that it counts on
abbrev pub action_counter : TriggeredOp → Option Handle
action_counter (Inc ct by) = Some ct
action_counter (Set ct to) = Some ct
action_counter _ = None
