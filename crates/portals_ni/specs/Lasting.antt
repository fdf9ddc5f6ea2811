-- What holds of an interface in every state that its calls leave.
use Rattle.std.specs.Prelude.{◌≡◌, ◌<◌, ◌≤◌, ◌^◌, true, false, length, Option, Some, None, All, AllPairs}
use Rattle.ptl_types.specs.declared.handles.Handle.{Handle}
use Rattle.ptl_types.specs.declared.handles.Count.{Count}
use Rattle.ptl_types.specs.Handles.{top}
use Rattle.ni_model.specs.declared.Bound.{Bound}
use Rattle.ni_model.specs.declared.Linked.{Linked}
use Rattle.ni_model.specs.Tables.{Live, Table, lookup, is_live, is_live_or_none}
use Rattle.ni_model.specs.Counts.{total}
use Rattle.ni_model.specs.Queues.{Waiting}
use Rattle.ni_model.specs.Lists.{Index, queue_of}
use Rattle.ni_model.specs.Conditions.{HasPartsIn, IsBoundIn, MayStart}
use Rattle.ni_model.specs.Refusals.{counts_on_live, action_fits, action_passes}
use Rattle.ni_model.specs.State.{State, Posted}

-- each table's limit is the one that `limits` tells
pub record HasLimits (s : State) : Type 0 where
  pub indices : length s.indices ≡ s.limits.pts
  pub headers : s.headers.limit ≡ s.limits.unexpected
  pub counting_events : s.cts.limit ≡ s.limits.cts
  pub queues : s.eqs.limit ≡ s.limits.eqs
  pub descriptors : s.mds.limit ≡ s.limits.mds
  pub operations : s.pending.limit ≡ s.limits.triggered

-- a fact holds of each entry of an index, in either list
abbrev pub HasEntries : (Linked → Type 0) → Option Index → Type 0
HasEntries P None = Unit {0}
HasEntries P (Some i) = All P i.priority × All P i.overflow

-- the counting event that an entry names, if it names one, is live
abbrev pub EntryIsLive : Table Count → Linked → Type 0
EntryIsLive cts x = is_live_or_none x.entry.ct cts ≡ true

-- the event queue that an index names is
abbrev pub QueueIsLive : Table Waiting → Option Index → Type 0
QueueIsLive eqs o = is_live_or_none (queue_of o) eqs ≡ true

-- both that a descriptor names are
abbrev pub BoundIsLive : Table Count → Table Waiting → Live Bound → Type 0
BoundIsLive cts eqs x = (is_live_or_none x.value.md.ct cts ≡ true) × (is_live_or_none x.value.md.eq eqs ≡ true)

-- the counting events that a pending operation waits on and counts on are
abbrev pub OperationIsLive : Table Count → Posted → Type 0
OperationIsLive cts p = (is_live p.ct cts ≡ true) × (counts_on_live p.action cts ≡ true)

-- what is named is live, so that it isn't freed
pub record NamesLive (s : State) : Type 0 where
  pub entries : All (HasEntries (EntryIsLive s.cts)) s.indices
  pub indices : All (QueueIsLive s.eqs) s.indices
  pub descriptors : All (BoundIsLive s.cts s.eqs) s.mds.live
  pub operations : All (OperationIsLive s.cts) s.pending.waiting

-- the sum of each counting event is within the range
abbrev pub SumsFit : Table Count → Type 0
SumsFit cts = (ct : Handle) (c : Count) → lookup ct cts.live ≡ Some c → total c ≤ top

-- a pending operation can be fired: it may start, what it names lies in its descriptors, and what it sets or adds fits a counter
pub record CanFire (s : State) (p : Posted) : Type 0 where
  pub may_start : MayStart p.action s.ranks s.limits
  pub fits : action_fits p.action s.mds ≡ true
  pub counts : action_passes p.action ≡ false

-- all that lasts, but for the limits
pub record Lasts (s : State) : Type 0 where
  -- the numbers of pending operations rise and were given, and no more wait than may
  pub rising : AllPairs (λ (p q : Posted). p.number < q.number) s.pending.waiting
  pub were_given : All (λ (p : Posted). p.number < s.pending.given) s.pending.waiting
  pub numbers : s.pending.given < 2 ^ 32
  pub at_most : length s.pending.waiting ≤ s.pending.limit
  -- each can be fired
  pub firing : All (CanFire s) s.pending.waiting
  -- the parts of descriptors and entries lie in the region
  pub bound : All (λ (x : Live Bound). IsBoundIn (length s.memory) x.value) s.mds.live
  pub linked : All (HasPartsIn (length s.memory)) s.indices
  -- sums are within the range, and what is named is live
  pub sums : SumsFit s.cts
  pub names : NamesLive s
