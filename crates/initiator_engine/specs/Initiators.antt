-- What an initiator is seen as, and what its calls ask for and answer.
use Rattle.std.specs.Prelude.{ℕ, ◌≡◌, ◌≤◌, Bool, true, false, List, [], length, Option, Some, None, Result, Ok, Err, All}
use Rattle.ptl_types.specs.declared.handles.Handle.{Handle}
use Rattle.ptl_types.specs.declared.calls.Limits.{Limits}
use Rattle.ptl_types.specs.declared.calls.NiFault.{NiFault}
use Rattle.ptl_types.specs.declared.calls.Outcome.{Outcome}
use Rattle.ptl_types.specs.declared.calls.PutArgs.{PutArgs}
use Rattle.ptl_types.specs.declared.calls.TriggeredOp.{TriggeredOp}
use Rattle.ptl_types.specs.declared.calls.TriggeredOp.TheVariants.{Put, Get, Atomic, FetchAtomic, Swap, Inc, Set}
use Rattle.ptl_types.specs.Messages.{Sent}
use Rattle.ni_model.specs.declared.Bound.{Bound}
use Rattle.ni_model.specs.Tables.{Table, Live, lookup}
use Rattle.ni_model.specs.Answers.{Home, Returned}
use Rattle.ni_model.specs.Starts.{Started, bytes_at}
use Rattle.ni_model.specs.Refusals.{put_fits}
use Rattle.ni_model.specs.Conditions.{IsBoundIn}
use Rattle.ni_objects.specs.users.Rows.{one_at, Counts}
use Rattle.ni_objects.specs.users.Sums.{sum_of, named_as}

-- its rank, the number of ranks, its limits, and the memory descriptors with the answers that each awaits
pub record Initiating : Type 0 where
  pub rank : ℕ
  pub ranks : ℕ
  pub limits : Limits
  pub mds : Table Bound

-- the four together
abbrev pub initiating : ℕ → ℕ → Limits → Table Bound → Initiating
initiating rank ranks limits mds = record { rank = rank; ranks = ranks; limits = limits; mds = mds }

-- the same with these descriptors
abbrev pub with_mds : Table Bound → Initiating → Initiating
with_mds mds i = record i { mds = mds }

-- every descriptor's part lies in the region
abbrev pub AreBoundIn : ℕ → Table Bound → Type 0
AreBoundIn size mds = All (λ (x : Live Bound). IsBoundIn size x.value) mds.live

-- refused by a fault, where there is one
abbrev pub by_fault : Option NiFault → Result (Unit {0}) NiFault
by_fault None = Ok tt
by_fault (Some fault) = Err fault

-- the action starts an operation; the others count
abbrev pub is_start : TriggeredOp → Bool
is_start (Inc ct by) = false
is_start (Set ct to) = false
is_start _ = true

-- the room that a start needs: for the bytes that it sends, and of a get for the reply
abbrev pub room_for : TriggeredOp → ℕ
room_for (Put a) = a.length
room_for (Get g) = g.length
room_for (Atomic a op ty) = a.length
room_for (FetchAtomic g a op ty) = a.length
room_for (Swap g a op ty operand) = a.length
room_for _ = 0

-- the part that put arguments name, where there are some
abbrev pub args_fit : Option PutArgs → Table Bound → Bool
args_fit None mds = true
args_fit (Some a) mds = put_fits a mds

-- how many bytes are sent; none where there are no put arguments
abbrev pub args_length : Option PutArgs → ℕ
args_length None = 0
args_length (Some a) = a.length

-- the bytes that are sent, as the region has them
abbrev pub args_bytes : Option PutArgs → Table Bound → List ℕ → List ℕ
args_bytes None mds memory = []
args_bytes (Some a) mds memory = bytes_at (lookup a.md mds.live) a.local_offset a.length memory

-- a start that sent this message, as `started` has it
abbrev pub has_started : Home → Sent → Option Handle → Started
has_started home message counted = record { home = home; message = Some message; counted = counted }

-- an answer that came home, as `answered` has it
abbrev pub has_returned : Home → Outcome → Option Handle → Returned
has_returned home outcome counted = record { home = home; outcome = outcome; counted = counted }

-- ---- what the descriptors name

-- how many name a counting event of the slot k
abbrev pub ct_users : Table Bound → ℕ → ℕ
ct_users mds k = sum_of (λ h (b : Bound). one_at b.md.ct k) mds.live

-- how many name an event queue of the slot k
abbrev pub eq_users : Table Bound → ℕ → ℕ
eq_users mds k = sum_of (λ h (b : Bound). one_at b.md.eq k) mds.live

-- the rows count by slot the descriptors that name a counting event and a queue, and have a slot for each of these; no two
-- descriptors have one handle
pub record AreUsers (limits : Limits) (mds : Table Bound) (cts eqs : List ℕ) : Type 0 where
  pub cts_count : Counts (ct_users mds) cts
  pub eqs_count : Counts (eq_users mds) eqs
  pub cts_long : length cts ≡ limits.cts
  pub eqs_long : length eqs ≡ limits.eqs
  pub once : (h : Handle) → sum_of (named_as h) mds.live ≤ 1
