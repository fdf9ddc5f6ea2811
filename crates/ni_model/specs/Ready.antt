-- Triggered operations: which are ready, and what the firing of one does (Portals 4.3, triggered operations).
use Rattle.std.specs.Prelude.{ℕ, Bool, false, ◌==◌, not, nat_le, List, [], ◌∷◌, ◌++◌, ◌+◌, Option, Some, None, find, filter, map}
use Rattle.ptl_types.specs.declared.handles.Handle.{Handle}
use Rattle.ptl_types.specs.declared.handles.Count.{Count}
use Rattle.ptl_types.specs.declared.calls.TriggeredOp.{TriggeredOp}
use Rattle.ptl_types.specs.declared.calls.TriggeredOp.TheVariants.{Put, Get, Atomic, FetchAtomic, Swap, Inc, Set}
use Rattle.ptl_types.specs.Handles.{same_handle}
use Rattle.ptl_types.specs.Messages.{Sent}
use Rattle.ni_model.specs.Tables.{Table, lookup, changed}
use Rattle.ni_model.specs.Counts.{total, counted}
use Rattle.ni_model.specs.Starts.{started}
use Rattle.ni_model.specs.State.{State, Posted, Operations, home_of, with_home}

-- the operation of this number
abbrev pub is_number : ℕ → Posted → Bool
is_number t p = p.number == t

-- operation t, where it waits
abbrev pub posted_at : ℕ → Operations → Option Posted
posted_at t ops = find (is_number t) ops.waiting

-- the sum of the counter is at least the threshold; a counter that isn't live reaches nothing
abbrev pub is_reached : Option Count → ℕ → Bool
is_reached None threshold = false
is_reached (Some c) threshold = nat_le threshold (total c)

-- by the counting event that it waits on
abbrev pub is_ready_op : Table Count → Option Posted → Bool
is_ready_op cts None = false
is_ready_op cts (Some p) = is_reached (lookup p.ct cts.live) p.threshold

-- operation t waits, and its counter's success and failure together are at least its threshold
abbrev pub is_ready : State → ℕ → Bool
is_ready s t = is_ready_op s.cts (posted_at t s.pending)

-- the numbers of those that are ready, rising
abbrev pub ready_numbers : State → List ℕ
ready_numbers s = filter (is_ready s) (map (λ (p : Posted). p.number) s.pending.waiting)

-- the rank that an action's message is for; none of an action that counts and sends nothing
abbrev pub message_target : TriggeredOp → Option ℕ
message_target (Put a) = Some a.target
message_target (Get g) = Some g.target
message_target (Atomic a op ty) = Some a.target
message_target (FetchAtomic g a op ty) = Some a.target
message_target (Swap g a op ty operand) = Some a.target
message_target _ = None

-- of an operation that waits
abbrev pub target_of : Option Posted → Option ℕ
target_of None = None
target_of (Some p) = message_target p.action

-- the rank that the message of operation t is for
abbrev pub target_at : State → ℕ → Option ℕ
target_at s t = target_of (posted_at t s.pending)

-- the rank named is d
abbrev pub is_rank : ℕ → Option ℕ → Bool
is_rank d None = false
is_rank d (Some r) = r == d

-- the numbers of those that are ready and whose message is for rank d, rising
abbrev pub ready_numbers_to : ℕ → State → List ℕ
ready_numbers_to d s = filter (λ t. is_rank d (target_at s t)) (ready_numbers s)

-- one operation more, the newest: its number is that of those given before
abbrev pub with_posted : TriggeredOp → Handle → ℕ → Operations → Operations
with_posted action ct threshold ops = record ops {
  waiting = ops.waiting ++ (record { number = ops.given; action = action; ct = ct; threshold = threshold }) ∷ [];
  given = ops.given + 1;
}

-- the operations without the one of this number
abbrev pub without_number : ℕ → Operations → Operations
without_number t ops = record ops { waiting = filter (λ p. not (is_number t p)) ops.waiting }

-- the state and the message after a firing
pub record Fires : Type 0 where
  pub state : State
  pub message : Option Sent

-- both together
abbrev pub fires : State → Option Sent → Fires
fires s message = record { state = s; message = message }

-- the action of an operation: a count stops at the end of the counter, and what sends reads its bytes now
abbrev pub done : State → TriggeredOp → Fires
done s (Inc ct by) = fires (record s { cts = counted (Some ct) by s.cts }) None
done s (Set ct to) = fires (record s { cts = changed ct (λ (c : Count). to) s.cts }) None
done s d = let r = started s.rank (home_of s) d in fires (with_home r.home s) r.message

-- where it waits
abbrev pub fired_op : State → Option Posted → Fires
fired_op s None = fires s None
fired_op s (Some p) = done (record s { pending = without_number p.number s.pending }) p.action

-- the operation no longer waits, and its action is done
unfoldable pub fired : State → ℕ → Fires
fired s t = fired_op s (posted_at t s.pending)

-- ---- what the waiting operations name

-- the operation waits on this counting event
abbrev pub waits_on : Handle → Posted → Bool
waits_on ct p = same_handle p.ct ct

-- the operations that do not
abbrev pub cancelled : Handle → Operations → Operations
cancelled ct ops = record ops { waiting = filter (λ p. not (waits_on ct p)) ops.waiting }
