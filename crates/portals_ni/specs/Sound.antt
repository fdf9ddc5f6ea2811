-- What is seen of an interface, and what it keeps.
use Rattle.std.specs.Prelude.{◌≡◌, ◌≤◌, ℕ, nat_le, true, false, List, length, Some, option_map, All}
use Rattle.ptl_types.specs.declared.handles.Count.{Count}
use Rattle.ptl_types.specs.declared.calls.Limits.{Limits}
use Rattle.ni_model.specs.declared.Bound.{Bound}
use Rattle.ni_model.specs.Tables.{Table, lookup}
use Rattle.ni_model.specs.Counts.{total}
use Rattle.ni_model.specs.Queues.{Waiting}
use Rattle.ni_model.specs.Arrive.{Side}
use Rattle.ni_model.specs.Conditions.{HasPartsIn, MayStart}
use Rattle.ni_model.specs.Refusals.{action_fits, action_passes}
use Rattle.ni_model.specs.State.{State}
use Rattle.initiator_engine.specs.Initiators.{Initiating, AreBoundIn, room_for}
use Rattle.triggered_ops.specs.Operations.{Operation, Operations, posted_all}
use Rattle.portals_ni.specs.declared.posted_op.PostedOp.{PostedOp}
use Rattle.portals_ni.specs.Pendings.{action_in}
use Rattle.portals_ni.specs.Lasting.{HasLimits, SumsFit, NamesLive}

-- the model's state of the parts: of the pending operations, not whether they are due, nor their room
abbrev pub state_of : Side → List ℕ → Table Count → Table Waiting → Initiating → Operations PostedOp → ℕ → ℕ → State
state_of t memory cts eqs i ops drops violations = record {
  rank = t.rank;
  ranks = i.ranks;
  limits = record i.limits { entries = t.limit };
  memory = memory;
  indices = t.indices;
  entries_given = t.given;
  headers = t.headers;
  cts = cts;
  eqs = eqs;
  mds = i.mds;
  pending = posted_all action_in ops;
  drops = drops;
  violations = violations;
}

-- a pending operation may start, what it names lies in its descriptors, its bytes have room, and what it sets fits a counter
pub record IsArmed (mds : Table Bound) (ranks : ℕ) (limits : Limits) (a : PostedOp) : Type 0 where
  pub fits : action_fits a.action mds ≡ true
  pub may : MayStart a.action ranks limits
  pub room : room_for a.action ≤ a.room.room
  pub counts : action_passes a.action ≡ false

-- its counting event is live, and it is due where that has reached its threshold
abbrev pub IsTold : Table Count → Operation PostedOp → Type 0
IsTold cts w = option_map (λ c. nat_le w.threshold (total c)) (lookup w.ct cts.live) ≡ Some w.due

-- what an interface keeps of its parts, and so what each of its calls may rely on
pub record IsSound (t : Side) (memory : List ℕ) (cts : Table Count) (i : Initiating) (ops : Operations PostedOp) : Type 0 where
  -- both engines have the same rank and limits
  pub rank : i.rank ≡ t.rank
  pub limit : i.limits.entries ≡ t.limit
  -- the parts of entries and descriptors lie in the region
  pub parts : All (HasPartsIn (length memory)) t.indices
  pub bound : AreBoundIn (length memory) i.mds
  -- every pending operation can be fired, and is due by how far its counting event is
  pub armed : All (λ w. IsArmed i.mds i.ranks i.limits w.action) ops.waiting
  pub told : All (IsTold cts) ops.waiting

-- and of its whole state
pub record Stands (s : State) : Type 0 where
  -- each table has its limit
  pub limits : HasLimits s
  -- the sums of counting events are within the range
  pub sums : SumsFit s.cts
  -- what is named is live
  pub names : NamesLive s

-- both
pub record IsWhole (t : Side) (memory : List ℕ) (cts : Table Count) (eqs : Table Waiting) (i : Initiating) (ops : Operations PostedOp)
    (drops violations : ℕ) : Type 0 where
  pub sound : IsSound t memory cts i ops
  pub stands : Stands (state_of t memory cts eqs i ops drops violations)
