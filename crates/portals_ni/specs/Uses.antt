-- What pending operations name, counted by slot.
use Rattle.std.specs.Prelude.{ℕ, ◌+◌, Option, Some, None, List, sum_by}
use Rattle.ptl_types.specs.declared.handles.Handle.{Handle}
use Rattle.ptl_types.specs.declared.calls.TriggeredOp.{TriggeredOp}
use Rattle.ptl_types.specs.declared.calls.TriggeredOp.TheVariants.{Put, Get, Atomic, FetchAtomic, Swap}
use Rattle.triggered_ops.specs.Operations.{Operation, Operations}
use Rattle.ni_objects.specs.users.Rows.{one_if_slot, one_at, incremented, decremented, more, fewer, Counts, IsAlone}
use Rattle.portals_ni.specs.declared.posted_op.PostedOp.{PostedOp}
use Rattle.portals_ni.specs.Answers.{action_counter}

-- the descriptor of an action's put arguments, if it has any
abbrev pub put_md : TriggeredOp → Option Handle
put_md (Put a) = Some a.md
put_md (Atomic a op ty) = Some a.md
put_md (FetchAtomic g a op ty) = Some a.md
put_md (Swap g a op ty operand) = Some a.md
put_md _ = None

-- and that of its get arguments
abbrev pub get_md : TriggeredOp → Option Handle
get_md (Get g) = Some g.md
get_md (FetchAtomic g a op ty) = Some g.md
get_md (Swap g a op ty operand) = Some g.md
get_md _ = None

-- how often an operation names a counting event of the slot k: it waits on one, and may count on one
abbrev pub ct_uses : ℕ → Operation PostedOp → ℕ
ct_uses k p = one_if_slot p.ct.slot k + one_at (action_counter p.action.action) k

-- how often it names a descriptor of the slot k
abbrev pub md_uses : ℕ → Operation PostedOp → ℕ
md_uses k p = one_at (get_md p.action.action) k + one_at (put_md p.action.action) k

-- the rows count these
pub record AreUsed (ops : Operations PostedOp) (cts mds : List ℕ) : Type 0 where
  pub counters : Counts (λ k. sum_by (ct_uses k) ops.waiting) cts
  pub descriptors : Counts (λ k. sum_by (md_uses k) ops.waiting) mds

-- ---- the rows, as an operation comes and goes

abbrev pub cts_with : Handle → TriggeredOp → List ℕ → List ℕ
cts_with ct d row = more (action_counter d) (incremented ct.slot row)

abbrev pub mds_with : TriggeredOp → List ℕ → List ℕ
mds_with d row = more (put_md d) (more (get_md d) row)

abbrev pub cts_without : Handle → TriggeredOp → List ℕ → List ℕ
cts_without ct d row = fewer (action_counter d) (decremented ct.slot row)

abbrev pub mds_without : TriggeredOp → List ℕ → List ℕ
mds_without d row = fewer (put_md d) (fewer (get_md d) row)

-- ---- an operation names no other thing of a slot

abbrev pub CtsAlone : Handle → Operation PostedOp → Type 0
CtsAlone ct p = IsAlone ct (Some p.ct) × IsAlone ct (action_counter p.action.action)

abbrev pub MdsAlone : Handle → Operation PostedOp → Type 0
MdsAlone md p = IsAlone md (get_md p.action.action) × IsAlone md (put_md p.action.action)
