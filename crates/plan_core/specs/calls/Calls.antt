-- The calls by which a rank's interface is prepared, and those that its start makes, as values (Portals 4.3).
use Rattle.std.specs.Prelude.{ℕ, ◌+◌, ◌-◌, ◌*◌, ◌^◌, List, ◌∷◌, ◌++◌, if◌then◌else◌, map}
use Rattle.ptl_types.specs.declared.headers.AckRequest.TheVariants.{NoAck, CtAck}
use Rattle.ptl_types.specs.declared.steps.PlannedOp.{PlannedOp}
use Rattle.ptl_types.specs.declared.steps.PlannedOp.TheVariants.{Send, BumpCell, BumpDone}
use Rattle.ptl_types.specs.declared.steps.Call.{Call}
use Rattle.ptl_types.specs.declared.steps.Call.TheVariants.{PtAlloc, CtDone, CtCell, MdBind, Overflow, MeAppend, Trigger}
use Rattle.plan_core.specs.Plan.{Plan, cell, link, own, is_bump}
use Rattle.plan_core.specs.Places.{start_in}
use Rattle.plan_core.specs.declared.calls.OwnCell.{OwnCell}
use Rattle.plan_core.specs.calls.RankOps.{RankOp, rank_ops, cell_of}
use Rattle.plan_core.specs.calls.RankOps.RankOp.{ForLink, ForDone}
use Rattle.plan_core.specs.calls.Bits.{bits_above, cell_bits}
use Rattle.plan_core.specs.calls.Areas.{area_length, area_start, areas_length, classes, region_length}

-- where cell c begins in its rank's region
abbrev pub cell_start : Plan → ℕ → ℕ
cell_start p c = start_in p (own p (cell p c).rank) c

-- ---- operations

-- what goes along link l: the named part of its source, to its target's class and cell, with the link's number as header data
abbrev pub send_act : Plan → ℕ → PlannedOp
send_act p l =
    Send (cell_start p (link p l).source + (link p l).source_offset) (link p l).length
    (cell p (link p l).target).rank (cell_bits p (link p l).target * 2 ^ 16 + (cell p (link p l).source).rank)
    (link p l).target_offset l (cell p (link p l).target).op (cell p (link p l).target).ty
    (if p.remote then CtAck else NoAck)

-- what an operation does
abbrev pub act_of : Plan → RankOp → PlannedOp
act_of p (ForLink l) = if is_bump (link p l).kind then BumpCell (link p l).target else send_act p l
act_of p (ForDone c) = BumpDone

-- it waits for its cell to reach its needs
abbrev pub trigger : Plan → RankOp → Call
trigger p w = Trigger (cell_of p w) (cell p (cell_of p w)).needs (act_of p w)

-- ---- entries

-- the entry of the area of a class: the bits of the cell and of the sender aren't compared
abbrev pub area_call : Plan → ℕ → ℕ → Call
area_call p r k = Overflow (area_start p r k) (area_length p r k) (bits_above k 0 * 2 ^ 16) (2 ^ 40 - 1)

-- the entry of cell c of rank r: the bits of the sender aren't compared
abbrev pub append_call : Plan → ℕ → ℕ → Call
append_call p r c = MeAppend c (start_in p (own p r) c) (cell p c).length (cell_bits p c * 2 ^ 16) (2 ^ 16 - 1)

-- the same cell as a start reads it
abbrev pub own_cell : Plan → ℕ → ℕ → OwnCell
own_cell p r c = record {
  number = c;
  start = start_in p (own p r) c;
  length = (cell p c).length;
  op = (cell p c).op;
  ty = (cell p c).ty;
  match_bits = cell_bits p c * 2 ^ 16;
  ignore_bits = 2 ^ 16 - 1;
}

-- ---- the calls of rank r, in order

-- those that prepare it: the portal table index, the areas' entries with classes rising, the done counter and the own cells' counters,
-- the whole region as a descriptor, and the triggered operations
abbrev pub prepare_calls : Plan → ℕ → List Call
prepare_calls p r =
    PtAlloc ∷ (map (area_call p r) (classes p r)
    ++ (CtDone ∷ (map CtCell (own p r)
    ++ (MdBind (region_length p r + areas_length p r) p.remote ∷ map (trigger p) (rank_ops p r)))))

-- those of its start, beside the copying: the own cells' entries
abbrev pub late_calls : Plan → ℕ → List Call
late_calls p r = map (append_call p r) (own p r)

-- the own cells, as its start reads them
abbrev pub own_cells : Plan → ℕ → List OwnCell
own_cells p r = map (own_cell p r) (own p r)
