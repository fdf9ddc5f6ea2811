-- The ranks of a plan as a system: each is prepared as its plan says, and its start brings what came before and appends its entries;
-- and when a rank of a plan is complete.
use Rattle.std.specs.Prelude.{ℕ, ◌+◌, ◌<◌, ◌≤◌, ◌≡◌, min, List, Some, None, [], ◌∷◌, length, count_by}
use Rattle.ptl_types.specs.declared.handles.Count.{Count}
use Rattle.ptl_types.specs.Handles.{top}
use Rattle.ptl_types.specs.Elements.{part}
use Rattle.ni_model.specs.State.{State}
use Rattle.ni_model.specs.Tables.{lookup}
use Rattle.ni_model.specs.Counts.{successes}
use Rattle.ni_model.specs.Refusals.{ct_inc_fault}
use Rattle.plan_core.specs.Plan.{Plan, cell, own}
use Rattle.plan_core.specs.Places.{start_in}
use Rattle.plan_core.specs.Values.{Inputs, value}
use Rattle.plan_core.specs.declared.calls.OwnCell.{OwnCell}
use Rattle.plan_core.specs.calls.Areas.{longest_to}
use Rattle.plan_core.specs.calls.Calls.{own_cells}
use Rattle.plan_core.specs.calls.Lanes.{is_used_lane}
use Rattle.plan_core.specs.calls.RankOps.{done_threshold}
use Rattle.cuts.specs.view.Slots.{Slots, cell_ct, counter_at, done_ct}
use Rattle.cuts.specs.view.Calls.{prepare}
use Rattle.cuts.specs.start.Start.{AreAccepted, cells_started, rank_started}
use Rattle.cuts.specs.start.Keeps.{rank_started-rank, rank_started-pending}
use Rattle.cuts.specs.histories.History.{Beginning, Local, after}
use Rattle.cuts.specs.histories.History.Local.{Start, Receive, Fire}
use Rattle.cuts.specs.histories.System.{Histories, System, state_at}
use Rattle.cuts.specs.histories.Cut.{is_received_stray}

-- ---- the ranks

-- the start of a rank with these own cells, of which `go` is the go cell, in a history
abbrev pub beginning : ℕ → Slots → List ℕ → ℕ → List OwnCell → Beginning
beginning longest k cells go own_list = record {
  by = rank_started longest k cells go own_list;
  rank = rank_started-rank longest k cells go own_list;
  pending = rank_started-pending longest k cells go own_list;
}

-- the start of rank r of a plan: cell r is its go cell
abbrev pub start_of : Plan → Slots → ℕ → Beginning
start_of p k r = beginning (longest_to p r) k (own p r) r (own_cells p r)

-- the ranks of a plan with these inputs, under the slots that their tables gave out
abbrev pub system_of : Plan → Inputs → (ℕ → Slots) → System
system_of p inputs slots = record {
  count = p.ranks;
  first = λ r. prepare p inputs (slots r) r;
  go = λ r. start_of p (slots r) r;
  used = is_used_lane p;
}

-- at each start in this history every header that is taken is used, and none of the appends is refused, nor the count
abbrev pub StartsPass : Plan → Slots → ℕ → State → List Local → Type 0
StartsPass p k r s [] = Unit {0}
StartsPass p k r s (Start ∷ es) =
    AreAccepted (longest_to p r) k (own p r) (own_cells p r) s
    × (ct_inc_fault (counter_at k (own p r) r) (successes 1) (cells_started (longest_to p r) k (own p r) (own_cells p r) s).cts ≡ None)
    × StartsPass p k r (after (start_of p k r) s Start) es
StartsPass p k r s (Receive source lane m ∷ es) = StartsPass p k r (after (start_of p k r) s (Receive source lane m)) es
StartsPass p k r s (Fire t ∷ es) = StartsPass p k r (after (start_of p k r) s (Fire t)) es

-- ---- completion

-- rank r is complete: all told and none failed, nothing pending, no header left, only strays dropped, no violation, and every own cell
-- holds its value
pub record IsComplete (p : Plan) (inputs : Inputs) (slots : ℕ → Slots) (w : Histories) (r : ℕ) : Type 0 where
  pub done : lookup (done_ct (slots r)) (state_at (system_of p inputs slots) w r).cts.live ≡ Some (successes (done_threshold p r))
  pub none_pending : (state_at (system_of p inputs slots) w r).pending.waiting ≡ []
  pub no_header : (state_at (system_of p inputs slots) w r).headers.unexpected ≡ []
  pub drops : (state_at (system_of p inputs slots) w r).drops ≡ min (count_by is_received_stray (w r)) top
  pub violations : (state_at (system_of p inputs slots) w r).violations ≡ 0
  pub cells : (c : ℕ) → c < length p.cells → (cell p c).rank ≡ r →
      part (start_in p (own p r) c) (cell p c).length (state_at (system_of p inputs slots) w r).memory ≡ value p inputs c

-- the bytes of cell c, in the memory of its rank
abbrev pub cell_bytes : Plan → Inputs → (ℕ → Slots) → Histories → ℕ → List ℕ
cell_bytes p inputs slots w c =
    part (start_in p (own p (cell p c).rank) c) (cell p c).length (state_at (system_of p inputs slots) w (cell p c).rank).memory

-- the counter of cell c has reached its needs, success and failure together
pub record CounterReached (p : Plan) (inputs : Inputs) (slots : ℕ → Slots) (w : Histories) (c : ℕ) : Type 0 where
  pub count : Count
  pub counter :
      lookup (cell_ct p (slots (cell p c).rank) c) (state_at (system_of p inputs slots) w (cell p c).rank).cts.live ≡ Some count
  pub enough : (cell p c).needs ≤ count.success + count.failure
