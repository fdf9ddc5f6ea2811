-- A start leaves the rank and the pending operations as they are.
use Rattle.std.specs.Prelude.{refl, ℕ, ◌≡◌, List, Option, Some, None, [], ◌∷◌}
use Rattle.ptl_types.specs.declared.handles.Handle.{Handle}
use Rattle.ptl_types.specs.declared.calls.NiFault.{NiFault}
use Rattle.ni_model.specs.Append.{append_fault}
use Rattle.ni_model.specs.State.{State, Operations, parts_of}
use Rattle.ni_model.specs.Tables.{changed}
use Rattle.ni_model.specs.Counts.{successes, plus}
use Rattle.ni_model.specs.Refusals.{ct_inc_fault}
use Rattle.ni_model.specs.Calls.{ends_by}
use Rattle.cuts.specs.view.Slots.{Slots, counter_at}
use Rattle.plan_core.specs.declared.calls.OwnCell.{OwnCell}
use Rattle.cuts.specs.start.Start.{cell_started, cells_started, entry_of, go_raised, rank_started, with_brought}

pub ends_by-same : {A B : Type 0} (part_of : State → B) (o : Option NiFault) (old new : State) (x : A) (b : B)
    → part_of old ≡ b → part_of new ≡ b → part_of (ends_by o old new x).state ≡ b
ends_by-same part_of None old new x b e n = n
ends_by-same part_of (Some fault) old new x b e n = e

pub cell_started-rank : (longest : ℕ) (f : ℕ → ℕ) (ct : Handle) (c : OwnCell) (s : State) (b : ℕ)
    → s.rank ≡ b → (cell_started longest f ct c s).rank ≡ b
unfolding cell_started
cell_started-rank longest f ct c s b e =
    ends_by-same (λ (v : State). v.rank) (append_fault 0 (entry_of ct c) (parts_of (with_brought longest ct c s)))
    (with_brought longest ct c s) _ _ b e e

pub cell_started-pending : (longest : ℕ) (f : ℕ → ℕ) (ct : Handle) (c : OwnCell) (s : State) (b : Operations)
    → s.pending ≡ b → (cell_started longest f ct c s).pending ≡ b
unfolding cell_started
cell_started-pending longest f ct c s b e =
    ends_by-same (λ (v : State). v.pending) (append_fault 0 (entry_of ct c) (parts_of (with_brought longest ct c s)))
    (with_brought longest ct c s) _ _ b e e

pub cells_started-rank : (longest : ℕ) (k : Slots) (cells : List ℕ) (cs : List OwnCell) (s : State) (b : ℕ)
    → s.rank ≡ b → (cells_started longest k cells cs s).rank ≡ b
cells_started-rank longest k cells [] s b e = e
cells_started-rank longest k cells (c ∷ cs) s b e =
    cells_started-rank longest k cells cs (cell_started longest k.me (counter_at k cells c.number) c s) b
    (cell_started-rank longest k.me (counter_at k cells c.number) c s b e)

pub cells_started-pending : (longest : ℕ) (k : Slots) (cells : List ℕ) (cs : List OwnCell) (s : State) (b : Operations)
    → s.pending ≡ b → (cells_started longest k cells cs s).pending ≡ b
cells_started-pending longest k cells [] s b e = e
cells_started-pending longest k cells (c ∷ cs) s b e =
    cells_started-pending longest k cells cs (cell_started longest k.me (counter_at k cells c.number) c s) b
    (cell_started-pending longest k.me (counter_at k cells c.number) c s b e)

pub go_raised-same : {B : Type 0} (part_of : State → B) (go : Handle) (s : State) (b : B)
    → part_of s ≡ b → part_of (record s { cts = changed go (plus (successes 1)) s.cts }) ≡ b → part_of (go_raised go s) ≡ b
go_raised-same part_of go s b e n = ends_by-same part_of (ct_inc_fault go (successes 1) s.cts) s _ tt b e n

-- the whole start
pub rank_started-rank : (longest : ℕ) (k : Slots) (cells : List ℕ) (go : ℕ) (own : List OwnCell) (s : State)
    → (rank_started longest k cells go own s).rank ≡ s.rank
rank_started-rank longest k cells go own s =
    go_raised-same (λ (v : State). v.rank) (counter_at k cells go) (cells_started longest k cells own s) s.rank
    (cells_started-rank longest k cells own s s.rank refl) (cells_started-rank longest k cells own s s.rank refl)

pub rank_started-pending : (longest : ℕ) (k : Slots) (cells : List ℕ) (go : ℕ) (own : List OwnCell) (s : State)
    → (rank_started longest k cells go own s).pending ≡ s.pending
rank_started-pending longest k cells go own s =
    go_raised-same (λ (v : State). v.pending) (counter_at k cells go) (cells_started longest k cells own s) s.pending
    (cells_started-pending longest k cells own s s.pending refl) (cells_started-pending longest k cells own s s.pending refl)
