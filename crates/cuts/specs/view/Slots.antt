-- Handles: the tables of an interface give slots as they like, and stamps in the order of the calls.
use Rattle.std.specs.Prelude.{ℕ, suc, List}
use Rattle.ptl_types.specs.declared.handles.Handle.{Handle}
use Rattle.ni_model.specs.Tables.{handle}
use Rattle.plan_core.specs.Plan.{Plan, cell, own}
use Rattle.plan_core.specs.Places.{place_in}

-- the slots that were given out: of the counters and entries, by stamp, and of the descriptor
pub record Slots : Type 0 where
  pub ct : ℕ → ℕ
  pub me : ℕ → ℕ
  pub md : ℕ

-- the done counter is the first made
abbrev pub done_ct : Slots → Handle
done_ct s = handle (s.ct 0) 0

-- the counters of these cells come after it, in their order
abbrev pub counter_at : Slots → List ℕ → ℕ → Handle
counter_at s cells c = handle (s.ct (suc (place_in cells c))) (suc (place_in cells c))

-- the counter of a cell, among those of its rank
abbrev pub cell_ct : Plan → Slots → ℕ → Handle
cell_ct p s c = counter_at s (own p (cell p c).rank) c

-- the one descriptor
abbrev pub the_md : Slots → Handle
the_md s = handle s.md 0
