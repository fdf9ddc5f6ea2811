-- The lanes from each rank, as an opening gathers them.
use Rattle.std.specs.Prelude.{ℕ, ◌≡◌, List, length}
use mathlib.Core.Option.{some}
use lib.ListN.{get_elem?}
use Rattle.plan_core.specs.Plan.{Plan}
use Rattle.rank_wiring.specs.declared.lanes.OutLanes.{OutLanes}
use Rattle.rank_slots.specs.Lanes.{lanes_before, lanes_from}

-- the lanes from rank s, and how many there are from the ranks below it
pub record IsFan (p : Plan) (s : ℕ) (f : OutLanes) : Type 0 where
  pub first : f.first ≡ length (lanes_before p s)
  pub lanes : f.lanes.items ≡ lanes_from p s

abbrev pub AreFans : Plan → List OutLanes → Type 0
AreFans p fans = (s : ℕ) (f : OutLanes) → get_elem? fans s ≡ some f → IsFan p s f
