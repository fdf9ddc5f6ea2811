-- Numbers of messages on lanes.
use Rattle.std.specs.Prelude.{ℕ, ◌≡◌, List, map}
use mathlib.Core.Option.{some}
use lib.ListN.{get_elem?}
use Rattle.ptl_types.specs.declared.headers.Lane.{Lane}
use Rattle.rest_probe.specs.declared.notes.LaneCount.{LaneCount}

-- the lane with this number
abbrev pub counted : LaneCount → ℕ → LaneCount
counted c k = record c { number = k }

-- the same lanes, with no message
abbrev pub cleared : List LaneCount → List LaneCount
cleared cs = map (λ c. counted c 0) cs

-- the list tells this number of a lane
pub record Tells (cs : List LaneCount) (r : ℕ) (lane : Lane) (k : ℕ) : Type 0 where
  pub at : ℕ
  pub there : get_elem? cs at ≡ some (record { rank = r; lane = lane; number = k })

-- it tells none
abbrev pub TellsNone : List LaneCount → ℕ → Lane → Type 0
TellsNone cs r lane = (i : ℕ) (c : LaneCount) → get_elem? cs i ≡ some c → c.rank ≡ r → c.lane ≡ lane → ⊥
