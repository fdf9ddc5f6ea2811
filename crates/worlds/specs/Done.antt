-- What a rank that is done is from then on.
use Rattle.std.specs.Prelude.{ℕ, ◌≡◌}
use Rattle.cuts.specs.cells.Cells.{AreValuesAt}
use Rattle.worlds.specs.Later.{IsLater}
use Rattle.worlds.specs.Standing.{IsStanding}
use Rattle.worlds.specs.World.{WorldState, memory_in, nic_in}

-- in every later world each cell of rank r holds its value
abbrev pub KeepsValues : WorldState → ℕ → Type 0
KeepsValues w r = (v : WorldState) → IsStanding v → IsLater w v → AreValuesAt w.schedule.plan w.inputs r (memory_in v r)

-- in every later world the interface of rank r is what it is now, but for the drops that it counts
abbrev pub StaysAlone : WorldState → ℕ → Type 0
StaysAlone w r =
    (v : WorldState) → IsStanding v → IsLater w v → nic_in v r ≡ record (nic_in w r) { drops = (nic_in v r).drops }
