-- A world at its opening, and after what was done with it.
use Rattle.std.specs.Prelude.{ℕ, ◌≡◌}
use Rattle.cuts.specs.view.Slots.{Slots}
use Rattle.cuts.specs.histories.Cut.{IsPrefixOf}
use Rattle.cuts.specs.orders.Chosen.{first_scene}
use Rattle.schedule_compiler.specs.Jobs.{JobOf}
use Rattle.worlds.specs.World.{AreSlots, WorldState, histories_in, scene_in}

-- a world of this job under a window, with room for so many strays, in which nothing was done and nothing is on its way
pub record IsOpened (job : JobOf) (limit room : ℕ) (w : WorldState) : Type 0 where
  pub schedule : w.schedule ≡ job.schedule
  pub inputs : w.inputs ≡ job.inputs
  pub window : w.window ≡ limit
  pub strays : w.strays ≡ room
  pub spare : w.spare ≡ room
  pub scene : scene_in w ≡ first_scene

-- of the same job under the same window; each history begins with what it was; and slots that agree with what was given by now agree
-- with what was given before
pub record IsLater (w v : WorldState) : Type 0 where
  pub schedule : v.schedule ≡ w.schedule
  pub inputs : v.inputs ≡ w.inputs
  pub window : v.window ≡ w.window
  pub spare : v.spare ≡ w.spare
  pub begins : (r : ℕ) → IsPrefixOf (histories_in w r) (histories_in v r)
  pub slots : (k : ℕ → Slots) → AreSlots v k → AreSlots w k
