-- What a run of a shape leaves.
use Rattle.std.specs.Prelude.{ℕ, ◌≡◌, ◌<◌, []}
use Rattle.coll_shape.specs.Outline.{Outline}
use Rattle.coll_shape.specs.Meaning.{Lists}
use Rattle.cuts.specs.view.Slots.{Slots}
use Rattle.cuts.specs.histories.Cut.{IsAtRest}
use Rattle.cuts.specs.histories.Plans.{IsComplete}
use Rattle.job_laws.specs.Results.{AreMeant}
use Rattle.worlds.specs.Standing.{IsStanding}
use Rattle.worlds.specs.World.{AreSlots, WorldState, histories_in, memory_in, ranks_in, steps_in}
use Rattle.portals_top.specs.Resting.{IsOfShape}

-- A world of the plan of this shape, which isn't refused, and of these inputs of it, at rest: whatever slots agree with what its ranks'
-- tables gave, no step is left and every rank is complete; and each buffer at each rank is what the description means.
pub record IsRun (o : Outline) (given : Lists) (w : WorldState) : Type 0 where
  pub of_shape : IsOfShape o w
  pub inputs : w.inputs ≡ given
  -- its histories are a cut
  pub standing : IsStanding w
  -- nothing of another job may come
  pub own : w.spare ≡ 0
  pub none : (slots : ℕ → Slots) → AreSlots w slots → steps_in w slots ≡ []
  pub rest : (slots : ℕ → Slots) → AreSlots w slots → IsAtRest (ranks_in w slots) (histories_in w)
  pub complete : (slots : ℕ → Slots) → AreSlots w slots → (r : ℕ) → r < w.schedule.plan.ranks →
      IsComplete w.schedule.plan w.inputs slots (histories_in w) r
  pub meant : AreMeant o given (memory_in w)
