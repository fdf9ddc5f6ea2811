-- Work that is under way: some listed steps were taken, and the ranks to look at again are queued.
use Rattle.std.specs.Prelude.{ℕ, ◌+◌, ◌*◌, ◌<◌, ◌≡◌, ◌⊎◌, ◌==◌, Bool, false, List, length}
use Rattle.ptl_types.specs.declared.steps.LocalStep.{LocalStep}
use Rattle.ptl_types.specs.declared.steps.LocalStep.TheVariants.{Receive}
use Rattle.plan_core.specs.Members.{In}
use Rattle.cuts.specs.view.Slots.{Slots}
use Rattle.cuts.specs.orders.Ending.{untaken}
use Rattle.cuts.specs.orders.Reached.{IsReached}
use Rattle.cuts.specs.orders.Taking.{IsNext, Lists}
use Rattle.cuts.specs.orders.Verdict.{Stops, cause_of}
use Rattle.cuts.specs.declared.orders.Verdict.{Verdict}
use Rattle.cuts.specs.declared.orders.Verdict.TheVariants.{Fails}
use Rattle.worlds.specs.Standing.{IsStanding}
use Rattle.worlds.specs.World.{AreSlots, WorldState, histories_in, ranks_in, scene_in}
use Rattle.order_check.specs.Listing.{IsListed}
use Rattle.order_check.specs.Open.{IsOpen, widest}

-- a world in which listed steps were made and no others, whatever slots will be given
pub record IsDriven (w : WorldState) (lists : Lists) : Type 0 where
  pub standing : IsStanding w
  pub wide : w.window ≡ widest
  pub reached : (slots : ℕ → Slots) → AreSlots w slots → IsReached (ranks_in w slots) (scene_in w).world (scene_in w).held
  pub listed : (r : ℕ) → r < w.schedule.plan.ranks → IsListed lists (histories_in w) r

-- rank r's next listed step isn't allowed, or there is none
abbrev pub IsStuckIn : WorldState → Lists → ℕ → Type 0
IsStuckIn w lists r = (e : LocalStep) → IsNext lists (histories_in w) r e → IsOpen w r e → ⊥

-- a rank that isn't queued is stuck
pub record IsWork (w : WorldState) (lists : Lists) (queue : List ℕ) : Type 0 where
  pub driven : IsDriven w lists
  pub known : (r : ℕ) → In r queue → r < w.schedule.plan.ranks
  pub looked : (r : ℕ) → r < w.schedule.plan.ranks → In r queue ⊎ IsStuckIn w lists r

-- each step that isn't taken can bring one look more than it is itself
abbrev pub work_left : WorldState → Lists → List ℕ → ℕ
work_left w lists queue = 2 * untaken lists (histories_in w) w.schedule.plan.ranks + length queue

-- the receipt of a message from rank r
abbrev pub is_from : ℕ → LocalStep → Bool
is_from r (Receive s lane) = s == r
is_from r _ = false

-- the failure of the lowest rank whose list isn't wholly taken
pub record IsUnfinished (w : WorldState) (lists : Lists) (v : Verdict) : Type 0 where
  pub rank : ℕ
  pub step : LocalStep
  pub known : rank < w.schedule.plan.ranks
  pub stops : Stops lists (histories_in w) rank step
  pub says : v ≡ Fails rank (length (histories_in w rank) + 1) (cause_of step)
