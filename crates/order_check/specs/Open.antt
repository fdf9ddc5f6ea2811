-- What a world allows of a rank. No slots are named, since its nodes and lanes tell it.
use Rattle.std.specs.Prelude.{ℕ, false, ◌<◌, ◌≡◌, [], Option, Some, None, IsTrue, count_by, length}
use Rattle.ptl_types.specs.declared.headers.Lane.{Lane}
use Rattle.ptl_types.specs.declared.steps.LocalStep.{LocalStep}
use Rattle.ptl_types.specs.declared.steps.LocalStep.TheVariants.{Start as Starts, Receive as Receives, Fire as Fires}
use Rattle.ni_model.specs.Ready.{is_ready, target_at}
use Rattle.cuts.specs.histories.History.{is_start}
use Rattle.cuts.specs.declared.orders.Step.{Step}
use Rattle.cuts.specs.declared.orders.Step.TheVariants.{Start, Deliver, Fire}
use Rattle.worlds.specs.World.{WorldState, histories_in, nic_in, scene_in}

-- the window that no lane fills
abbrev pub widest : ℕ
widest = 18446744073709551615

-- the step of a world that rank r's local step is
abbrev pub step_at : ℕ → LocalStep → Step
step_at r Starts = Start r
step_at r (Receives s lane) = Deliver s r lane
step_at r (Fires t) = Fire r t

-- there was no start; the lane from a rank holds a message; the operation is ready
abbrev pub IsOpen : WorldState → ℕ → LocalStep → Type 0
IsOpen w r Starts = count_by is_start (histories_in w r) ≡ 0
IsOpen w r (Receives s lane) = (s < w.schedule.plan.ranks) × (0 < length ((scene_in w).held s r lane))
IsOpen w r (Fires t) = IsTrue (is_ready (nic_in w r) t)

-- the rank that the message of a step is for, if it makes one: an answer goes back to the source
abbrev pub message_for : WorldState → ℕ → LocalStep → Option ℕ
message_for w r Starts = None
message_for w r (Receives s lane) = Some s
message_for w r (Fires t) = target_at (nic_in w r) t

-- no message from rank s waits for rank r
abbrev pub HearsNoneOf : WorldState → ℕ → ℕ → Type 0
HearsNoneOf w r s = (lane : Lane) → (scene_in w).held s r lane ≡ []

-- none from the first n ranks
abbrev pub HearsNothing : WorldState → ℕ → ℕ → Type 0
HearsNothing w r n = (s : ℕ) → s < n → HearsNoneOf w r s

-- rank r has started, no operation is ready there, and no message waits for it
pub record IsQuiet (w : WorldState) (r : ℕ) : Type 0 where
  pub started : 0 < count_by is_start (histories_in w r)
  pub idle : (t : ℕ) → is_ready (nic_in w r) t ≡ false
  pub hears : HearsNothing w r w.schedule.plan.ranks
