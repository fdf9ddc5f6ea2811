-- The verdict on given lists.
use Rattle.std.specs.Prelude.{ℕ, false, ◌+◌, ◌<◌, ◌≡◌, ◌⊎◌, List, map, length, count_by}
use Rattle.ptl_types.specs.declared.headers.Lane.{Lane}
use Rattle.ni_model.specs.Ready.{is_ready}
use Rattle.cuts.specs.histories.History.{got, is_start}
use Rattle.cuts.specs.histories.System.{Histories, System, sent_by, state_at}
use Rattle.cuts.specs.orders.Taking.{IsNext, IsTaken, Lists, Move, histories, listed}
use Rattle.ptl_types.specs.declared.steps.Cause.{Cause}
use Rattle.ptl_types.specs.declared.steps.Cause.TheVariants.{StartedTwice, NotSent, NotReady, NotAtRest}
use Rattle.ptl_types.specs.declared.steps.LocalStep.{LocalStep}
use Rattle.ptl_types.specs.declared.steps.LocalStep.TheVariants.{Start, Receive, Fire}
use Rattle.cuts.specs.declared.orders.Verdict.{Verdict}
use Rattle.cuts.specs.declared.orders.Verdict.TheVariants.{Holds, Fails}

-- rank r's list is wholly taken
abbrev pub IsWhole : Lists → Histories → ℕ → Type 0
IsWhole lists w r = map listed (w r) ≡ lists r

-- rank r has started, no operation is ready there, and no message waits for it
pub record Rests (k : System) (w : Histories) (r : ℕ) : Type 0 where
  pub started : 0 < count_by is_start (w r)
  pub idle : (t : ℕ) → is_ready (state_at k w r) t ≡ false
  pub empty : (s : ℕ) (lane : Lane) → s < k.count → got (w r) s lane ≡ sent_by k w s r lane

-- why a listed step isn't taken
abbrev pub cause_of : LocalStep → Cause
cause_of Start = StartedTwice
cause_of (Receive s lane) = NotSent
cause_of (Fire t) = NotReady

-- rank r is the lowest whose list isn't wholly taken, and e its next step
pub record Stops (lists : Lists) (w : Histories) (r : ℕ) (e : LocalStep) : Type 0 where
  pub lower : (q : ℕ) → q < r → IsWhole lists w q
  pub next : IsNext lists w r e

-- all lists are wholly taken, and rank r is the lowest that doesn't rest
pub record Waits (k : System) (lists : Lists) (w : Histories) (r : ℕ) : Type 0 where
  pub whole : (q : ℕ) → q < k.count → IsWhole lists w q
  pub lower : (q : ℕ) → q < r → Rests k w q
  pub restless : Rests k w r → ⊥

-- what is said of histories that were taken of the lists
abbrev pub Says : System → Lists → Histories → Verdict → Type 0
Says k lists w Holds = (r : ℕ) → r < k.count → IsWhole lists w r × Rests k w r
Says k lists w (Fails r place cause) = (r < k.count) × (place ≡ length (w r) + 1)
    × (((e : LocalStep) × Stops lists w r e × (cause ≡ cause_of e)) ⊎ (Waits k lists w r × (cause ≡ NotAtRest)))

-- the verdict: what is said of what is taken
pub record IsVerdict (k : System) (lists : Lists) (verdict : Verdict) : Type 0 where
  pub moves : List Move
  pub taken : IsTaken k lists moves
  pub says : Says k lists (histories moves) verdict
