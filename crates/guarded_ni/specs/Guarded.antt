-- What a call owes that tests its conditions itself.
use Rattle.std.specs.Prelude.{ℕ, ◌<◌, ◌≤◌, ◌≡◌, Option, Some, None, Result, Ok, Err}
use Rattle.ptl_types.specs.declared.calls.Limits.{Limits}
use Rattle.ptl_types.specs.declared.calls.NiFault.{NiFault}
use Rattle.ptl_types.specs.declared.calls.NiFault.TheVariants.{NoMemory}
use Rattle.ni_model.specs.State.{State}
use Rattle.portals_ni.specs.Fit.{FitLimits}
use Rattle.guarded_ni.specs.declared.faults.CallFault.{CallFault}
use Rattle.guarded_ni.specs.declared.faults.CallFault.TheVariants.{Misused, Refused}
use Rattle.guarded_ni.specs.declared.faults.Misuse.{Misuse}
use Rattle.guarded_ni.specs.declared.faults.Misuse.TheVariants.{UnfitLimits, UnknownRank}

-- where its arguments break a rule that is said, and nothing changed; else it answers as the interface does
pub data Guards {A : Type 0} (misuse : Option Misuse) (old new : State) (made : Result A NiFault → Type 0)
    : Result A CallFault → Type 0 where
  Answers : (x : A) → misuse ≡ None → made (Ok x) → Guards misuse old new made (Ok x)
  Refuses : (fault : NiFault) → misuse ≡ None → made (Err fault) → Guards misuse old new made (Err (Refused fault))
  Misuses : (m : Misuse) → misuse ≡ Some m → new ≡ old → Guards misuse old new made (Err (Misused m))

-- the same of a call that the interface never refuses
pub data Tests {A : Type 0} (misuse : Option Misuse) (old new : State) (made : A → Type 0) : Result A Misuse → Type 0 where
  Answered : (x : A) → misuse ≡ None → made x → Tests misuse old new made (Ok x)
  Misused_by : (m : Misuse) → misuse ≡ Some m → new ≡ old → Tests misuse old new made (Err m)

-- why an interface wasn't opened: the rank is none of them, or else the limits don't fit, or else there was no memory
abbrev pub NotOpened : ℕ → ℕ → Limits → CallFault → Type 0
NotOpened rank ranks limits (Misused UnknownRank) = ranks ≤ rank
NotOpened rank ranks limits (Misused UnfitLimits) = (rank < ranks) × (FitLimits limits → ⊥)
NotOpened rank ranks limits (Refused NoMemory) = (rank < ranks) × FitLimits limits
NotOpened rank ranks limits _ = ⊥
