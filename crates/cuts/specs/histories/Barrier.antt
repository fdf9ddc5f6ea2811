-- Barriers (MPI, barrier synchronization): no member of a group passes one before every member has entered it.
use Rattle.std.specs.Prelude.{ℕ, ◌<◌}
use Rattle.plan_core.specs.Plan.{Plan}
use Rattle.plan_core.specs.Values.{Inputs}
use Rattle.cuts.specs.view.Slots.{Slots}
use Rattle.cuts.specs.histories.System.{Histories}
use Rattle.cuts.specs.histories.Plans.{CounterReached}

-- `round k m` is the cell of the member at place m in round k: the entry in round 0, the exit in the last

-- the member at place m has entered: its entry's counter has reached its needs
abbrev pub HasEntered : Plan → Inputs → (ℕ → Slots) → Histories → (ℕ → ℕ → ℕ) → ℕ → Type 0
HasEntered p inputs slots w round m = CounterReached p inputs slots w (round 0 m)

-- it has passed: its exit's has
abbrev pub HasPassed : Plan → Inputs → (ℕ → Slots) → Histories → (ℕ → ℕ → ℕ) → ℕ → ℕ → Type 0
HasPassed p inputs slots w round rounds m = CounterReached p inputs slots w (round rounds m)

-- if one of so many members has passed the barrier, every one has entered it
abbrev pub IsBarrierKept : Plan → Inputs → (ℕ → Slots) → Histories → ℕ → (ℕ → ℕ → ℕ) → ℕ → Type 0
IsBarrierKept p inputs slots w places round rounds =
    (a m : ℕ) → a < places → m < places → HasPassed p inputs slots w round rounds m → HasEntered p inputs slots w round a
