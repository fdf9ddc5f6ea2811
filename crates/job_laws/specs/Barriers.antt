-- The barriers of a shape, and the order of its steps.
use Rattle.std.specs.Prelude.{ℕ, ◌≡◌, ◌<◌, length}
use Rattle.plan_core.specs.Values.{Inputs}
use Rattle.cuts.specs.view.Slots.{Slots}
use Rattle.cuts.specs.histories.Barrier.{HasEntered, IsBarrierKept}
use Rattle.cuts.specs.histories.Plans.{CounterReached}
use Rattle.cuts.specs.histories.System.{Histories}
use Rattle.coll_shape.specs.declared.types.CollStep.TheVariants.{Barrier}
use Rattle.coll_shape.specs.Outline.{Outline, group_at, step_at}
use Rattle.plan_steps.specs.StepContext.{in_row}
use Rattle.plan_steps.specs.Rounds.{rounds}
use Rattle.schedule_compiler.specs.shapes.Drawing.{drawn_upto, plan_of}
use Rattle.plan_steps.specs.Drawing.{site}
use Rattle.job_laws.specs.steps.Order.{IsAt, entry_cell, exit_cell}

-- ---- a rank's steps
-- the steps of each rank follow each other: where its entry of a step has reached its needs, the rank has started, and so have its exits
-- of all earlier steps of which it is a member; and no exit has before its entry
pub record AreStepsInOrder (o : Outline) (inputs : Inputs) (slots : ℕ → Slots) (w : Histories) : Type 0 where
  pub begun : (k i r : ℕ) → IsAt o k i r → CounterReached (plan_of o) inputs slots w (entry_cell o k i)
      → CounterReached (plan_of o) inputs slots w r
  pub through : (k i r : ℕ) → IsAt o k i r → CounterReached (plan_of o) inputs slots w (exit_cell o k i)
      → CounterReached (plan_of o) inputs slots w (entry_cell o k i)
  pub next : (j k i m r : ℕ) → j < k → IsAt o j i r → IsAt o k m r → CounterReached (plan_of o) inputs slots w (entry_cell o k m)
      → CounterReached (plan_of o) inputs slots w (exit_cell o j i)

-- ---- barriers
-- the cell of the member at place m of step j's group, in round k of the barrier
abbrev pub barrier_cell : Outline → ℕ → ℕ → ℕ → ℕ
barrier_cell o j k m = in_row (site o (drawn_upto o j) Barrier (group_at o j)) k m

-- what comes after a barrier comes after it: where a member's entry of a later step has reached its needs, every member has entered the
-- barrier
abbrev pub IsBarrierFirst : Outline → Inputs → (ℕ → Slots) → Histories → ℕ → Type 0
IsBarrierFirst o inputs slots w j =
    (k i m r a : ℕ) → j < k → IsAt o j m r → IsAt o k i r → a < length (group_at o j) →
    CounterReached (plan_of o) inputs slots w (entry_cell o k i) → HasEntered (plan_of o) inputs slots w (barrier_cell o j) a

-- each barrier is kept by the members of its group: if one has passed it, or has entered a step behind it, every one has entered it
abbrev pub AreBarriersKept : Outline → Inputs → (ℕ → Slots) → Histories → Type 0
AreBarriersKept o inputs slots w =
    (j : ℕ) → j < length o.steps → step_at o j ≡ Barrier →
    IsBarrierKept (plan_of o) inputs slots w (length (group_at o j)) (barrier_cell o j) (rounds (length (group_at o j)))
    × IsBarrierFirst o inputs slots w j
