-- The time at which something comes about that waits for others.
use Rattle.std.specs.Prelude.{ℕ, ◌≡◌, ◌<◌, ◌≤◌, ◌⊎◌}

-- As soon as it may: not before `from`, nor before the time of anything that it waits for, and then at once.
pub record IsSoonest (from : ℕ) (Awaits : ℕ → Type 0) (time_of : ℕ → ℕ) (time : ℕ) : Type 0 where
  pub from_then : from ≤ time
  pub after : (m : ℕ) → Awaits m → time_of m ≤ time
  pub prompt : (time ≡ from) ⊎ ((m : ℕ) × Awaits m × (time_of m ≡ time))

-- Number m, at time a, comes before number l, at time b: at the same time the lower number is first.
abbrev pub Before : ℕ → ℕ → ℕ → ℕ → Type 0
Before a m b l = (a < b) ⊎ ((a ≡ b) × (m < l))
