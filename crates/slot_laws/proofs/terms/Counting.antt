-- How many things of each sort a call of an interface makes, and the stamp that a new one gets.
use Rattle.std.specs.Prelude.{if◌then◌else◌, ℕ, ◌≡◌, ◌+◌, ◌<◌, Bool, true, false}
use Rattle.ptl_types.specs.Handles.{top}
use Rattle.log_answers.specs.declared.owed.Owed.{Owed}
use Rattle.log_answers.specs.declared.owed.Owed.TheVariants as owed
use Rattle.log_answers.specs.declared.owed.Sort.{Sort}
use Rattle.log_answers.specs.declared.owed.Sort.TheVariants.{Counter, Queue, Descriptor, Entry}
use Rattle.log_seats.specs.Answers.{After}
use Rattle.log_seats.specs.declared.seats.Seat.{Seat}
use Rattle.slot_laws.proofs.terms.Scenes.{given_of}

-- an answer tells of no new thing
abbrev pub makes_none : Owed → Bool
makes_none (owed.New sort h) = false
makes_none (owed.Linked h) = false
makes_none _ = true

-- both are one sort
abbrev pub same_sort : Sort → Sort → Bool
same_sort Counter Counter = true
same_sort Queue Queue = true
same_sort Descriptor Descriptor = true
same_sort Entry Entry = true
same_sort _ _ = false

-- 1 where both are one sort
abbrev pub one_of : Sort → Sort → ℕ
one_of a b = if same_sort a b then 1 else 0

-- how many things of a sort an answer tells of that are new
abbrev pub made : Sort → Owed → ℕ
made sort (owed.New other h) = one_of sort other
made sort (owed.Linked h) = one_of sort Entry
made sort _ = 0

-- what is new has the next stamp of its sort
abbrev pub IsStamped : Owed → Seat → Type 0
IsStamped (owed.New sort h) s = (h.stamp ≡ given_of sort s) × (h.stamp < top)
IsStamped (owed.Linked h) s = (h.stamp ≡ given_of Entry s) × (h.stamp < top)
IsStamped _ s = Unit {0}

-- how many were made before a call and after it
pub record Counts (s : Seat) (x : After) : Type 0 where
  pub given : (sort : Sort) → given_of sort x.seat ≡ given_of sort s + made sort x.owed
  pub stamped : IsStamped x.owed s
  pub rank : x.seat.nic.rank ≡ s.nic.rank
