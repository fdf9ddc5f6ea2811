-- Threads as a contract sees them.
use Rattle.std.specs.Prelude.{◌≡◌, ℕ, ⊤, Bool, false, ◌||◌, nat_eq, List, [], ◌∷◌, ◌++◌, map, get_or, slice_set, Option, Some, None}
use Rattle.std.specs.Prelude.{if◌then◌else◌}

-- for each thread the places on it, in order, and below which number places lie
pub record Woven : Type 0 where
  pub threads : List (List ℕ)
  pub places : ℕ

abbrev pub woven : List (List ℕ) → ℕ → Woven
woven threads places = record { threads = threads; places = places }

-- the places on a thread, none past the last thread
abbrev pub thread : ℕ → Woven → List ℕ
thread k w = get_or w.threads k []

-- the place is one of these
abbrev pub is_on : ℕ → List ℕ → Bool
is_on place [] = false
is_on place (p ∷ ps) = nat_eq p place || is_on place ps

-- the place is on one of these threads
abbrev pub is_in : ℕ → List (List ℕ) → Bool
is_in place [] = false
is_in place (ps ∷ pss) = is_on place ps || is_in place pss

-- the place is on a thread
abbrev pub is_threaded : ℕ → Woven → Bool
is_threaded place w = is_in place w.threads

-- the place that comes first
abbrev pub first_place : List ℕ → Option ℕ
first_place [] = None
first_place (p ∷ ps) = Some p

-- the place that comes after a place
abbrev pub place_after : ℕ → List ℕ → Option ℕ
place_after place [] = None
place_after place (p ∷ ps) = if nat_eq p place then first_place ps else place_after place ps

-- the list without a place
abbrev pub without : ℕ → List ℕ → List ℕ
without place [] = []
without place (p ∷ ps) = if nat_eq p place then without place ps else p ∷ without place ps

-- the threads with a place after the last of one
abbrev pub with_place : ℕ → ℕ → Woven → Woven
with_place k place w = woven (slice_set w.threads k (thread k w ++ place ∷ [])) w.places

-- the threads without a place
abbrev pub without_place : ℕ → Woven → Woven
without_place place w = woven (map (without place) w.threads) w.places

-- the place that comes last, or what comes before the list
abbrev pub last_after : Option ℕ → List ℕ → Option ℕ
last_after before [] = before
last_after before (p ∷ ps) = last_after (Some p) ps

abbrev pub last_place : List ℕ → Option ℕ
last_place ps = last_after None ps

-- no place stands there twice
abbrev pub AreApart : List ℕ → Type 0
AreApart [] = ⊤
AreApart (p ∷ ps) = (is_on p ps ≡ false) × AreApart ps

-- the list with a place after another, or before all
abbrev pub placed_after : Option ℕ → ℕ → List ℕ → List ℕ
placed_after None place ps = place ∷ ps
placed_after (Some at) place [] = []
placed_after (Some at) place (p ∷ ps) = if nat_eq p at then p ∷ place ∷ ps else p ∷ placed_after (Some at) place ps

-- the threads with a place put so on one
abbrev pub with_place_after : ℕ → Option ℕ → ℕ → Woven → Woven
with_place_after k after place w = woven (slice_set w.threads k (placed_after after place (thread k w))) w.places
