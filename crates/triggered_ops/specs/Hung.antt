-- On which list of places an operation hangs. No public clause cites this module.
use Rattle.std.specs.Prelude.{◌≡◌, ℕ, ⊤, Bool, true, false, nat_eq, ◌+◌, ◌*◌, ◌/◌, ◌^◌, ◌<◌, ◌≤◌, AllPairs, All, List, [], ◌∷◌, ◌++◌}
use Rattle.std.specs.Prelude.{length, map}
use Rattle.std.specs.Prelude.{Option, Some, None, IsSome, IfSome, if◌then◌else◌, slice_get}
use Rattle.ptl_types.specs.declared.handles.Handle.{Handle}
use Rattle.ptl_types.specs.Handles.{same_handle}
use Rattle.chain_list.specs.threads.Threads.{Woven, thread, is_on, first_place, place_after, placed_after}
use Rattle.triggered_ops.specs.declared.spots.Wait.{Wait}
use Rattle.triggered_ops.specs.Operations.{told_if, waits_on}
use Rattle.triggered_ops.specs.Layout.{Spotted, numbers_of, operations_in, wait_at}

abbrev pub is_stamp : Option ℕ → ℕ → Bool
is_stamp None stamp = false
is_stamp (Some s) stamp = nat_eq s stamp

-- the lists of its slot are this counting event's
abbrev pub belongs : List ℕ → Handle → Bool
belongs stamps ct = is_stamp (slice_get stamps ct.slot) ct.stamp

-- the list of those that are due, then that of those that aren't, for each slot; and one for all whose counting event has none
abbrev pub home : List ℕ → Handle → Bool → ℕ
home stamps ct due = if belongs stamps ct then 2 * ct.slot + (if due then 0 else 1) else 2 * length stamps

abbrev pub is_home : List ℕ → ℕ → Option Wait → Bool
is_home stamps k None = false
is_home stamps k (Some x) = nat_eq (home stamps x.ct x.due) k

abbrev pub threshold_of : Option Wait → ℕ
threshold_of None = 0
threshold_of (Some x) = x.threshold

-- the thresholds of these places rise
abbrev pub Ascending : (ℕ → Option Wait) → List ℕ → Type 0
Ascending at [] = ⊤
Ascending at (p ∷ ps) = ((q : ℕ) → is_on q ps ≡ true → threshold_of (at p) ≤ threshold_of (at q)) × Ascending at ps

-- each operation hangs on its list, and the lists of a slot are in the order of the thresholds, the due ones first
pub record IsHung (at : ℕ → Option Wait) (w : Woven) (stamps : List ℕ) : Type 0 where
  pub many : length w.threads ≡ 2 * length stamps + 1
  pub hung : (k p : ℕ) → is_on p (thread k w) ≡ is_home stamps k (at p)
  pub ordered : (j : ℕ) → j < length stamps → Ascending at (thread (2 * j) w ++ thread (2 * j + 1) w)

-- it waits on this counting event
abbrev pub WaitsOn : Handle → Option Wait → Type 0
WaitsOn ct None = ⊥
WaitsOn ct (Some x) = same_handle x.ct ct ≡ true

-- it is so of each that waits on this counting event
abbrev pub EachOn : Handle → (Wait → Type 0) → (ℕ → Option Wait) → Type 0
EachOn ct P at = (p : ℕ) (x : Wait) → at p ≡ Some x → same_handle x.ct ct ≡ true → P x

-- what is due of the same counting event as this one isn't above it, and what isn't due isn't below it
abbrev pub IsLow : Wait → (ℕ → Option Wait) → Type 0
IsLow it at = EachOn it.ct (λ x. it.due ≡ true → x.due ≡ false → it.threshold ≤ x.threshold) at

abbrev pub IsHigh : Wait → (ℕ → Option Wait) → Type 0
IsHigh it at = EachOn it.ct (λ x. it.due ≡ false → x.due ≡ true → x.threshold ≤ it.threshold) at

-- told this sum of a counting event, these operations become what those become
abbrev pub AreToldAlike : {D : Type 0} → Handle → ℕ → Spotted D → Spotted D → Type 0
AreToldAlike ct sum old new = map (told_if (waits_on ct) sum) (operations_in new.spots) ≡ map (told_if (waits_on ct) sum)
    (operations_in old.spots)

-- the places after one of a list, or all
abbrev pub rest_after : Option ℕ → List ℕ → List ℕ
rest_after None ps = ps
rest_after (Some q) [] = []
rest_after (Some q) (p ∷ ps) = if nat_eq p q then ps else rest_after (Some q) ps

-- the one that comes next
abbrev pub next_in : Option ℕ → List ℕ → Option ℕ
next_in None ps = first_place ps
next_in (Some q) ps = place_after q ps

-- a place, or the beginning, behind which a place is put so that those before it have lower or equal thresholds and those behind it
-- higher or equal ones
pub record IsGap (at : ℕ → Option Wait) (threshold : ℕ) (after : Option ℕ) (ps : List ℕ) : Type 0 where
  pub before : List ℕ
  pub behind : List ℕ
  pub is : ps ≡ before ++ behind
  pub put : (p : ℕ) → placed_after after p ps ≡ before ++ p ∷ behind
  pub there : IfSome after (λ q. is_on q ps ≡ true)
  pub below : (q : ℕ) → is_on q before ≡ true → threshold_of (at q) ≤ threshold
  pub above : (q : ℕ) → is_on q behind ≡ true → threshold ≤ threshold_of (at q)

-- the places before `kept` are laid, those up to `place` are free
pub record IsPacking {D : Type 0} (s : Spotted D) (w : Woven) (stamps : List ℕ) (kept place : ℕ) : Type 0 where
  pub hung : IsHung (wait_at s.spots) w stamps
  pub at_most : length stamps ≤ 2 ^ 27
  pub order : kept ≤ place
  pub within : place ≤ length s.spots
  pub long : length s.spots ≤ w.places
  pub laid : (q : ℕ) → q < kept → IsSome (wait_at s.spots q)
  pub free : (q : ℕ) → kept ≤ q → q < place → wait_at s.spots q ≡ None

-- numbers of which some are gone
pub record IsThinner (old new : List ℕ) : Type 0 where
  pub rising : AllPairs (λ a b. a < b) old → AllPairs (λ a b. a < b) new
  pub below : (n : ℕ) → All (λ a. a < n) old → All (λ a. a < n) new

-- the other places keep their numbers, and their room
pub record IsSame {D : Type 0} (old new : Spotted D) : Type 0 where
  pub numbers : numbers_of new.spots ≡ numbers_of old.spots
  pub room : new.room ≡ old.room

pub record IsLaid {D : Type 0} (s : Spotted D) (w : Woven) (stamps : List ℕ) (given limit : ℕ) : Type 0 where
  pub rising : AllPairs (λ a b. a < b) (numbers_of s.spots)
  pub below : All (λ n. n < given) (numbers_of s.spots)
  pub limited : length (operations_in s.spots) ≤ limit
  pub fits : length s.spots ≤ s.room
  pub hung : IsHung (wait_at s.spots) w stamps
  pub places : w.places ≡ s.room
  pub room : s.room ≡ limit + limit / 4
  pub small : limit ≤ 2 ^ 27
  pub at_most : length stamps ≤ 2 ^ 27
