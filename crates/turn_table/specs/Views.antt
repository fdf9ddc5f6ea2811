-- What a hand knows, and what becomes of it at each step.
use Rattle.std.specs.Prelude.{ℕ, zero, suc, ◌+◌, ◌-◌, ◌^◌, List, [], ◌∷◌, ◌++◌, length, map, Some, None, ◌==◌, nat_lt, cond, count_by}
use Rattle.turn_table.specs.declared.views.OpenTurn.{OpenTurn}
use Rattle.turn_table.specs.declared.views.EndedTurn.{EndedTurn}
use Rattle.turn_table.specs.declared.views.SlotView.{SlotView}
use Rattle.turn_table.specs.declared.views.HandView.{HandView}

-- the list with its element k changed
abbrev pub adjusted : {A : Type 0} → List A → ℕ → (A → A) → List A
adjusted [] k f = []
adjusted (x ∷ xs) zero f = f x ∷ xs
adjusted (x ∷ xs) (suc k) f = x ∷ adjusted xs k f

-- how often p stands in the list
abbrev pub times : ℕ → List ℕ → ℕ
times p xs = count_by (λ y. y == p) xs

-- 1 below n, and else 0
abbrev pub once_below : ℕ → ℕ → ℕ
once_below p n = cond (nat_lt p n) 1 0

-- d numbers, from a on
abbrev pub numbers_from : ℕ → ℕ → List ℕ
numbers_from a zero = []
numbers_from a (suc d) = a ∷ numbers_from (suc a) d

module _ {T : Type 0} where
  abbrev pub open_turn : ℕ → T → OpenTurn T
  open_turn k x = record { slot = k; value = x }

  abbrev pub ended_turn : T → T → EndedTurn T
  ended_turn x y = record { taken = x; given = y }

  abbrev pub places_in : List (SlotView T) → ℕ → List ℕ
  places_in [] k = []
  places_in (s ∷ ss) zero = s.places
  places_in (s ∷ ss) (suc k) = places_in ss k

  -- the places in the past of the slot k that the hand added
  abbrev pub places : HandView T → ℕ → List ℕ
  places v k = places_in v.slots k

  -- ---- how a hand begins
  abbrev pub unseen : SlotView T
  unseen = record { busy = 0; seen = []; places = [] }

  abbrev pub all_unseen : List T → List (SlotView T)
  all_unseen start = map (λ _. unseen) start

  -- the first hand has every part
  abbrev pub first_view : List T → HandView T
  first_view start = record { parts = 2 ^ 32; turn = None; slots = all_unseen start; start = start }

  -- a hand is split off: it gets one part, and nothing else changes
  abbrev pub after_split : HandView T → HandView T
  after_split v = record { parts = v.parts - 1; turn = v.turn; slots = v.slots; start = v.start }

  abbrev pub new_view : HandView T → HandView T
  new_view v = record { parts = 1; turn = None; slots = all_unseen v.start; start = v.start }

  -- ---- a turn
  abbrev pub busier_slot : SlotView T → SlotView T
  busier_slot s = record { busy = s.busy + 1; seen = s.seen; places = s.places }

  -- a try found the slot k out
  abbrev pub after_busy : HandView T → ℕ → HandView T
  after_busy v k = record { parts = v.parts; turn = v.turn; slots = adjusted v.slots k busier_slot; start = v.start }

  abbrev pub busy_in : List (SlotView T) → ℕ → ℕ
  busy_in [] k = 0
  busy_in (s ∷ ss) zero = s.busy
  busy_in (s ∷ ss) (suc k) = busy_in ss k

  -- how often a try of the hand found the slot k out
  abbrev pub busy_at : HandView T → ℕ → ℕ
  busy_at v k = busy_in v.slots k

  abbrev pub without_busy_slot : SlotView T → SlotView T
  without_busy_slot s = record { busy = 0; seen = s.seen; places = s.places }

  -- the view without the counts of busy tries
  abbrev pub without_busy : HandView T → HandView T
  without_busy v = record { parts = v.parts; turn = v.turn; slots = map without_busy_slot v.slots; start = v.start }

  -- the value x of the slot k is out with the hand
  abbrev pub after_take : HandView T → ℕ → T → HandView T
  after_take v k x = record { parts = v.parts; turn = Some (open_turn k x); slots = v.slots; start = v.start }

  module _ {I : Type 0} (past : T → List I) where
    -- x was taken and y given: the places that the past grew by are the hand's
    abbrev pub after_turn : T → T → SlotView T → SlotView T
    after_turn x y s = record {
      busy = s.busy;
      seen = ended_turn x y ∷ [];
      places = s.places ++ numbers_from (length (past x)) (length (past y) - length (past x));
    }

    -- the turn at the slot k is over
    abbrev pub after_give : HandView T → ℕ → T → T → HandView T
    after_give v k x y = record { parts = v.parts; turn = None; slots = adjusted v.slots k (after_turn x y); start = v.start }

    abbrev pub last_length : List (EndedTurn T) → ℕ
    last_length [] = 0
    last_length (t ∷ ts) = length (past t.given)

    abbrev pub seen_in : List (SlotView T) → ℕ → ℕ
    seen_in [] k = 0
    seen_in (s ∷ ss) zero = last_length s.seen
    seen_in (s ∷ ss) (suc k) = seen_in ss k

    -- how long the past was at the end of the hand's last turn at the slot k
    abbrev pub last_seen : HandView T → ℕ → ℕ
    last_seen v k = seen_in v.slots k

  -- ---- how hands are joined at the end
  abbrev pub joined_slots : List (SlotView T) → List (SlotView T) → List (SlotView T)
  joined_slots [] ys = []
  joined_slots (x ∷ xs) [] = x ∷ xs
  joined_slots (x ∷ xs) (y ∷ ys) =
      record { busy = x.busy + y.busy; seen = x.seen ++ y.seen; places = x.places ++ y.places } ∷ joined_slots xs ys

  -- one view with the places, the last turns and the parts of both
  abbrev pub after_join : HandView T → HandView T → HandView T
  after_join v w = record { parts = v.parts + w.parts; turn = v.turn; slots = joined_slots v.slots w.slots; start = v.start }

  abbrev pub spent_view : HandView T
  spent_view = record { parts = 0; turn = None; slots = []; start = [] }
