-- The rule of the table, and what its steps tell.
use Rattle.std.specs.Prelude.{◌≡◌, ℕ, ◌+◌, ◌≤◌, ◌<◌, ◌^◌, List, [], ◌∷◌, length, Option, Some, None, slice_index_or, sum_by}
use mathlib.Core.Option.{some, none}
use mathlib.Core.Option as maybe
use mathlib.Core.List.{IsPrefix}
use lib.ListN.{get_elem?}
use Rattle.atomic_table.specs.Table.{State, Me, Step, rest}
use Rattle.turn_table.specs.declared.views.EndedTurn.{EndedTurn}
use Rattle.turn_table.specs.declared.views.SlotView.{SlotView}
use Rattle.turn_table.specs.declared.views.HandView.{HandView}
use Rattle.turn_table.specs.Views.{open_turn, times, once_below, places, after_busy, after_take, after_give}

-- where the value of a slot is: at home, or out with a seat, which took it as it was
pub data Where (T : Type 0) : Type 0 where
  home : T → Where T
  out : ℕ → T → Where T

module _ {T : Type 0} where
  abbrev pub value_of : Where T → T
  value_of (home x) = x
  value_of (out j x) = x

module _ {T N I : Type 0} (past : T → List I) (name : T → N) where
  -- the slot's word is the length of the past, and 2 ^ 63 more where the value is out
  abbrev pub Shows : List ℕ → List (maybe.Option (Option T)) → ℕ → Where T → Type 0
  Shows words homes k (home x) = (slice_index_or words k 0 ≡ length (past x)) × (get_elem? homes k ≡ some (some (Some x)))
  Shows words homes k (out j x) = (slice_index_or words k 0 ≡ length (past x) + 2 ^ 63) × (get_elem? homes k ≡ some none)

  -- of the slot k, whose value is where c says: it is so, and where the value is out its holder has just that turn
  pub record SlotOk (start : List T) (words : List ℕ) (homes : List (maybe.Option (Option T))) (views : List (HandView T)) (k : ℕ)
      (c : Where T) : Type 0 where
    pub shows : Shows words homes k c
    pub short : length (past (value_of c)) < 2 ^ 62
    pub named : (x : T) → get_elem? start k ≡ some x → name (value_of c) ≡ name x
    pub holder : (j : ℕ) (x : T) → c ≡ out j x → (v : HandView T) × (get_elem? views j ≡ some v) × (v.turn ≡ Some (open_turn k x))

  -- each past that was seen is a beginning of the slot's past
  abbrev pub Begun : (ℕ → Where T) → List (SlotView T) → Type 0
  Begun cells slots = (k : ℕ) (s : SlotView T) (i : ℕ) (t : EndedTurn T) → get_elem? slots k ≡ some s → get_elem? s.seen i ≡ some t
      → IsPrefix (past t.given) (past (value_of (cells k)))

  -- of the seat j with the view v: a turn that it has is out with it, and what it saw at each slot begins the past there
  pub record SeatOk (start : List T) (cells : ℕ → Where T) (j : ℕ) (v : HandView T) : Type 0 where
    pub alive : 0 < v.parts → (v.start ≡ start) × (length v.slots ≡ length start)
    pub idle : v.parts ≡ 0 → (v.turn ≡ None) × ((k : ℕ) → places v k ≡ [])
    pub turn : (k : ℕ) (x : T) → v.turn ≡ Some (open_turn k x) → (k < length start) × (cells k ≡ out j x)
    pub begun : Begun cells v.slots

  -- each value is somewhere; each place of a past is one hand's; and the parts of all hands are 2 ^ 32
  pub record KeepsTurns (start : List T) (s : State (Option T) (HandView T)) : Type 0 where
    pub cells : ℕ → Where T
    pub worded : length s.words ≡ length start
    pub homed : length s.homes ≡ length start
    pub parts : sum_by (λ v. v.parts) s.views ≡ 2 ^ 32
    pub slot_ok : (k : ℕ) → k < length start → SlotOk start s.words s.homes s.views k (cells k)
    pub seat_ok : (j : ℕ) (v : HandView T) → get_elem? s.views j ≡ some v → SeatOk start cells j v
    pub placed : (k p : ℕ) → k < length start
        → sum_by (λ v. times p (places v k)) s.views ≡ once_below p (length (past (value_of (cells k))))
    pub long : (k : ℕ) → k < length start → sum_by (λ v. length (places v k)) s.views ≡ length (past (value_of (cells k)))

  -- a past that begins with each that was seen at the slot k
  abbrev pub Follows : List (SlotView T) → ℕ → T → Type 0
  Follows slots k x = (s : SlotView T) (i : ℕ) (t : EndedTurn T) → get_elem? slots k ≡ some s → get_elem? s.seen i ≡ some t
      → IsPrefix (past t.given) (past x)

  -- a value at the end: its name, its past, and the places of a view that has all
  pub record Ends (start : List T) (v : HandView T) (k : ℕ) (x : T) : Type 0 where
    pub named : (y : T) → get_elem? start k ≡ some y → name x ≡ name y
    pub begun : Follows v.slots k x
    pub placed : (p : ℕ) → times p (places v k) ≡ once_below p (length (past x))
    pub long : length (places v k) ≡ length (past x)

  -- a try to take tells: the slot was out, or its value is now out with the hand
  abbrev pub try_tells : Step (Option T) → Me (Option T) (HandView T) → ℕ → Me (Option T) (HandView T) → Type 0
  try_tells st m r m' =
      (2 ^ 63 ≤ r → m' ≡ (after_busy m.0 st.word, m.1))
      × (r < 2 ^ 63 → (x : T) × (m' ≡ (after_take m.0 st.word x, (st.word, Some x) ∷ m.1)) × (length (past x) ≡ r)
      × (length (past x) < 2 ^ 62)
      × (length (places m.0 st.word) ≤ length (past x)) × Follows m.0.slots st.word x
      × ((y : T) → get_elem? m.0.start st.word ≡ some y → name x ≡ name y))

module _ {T I : Type 0} (past : T → List I) where
  -- the count tells: the value is home, and the turn is over
  abbrev pub count_tells : Step (Option T) → Me (Option T) (HandView T) → ℕ → Me (Option T) (HandView T) → Type 0
  count_tells st m r m' = (x y : T) → m.0.turn ≡ Some (open_turn st.word x) → m.1 ≡ (st.word, Some y) ∷ rest m.1
      → m' ≡ (after_give past m.0 st.word x y, rest m.1)
