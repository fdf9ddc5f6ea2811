-- What a table and a hand stand for, and what each keeps.
use Rattle.std.specs.Prelude.{◌≡◌, ℕ, ◌<◌, ◌≤◌, List, [], ◌∷◌, length, Option, Some, None, slice_index_or}
use Rattle.atomic_table.specs.Seated.{TableId}
use Rattle.atomic_table.specs.Table.{Me}
use Rattle.turn_table.specs.declared.views.OpenTurn.{OpenTurn}
use Rattle.turn_table.specs.declared.views.HandView.{HandView}
use Rattle.turn_table.specs.Views.{open_turn, places, last_seen}

-- which table it is, and what it was opened with
pub record TableState (T : Type 0) : Type 0 where
  pub table : TableId
  pub start : List T

-- the table that the hand is of, and what the hand knows
pub record HandState (T : Type 0) : Type 0 where
  pub table : TableId
  pub knows : HandView T

-- a table has a word and a slot for each value, and at least one
pub record IsSized {T : Type 0} (words slots : ℕ) (start : List T) : Type 0 where
  pub words_are : words ≡ slots
  pub slots_are : slots ≡ length start
  pub some_slot : 0 < slots

module _ {T : Type 0} where
  -- a slot that is out with a hand is empty
  abbrev pub carried_for : Option (OpenTurn T) → List (ℕ × Option T)
  carried_for None = []
  carried_for (Some t) = (t.slot, None) ∷ []

  module _ {I : Type 0} (past : T → List I) where
    -- what a hand counts at run time, at n slots, is what it knows
    pub record Counts (made seen : List ℕ) (found : ℕ) (v : HandView T) (n : ℕ) : Type 0 where
      pub made_long : length made ≡ n
      pub seen_long : length seen ≡ n
      pub made_is : (k : ℕ) → k < n → slice_index_or made k 0 ≡ length (places v k)
      pub seen_is : (k : ℕ) → k < n → slice_index_or seen k 0 ≡ last_seen past v k
      pub found_is : (k : ℕ) (x : T) → v.turn ≡ Some (open_turn k x)
          → (k < n) × (found ≡ length (past x)) × (length (places v k) ≤ length (past x))

    -- a hand has a part, knows n slots, and has room for their values
    pub record HandKeeps (n : ℕ) (me : Me (Option T) (HandView T)) (room : List T) (capacity : ℕ) (made seen : List ℕ) (found : ℕ)
        : Type 0 where
      pub alive : 0 < me.0.parts
      pub slots : length me.0.slots ≡ n
      pub start : length me.0.start ≡ n
      pub carried : me.1 ≡ carried_for me.0.turn
      pub empty : room ≡ []
      pub roomy : n ≤ capacity
      pub counts : Counts made seen found me.0 n
