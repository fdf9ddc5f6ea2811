-- Which hands belong to which table, what a turn finds, and what the hands know at the end.
use Rattle.std.specs.Prelude.{◌≡◌, ◌≢◌, ℕ, ◌+◌, ◌<◌, ◌≤◌, ◌^◌, List, [], ◌∷◌, length, map, Option, Some, None, All, sum_by}
use mathlib.Core.Option.{some}
use mathlib.Core.List.{IsPrefix}
use lib.ListN.{get_elem?}
use Rattle.atomic_table.specs.Seated.{TableId}
use Rattle.atomic_table.specs.Table.{Me}
use Rattle.turn_table.specs.declared.views.SlotView.{SlotView}
use Rattle.turn_table.specs.declared.views.EndedTurn.{EndedTurn}
use Rattle.turn_table.specs.declared.views.HandView.{HandView}
use Rattle.turn_table.specs.Views.{open_turn, places, times, once_below, all_unseen, after_take, busy_at, without_busy}
use Rattle.turn_table.specs.Rules.{Follows}
use Rattle.turn_table.specs.States.{TableState, HandState}

module _ {T : Type 0} where
  -- the hand is this table's
  abbrev pub IsHandOf : TableState T → HandState T → Type 0
  IsHandOf t h = (h.table ≡ t.table) × (h.knows.start ≡ t.start)

  -- and it has no turn
  abbrev pub IsFree : TableState T → HandState T → Type 0
  IsFree t h = IsHandOf t h × (h.knows.turn ≡ None)

  -- and it has seen nothing
  abbrev pub IsNew : TableState T → HandState T → Type 0
  IsNew t h = IsFree t h × (h.knows.slots ≡ all_unseen t.start)

  -- a seat of this table, with no turn and no slot
  pub record IsFreeSeat (t : TableState T) (table : TableId) (me : Me (Option T) (HandView T)) : Type 0 where
    pub table_is : table ≡ t.table
    pub alive : 0 < me.0.parts
    pub idle : me.0.turn ≡ None
    pub slots : length me.0.slots ≡ length t.start
    pub start : me.0.start ≡ t.start
    pub carries : me.1 ≡ []

  -- of the 2 ^ 32 parts of a table, those of these hands
  abbrev pub parts_of : List (HandState T) → ℕ
  parts_of hs = sum_by (λ h. h.knows.parts) hs

  module _ {N I : Type 0} (past : T → List I) (name : T → N) where
    -- what is taken: its past begins with each that the hand saw there and has the hand's places, and its name is the slot's
    pub record Found (v : HandView T) (k : ℕ) (x : T) : Type 0 where
      pub follows : Follows past name v.slots k x
      pub mine : length (places v k) ≤ length (past x)
      pub short : length (past x) < 2 ^ 62
      pub named : (y : T) → get_elem? v.start k ≡ some y → name x ≡ name y

    -- after some busy tries the value x of the slot k was taken: they raised the count of busy tries at that slot alone
    pub record Took (v : HandView T) (k : ℕ) (x : T) (w : HandView T) : Type 0 where
      pub tried : HandView T
      pub alike : without_busy tried ≡ without_busy v
      pub elsewhere : (j : ℕ) → j ≢ k → busy_at tried j ≡ busy_at v j
      pub taken : w ≡ after_take tried k x
      pub found : Found tried k x

    -- the turn at the slot k may end with y: the hand has that turn, the past only grew and stayed short, and the name is the same
    pub record MayGive (v : HandView T) (k : ℕ) (y : T) : Type 0 where
      pub value : T
      pub turn : v.turn ≡ Some (open_turn k value)
      pub grows : IsPrefix (past value) (past y)
      pub named : name y ≡ name value
      pub short : length (past y) < 2 ^ 62

    -- a hand with this view, and those in `rest`, are what became of the hands hs
    pub record Gathered (hs : List (HandState T)) (v : HandView T) (rest : List (HandState T)) : Type 0 where
      pub parts : v.parts + sum_by (λ h. h.knows.parts) rest ≡ sum_by (λ h. h.knows.parts) hs
      pub placed : (k p : ℕ) → times p (places v k) + sum_by (λ h. times p (places h.knows k)) rest
          ≡ sum_by (λ h. times p (places h.knows k)) hs
      pub long : (k : ℕ) → length (places v k) + sum_by (λ h. length (places h.knows k)) rest ≡ sum_by (λ h. length (places h.knows k)) hs
      pub begun : (k : ℕ) (x : T) → Follows past name v.slots k x → All (λ h. Follows past name h.knows.slots k x) rest
          → All (λ h. Follows past name h.knows.slots k x) hs

    -- what is left of the slot k: a value with its name, whose past begins with each that a hand saw there, and whose places are those
    -- of the hands, each once
    pub record Left (start : List T) (hs : List (HandState T)) (k : ℕ) (x : T) : Type 0 where
      pub named : (y : T) → get_elem? start k ≡ some y → name x ≡ name y
      pub begun : All (λ h. Follows past name h.knows.slots k x) hs
      pub placed : (p : ℕ) → sum_by (λ h. times p (places h.knows k)) hs ≡ once_below p (length (past x))
      pub long : sum_by (λ h. length (places h.knows k)) hs ≡ length (past x)

  module _ {I M : Type 0} (past : T → List I) (note : T → M) where
    abbrev pub marks : EndedTurn T → (List I × M) × (List I × M)
    marks t = ((past t.taken, note t.taken), (past t.given, note t.given))

    -- the hand's last turn at the slot k: the past and the note that it took, and those that it gave
    pub record LastTurn (v : HandView T) (k : ℕ) (taken given : List I × M) : Type 0 where
      pub slot : SlotView T
      pub slot_is : get_elem? v.slots k ≡ some slot
      pub turn_is : map marks slot.seen ≡ (taken, given) ∷ []
