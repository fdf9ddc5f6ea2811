-- How pending operations are laid out: at places in the order of posting, with a mark on each that is due. No public clause cites this
-- module.
use Rattle.std.specs.Prelude.{◌≡◌, ℕ, zero, suc, Bool, nat_le, ◌-◌, ◌^◌, ◌<◌, ◌≤◌, List, [], ◌∷◌, ◌++◌, map, length, take, drop, replicate}
use Rattle.std.specs.Prelude.{Option, Some, None, if◌then◌else◌, slice_index_or}
use Rattle.ptl_types.specs.declared.handles.Handle.{Handle}
use Rattle.triggered_ops.specs.declared.spots.Spot.{Spot}
use Rattle.triggered_ops.specs.declared.spots.Wait.{Wait}
use Rattle.triggered_ops.specs.Operations.{Operation, Operations}

-- the places, and how many there is room for
pub record Spotted (D : Type 0) : Type 0 where
  pub spots : List (Spot D)
  pub room : ℕ

module _ {D : Type 0} where
  abbrev pub spotted : List (Spot D) → ℕ → Spotted D
  spotted spots room = record { spots = spots; room = room }

  abbrev pub no_spots : ℕ → Spotted D
  no_spots room = spotted [] room

  -- the numbers that stand at the places, also of those that are gone
  abbrev pub numbers_of : List (Spot D) → List ℕ
  numbers_of ss = map (λ (s : Spot D). s.number) ss

  abbrev pub handle_of : Spot D → Handle
  handle_of s = record { slot = s.slot; stamp = s.stamp }

  abbrev pub operation : Spot D → D → Operation D
  operation s action = record { number = s.number; action = action; ct = handle_of s; threshold = s.threshold; due = s.due }

  -- what waits there
  abbrev pub op_with : Spot D → Option D → Option (Operation D)
  op_with s None = None
  op_with s (Some action) = Some (operation s action)

  abbrev pub op_of : Spot D → Option (Operation D)
  op_of s = op_with s s.action

  abbrev pub before_all : Option (Operation D) → List (Operation D) → List (Operation D)
  before_all None ps = ps
  before_all (Some p) ps = p ∷ ps

  -- those that wait, in the order of the places
  abbrev pub operations_in : List (Spot D) → List (Operation D)
  operations_in [] = []
  operations_in (s ∷ ss) = before_all (op_of s) (operations_in ss)

  abbrev pub op_at : List (Spot D) → ℕ → Option (Operation D)
  op_at [] p = None
  op_at (s ∷ ss) zero = op_of s
  op_at (s ∷ ss) (suc p) = op_at ss p

  -- what it waits for
  abbrev pub wait_with : Spot D → Option D → Option Wait
  wait_with s None = None
  wait_with s (Some action) = Some (record { ct = handle_of s; threshold = s.threshold; due = s.due })

  abbrev pub wait_of : Spot D → Option Wait
  wait_of s = wait_with s s.action

  abbrev pub wait_at : List (Spot D) → ℕ → Option Wait
  wait_at [] p = None
  wait_at (s ∷ ss) zero = wait_of s
  wait_at (s ∷ ss) (suc p) = wait_at ss p

  -- a number stands at this place
  abbrev pub StandsAt : ℕ → List (Spot D) → ℕ → Type 0
  StandsAt number ss p = (p < length ss) × (slice_index_or (numbers_of ss) p 0 ≡ number)

  -- those at the places before this one are below it
  abbrev pub AreBelow : ℕ → List (Spot D) → ℕ → Type 0
  AreBelow number ss p = (k : ℕ) → k < p → slice_index_or (numbers_of ss) k 0 < number

  -- those from this place on aren't
  abbrev pub AreFrom : ℕ → List (Spot D) → ℕ → Type 0
  AreFrom number ss p = (k : ℕ) → p ≤ k → k < length ss → number ≤ slice_index_or (numbers_of ss) k 0

  -- an operation that is put in, and its place
  abbrev pub operation_for : ℕ → Wait → D → Operation D
  operation_for number x action = record { number = number; action = action; ct = x.ct; threshold = x.threshold; due = x.due }

  abbrev pub spot_for : ℕ → Wait → D → Spot D
  spot_for number x action = record {
    number = number;
    slot = x.ct.slot;
    stamp = x.ct.stamp;
    threshold = x.threshold;
    due = x.due;
    action =
        Some action;
  }

  -- the places with one changed
  abbrev pub changed : (Spot D → Spot D) → ℕ → List (Spot D) → List (Spot D)
  changed f p [] = []
  changed f zero (s ∷ ss) = f s ∷ ss
  changed f (suc p) (s ∷ ss) = s ∷ changed f p ss

  -- it is due, or isn't
  abbrev pub noted_due : ℕ → Bool → List (Spot D) → List (Spot D)
  noted_due p due ss = changed (λ s. record s { due = due }) p ss

  -- nothing waits there any more
  abbrev pub emptied : ℕ → List (Spot D) → List (Spot D)
  emptied p ss = changed (λ s. record s { action = None }) p ss

  -- the places before one, and those from another on
  abbrev pub packed : ℕ → ℕ → List (Spot D) → List (Spot D)
  packed kept place ss = take kept ss ++ drop place ss

  abbrev pub number_of : Operation D → ℕ
  number_of p = p.number

  abbrev pub is_from : ℕ → Operation D → Bool
  is_from n p = nat_le n p.number

  -- nothing waits from a place on
  abbrev pub AreGone : ℕ → List (Spot D) → Type 0
  AreGone len ss = (p : ℕ) → len ≤ p → wait_at ss p ≡ None

  -- the marks of the places: 1 where an operation waits that is due
  abbrev pub mark_with : Bool → Option D → ℕ
  mark_with due None = 0
  mark_with due (Some action) = if due then 1 else 0

  abbrev pub dues_of : List (Spot D) → List ℕ
  dues_of ss = map (λ (s : Spot D). mark_with s.due s.action) ss

  pub record IsSpotted (ss : List (Spot D)) (marks : List ℕ) (waiting room capacity : ℕ) : Type 0 where
    pub marked : marks ≡ dues_of ss ++ replicate (length marks - length ss) 0
    pub long : room ≤ length marks
    pub counted : waiting ≡ length (operations_in ss)
    pub fits : length ss ≤ room
    pub enough : room ≤ capacity
    pub at_most : room ≤ 2 ^ 28

  abbrev pub operations_of : Spotted D → ℕ → ℕ → Operations D
  operations_of s given limit = record { waiting = operations_in s.spots; given = given; limit = limit }
