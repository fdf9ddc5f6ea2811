-- The triggered operations that wait, each with whether it is due by what was last told of its counting event (Portals 4.3,
-- triggered operations).
use Rattle.std.specs.Prelude.{ℕ, Bool, false, ◌==◌, ◌||◌, not, nat_le, ◌+◌, ◌-◌, ◌^◌, ◌<◌, ◌≤◌, List, [], ◌∷◌, ◌++◌, length, map, filter}
use Rattle.std.specs.Prelude.{find, Option, Some, None, All, AllPairs, if◌then◌else◌}
use Rattle.ptl_types.specs.declared.handles.Handle.{Handle}
use Rattle.ptl_types.specs.declared.calls.TriggeredOp.{TriggeredOp}
use Rattle.ptl_types.specs.Handles.{same_handle}
use Rattle.ni_model.specs.State as model

-- an operation that waits on ct; it is due where the sum, success and failure together, that was last told of ct is at least its threshold
pub record Operation (D : Type 0) : Type 0 where
  pub number : ℕ
  pub action : D
  pub ct : Handle
  pub threshold : ℕ
  pub due : Bool

-- those that wait, by rising number; how many numbers were given, and how many may wait
pub record Operations (D : Type 0) : Type 0 where
  pub waiting : List (Operation D)
  pub given : ℕ
  pub limit : ℕ

module _ {D : Type 0} where
  -- none, and none was posted
  abbrev pub no_operations : ℕ → Operations D
  no_operations limit = record { waiting = []; given = 0; limit = limit }

  -- as many wait as may, or the numbers are used up
  abbrev pub is_full : Operations D → Bool
  is_full ops = nat_le ops.limit (length ops.waiting) || nat_le (2 ^ 32 - 1) ops.given

  -- ---- one operation

  -- the operation of this number
  abbrev pub is_number : ℕ → Operation D → Bool
  is_number t p = p.number == t

  -- it waits on this counting event
  abbrev pub waits_on : Handle → Operation D → Bool
  waits_on ct p = same_handle p.ct ct

  -- the sum that was last told of its counting event is at least its threshold
  abbrev pub is_due : Operation D → Bool
  is_due p = p.due

  -- its action, its counting event and its threshold
  abbrev pub shown : Operation D → D × Handle × ℕ
  shown p = (p.action, p.ct, p.threshold)

  -- the same after its number
  abbrev pub numbered : Operation D → ℕ × D × Handle × ℕ
  numbered p = (p.number, p.action, p.ct, p.threshold)

  -- its action
  abbrev pub action_of : Operation D → D
  action_of p = p.action

  -- ---- among those that wait

  -- operation t, where it waits
  abbrev pub operation_at : ℕ → Operations D → Option (Operation D)
  operation_at t ops = find (is_number t) ops.waiting

  -- what doesn't wait isn't due
  abbrev pub is_due_op : Option (Operation D) → Bool
  is_due_op None = false
  is_due_op (Some p) = is_due p

  -- operation t waits, and is due
  abbrev pub is_ready : ℕ → Operations D → Bool
  is_ready t ops = is_due_op (operation_at t ops)

  -- the numbers of those that are due, rising
  abbrev pub due_numbers : Operations D → List ℕ
  due_numbers ops = map (λ p. p.number) (filter is_due ops.waiting)

  -- ---- what the calls make of them

  -- one operation more, the newest, which is told this sum
  abbrev pub with_posted : D → Handle → ℕ → ℕ → Operations D → Operations D
  with_posted action ct threshold sum ops = record ops {
    waiting =
        ops.waiting ++ (record { number = ops.given; action = action; ct = ct; threshold = threshold; due = nat_le threshold sum }) ∷ [];
    given = ops.given + 1;
  }

  -- an operation that passes a test is told this sum
  abbrev pub told_if : (Operation D → Bool) → ℕ → Operation D → Operation D
  told_if test sum p = record p { due = if test p then nat_le p.threshold sum else p.due }

  -- those that pass it
  abbrev pub told_where : (Operation D → Bool) → ℕ → Operations D → Operations D
  told_where test sum ops = record ops { waiting = map (told_if test sum) ops.waiting }

  -- each that waits on ct
  abbrev pub told : Handle → ℕ → Operations D → Operations D
  told ct sum ops = told_where (waits_on ct) sum ops

  -- the operations without the one of this number
  abbrev pub without_number : ℕ → Operations D → Operations D
  without_number t ops = record ops { waiting = filter (λ p. not (is_number t p)) ops.waiting }

  -- the operations that wait on ct
  abbrev pub waiting_on : Handle → Operations D → List (Operation D)
  waiting_on ct ops = filter (waits_on ct) ops.waiting

  -- the operations that don't
  abbrev pub cancelled : Handle → Operations D → Operations D
  cancelled ct ops = record ops { waiting = filter (λ p. not (waits_on ct p)) ops.waiting }

  -- ---- what always holds of them

  -- the numbers rise and were given, and no more wait than may
  pub record IsKept (ops : Operations D) : Type 0 where
    pub rising : AllPairs (λ p q. p.number < q.number) ops.waiting
    pub were_given : All (λ p. p.number < ops.given) ops.waiting
    pub limited : length ops.waiting ≤ ops.limit
    pub numbers : ops.given < 2 ^ 32

  -- ---- as the interface's state has them, where `f` tells what an operation does

  -- without whether it is due
  abbrev pub posted : (D → TriggeredOp) → Operation D → model.Posted
  posted f p = record { number = p.number; action = f p.action; ct = p.ct; threshold = p.threshold }

  abbrev pub posted_all : (D → TriggeredOp) → Operations D → model.Operations
  posted_all f ops = record { waiting = map (posted f) ops.waiting; given = ops.given; limit = ops.limit }
