-- What a call for C owes over what is behind the handle that it is given.
use Rattle.std.specs.Prelude.{ℕ, ◌≡◌, Option, Some, None, Result, Ok, Err}
use Rattle.ni_model.specs.Calls.{Done, ends}
use Rattle.ni_model.specs.State.{State}
use Rattle.c_interface.specs.Statuses.{status_by}

-- Out is what the call may write through pointers. Where there is no interface the call says so, nothing is written and there is none
-- afterwards; else `made` ties the interface before the call and the one after it.
abbrev pub Over : {Out : Type 0} → (State → State → Type 0) → Out → Out → Option State → Option State → ℕ → Type 0
Over made old new None None status = (status ≡ 32) × (new ≡ old)
Over made old new (Some s) (Some t) status = made s t
Over made old new _ _ status = ⊥

-- an answer is written out, a fault isn't
abbrev pub writes : {A E Out : Type 0} → (A → Out → Out) → Result A E → Out → Out
writes told (Ok x) old = told x old
writes told (Err fault) old = old

-- the interface answers, its answer is written out, and the status is 0 or the number of its fault
pub record Tells {A E Out : Type 0} (made : Result A E → Type 0) (number : E → ℕ) (told : A → Out → Out) (old new : Out) (status : ℕ)
    : Type 0 where
  pub answer : Result A E
  pub made_so : made answer
  pub numbered : status ≡ status_by number answer
  pub written : new ≡ writes told answer old

-- a call that answers so
abbrev pub Called : {A E Out : Type 0} → (State → State → Result A E → Type 0) → (E → ℕ) → (A → Out → Out) → Out → Out
    → Option State → Option State → ℕ → Type 0
Called made number told old new before after status = Over (λ s t. Tells (made s t) number told old new status) old new before after status

-- a call that writes nothing out
abbrev pub Ends : {A E : Type 0} → (State → State → Result A E → Type 0) → (E → ℕ) → Option State → Option State → ℕ → Type 0
Ends made number before after status = Called made number (λ x (u : Unit {0}). u) tt tt before after status

-- where a number among the arguments names nothing, the call says so and changes nothing
abbrev pub Named : {A Out : Type 0} → (A → Type 0) → Out → Out → Option State → Option State → ℕ → Option A → Type 0
Named made old new before after status None = (status ≡ 35) × ((new ≡ old) × (after ≡ before))
Named made old new before after status (Some x) = made x

-- the call of the model
abbrev pub Does : {A E : Type 0} → (State → Done (Result A E)) → State → State → Result A E → Type 0
Does call s t answer = ends t answer ≡ call s

-- a question, which changes nothing
abbrev pub Asks : {A E : Type 0} → (State → Result A E) → State → State → Result A E → Type 0
Asks question s t answer = (t ≡ s) × (answer ≡ question s)
