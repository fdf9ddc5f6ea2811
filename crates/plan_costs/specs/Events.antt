-- Events in the order of time.
use Rattle.std.specs.Prelude.{◌≡◌, ◌<◌, ◌≤◌, ◌⊎◌, List, [], ◌∷◌, true, false}
use Rattle.plan_costs.specs.declared.events.Event.{Event}

-- a member
abbrev pub Has : List Event → Event → Type 0
Has [] e = ⊥
Has (x ∷ xs) e = (x ≡ e) ⊎ Has xs e

-- a is first: at the same time what stays on its rank is before what goes to another, and then the lower link is before the higher one
pub record Comes (a b : Event) : Type 0 where
  pub not_after : a.time ≤ b.time
  pub strict : a.between ≡ true → b.between ≡ false → a.time < b.time
  pub by_number : a.between ≡ b.between → a.time ≡ b.time → a.link < b.link

-- with e
pub record Pushed (old : List Event) (e : Event) (new : List Event) : Type 0 where
  pub keeps : (x : Event) → Has old x → Has new x
  pub has : Has new e
  pub only : (x : Event) → Has new x → (x ≡ e) ⊎ Has old x

-- without e, which came first
pub record Popped (old : List Event) (e : Event) (new : List Event) : Type 0 where
  pub had : Has old e
  pub first : (x : Event) → Has new x → Comes e x
  pub kept : (x : Event) → Has new x → Has old x
  pub rest : (x : Event) → Has old x → (e ≡ x) ⊎ Has new x
