-- What an interface shows of a phase, after each move.
use Rattle.std.proofs.Common.{ℕ, ◌≡◌, refl}
use Rattle.coll_lang.specs.declared.choices.ChoiceKind.{ChoiceKind}
use Rattle.coll_lang.specs.declared.choices.ChoiceKind.TheVariants.{Elect, Tickets}
use Rattle.plan_choice.specs.texts.machine.Machine.{Phase, advanced, served, value_of}
use Rattle.plan_choice.specs.texts.machine.Machine.Phase.{Answered, Asked, Idle, Learned, Read, Reading, Served, Told}
use Rattle.plan_choice.specs.texts.view.Install.{has_first, has_result, old_of}

-- ---- a firing
pub first_advanced : (k : ChoiceKind) (p : Phase) → has_first k (advanced p) ≡ has_first k p
first_advanced Elect Idle = refl
first_advanced Elect Asked = refl
first_advanced Elect (Served old) = refl
first_advanced Elect (Answered old) = refl
first_advanced Elect (Reading old) = refl
first_advanced Elect (Read old value) = refl
first_advanced Elect (Learned old value) = refl
first_advanced Elect (Told old value) = refl
first_advanced Tickets Idle = refl
first_advanced Tickets Asked = refl
first_advanced Tickets (Served old) = refl
first_advanced Tickets (Answered old) = refl
first_advanced Tickets (Reading old) = refl
first_advanced Tickets (Read old value) = refl
first_advanced Tickets (Learned old value) = refl
first_advanced Tickets (Told old value) = refl

pub result_advanced : (p : Phase) → has_result (advanced p) ≡ has_result p
result_advanced Idle = refl
result_advanced Asked = refl
result_advanced (Served old) = refl
result_advanced (Answered old) = refl
result_advanced (Reading old) = refl
result_advanced (Read old value) = refl
result_advanced (Learned old value) = refl
result_advanced (Told old value) = refl

pub old_advanced : (p : Phase) → old_of (advanced p) ≡ old_of p
old_advanced Idle = refl
old_advanced Asked = refl
old_advanced (Served old) = refl
old_advanced (Answered old) = refl
old_advanced (Reading old) = refl
old_advanced (Read old value) = refl
old_advanced (Learned old value) = refl
old_advanced (Told old value) = refl

pub value_advanced : (p : Phase) → value_of (advanced p) ≡ value_of p
value_advanced Idle = refl
value_advanced Asked = refl
value_advanced (Served old) = refl
value_advanced (Answered old) = refl
value_advanced (Reading old) = refl
value_advanced (Read old value) = refl
value_advanced (Learned old value) = refl
value_advanced (Told old value) = refl

-- ---- a request taken at rank 0 shows nothing at the rank that asked
module _ {X : Type 0} (look : Phase → X) (first : (w : ℕ) → look (Served w) ≡ look Asked)
    (get : (old w : ℕ) → look (Read old w) ≡ look (Reading old)) where
  pub look_served : (w : ℕ) (p : Phase) → look (served w p) ≡ look p
  look_served w Asked = first w
  look_served w (Reading old) = get old w
  look_served w Idle = refl
  look_served w (Served old) = refl
  look_served w (Answered old) = refl
  look_served w (Read old value) = refl
  look_served w (Learned old value) = refl
  look_served w (Told old value) = refl
