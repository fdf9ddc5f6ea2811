-- Rows of tests, and what is found first.
use Rattle.std.proofs.Common.{ℕ, zero, suc, Bool, true, false, cond, not, ◌&&◌, ◌≡◌, ◌+◌, ◌<◌, ◌≤◌, Option, Some, None, refl, ap, ◌∙◌}
use Rattle.std.proofs.Common.{sym, arith, inl, inr}
use Rattle.std.specs.Option.{is_some, option_map, option_or}
use Rattle.std.proofs.lemmas.Bool.{cases_eq, false≢true, true≢false, not-false, not_from_true}
use Rattle.std.proofs.lemmas.Option.{none-some}
use Rattle.plan_core.specs.Plan.{from_to}
use Rattle.plan_judge.specs.Causes.{first_found}

-- ---- one row: none is at fault exactly where this one isn't, and none of the others
pub row_clear : {A : Type 0} (t : Bool) (x : A) (o : Option A) → cond t (Some x) o ≡ None → (t ≡ false) × (o ≡ None)
row_clear true x o e = absurd (none-some x (sym e))
row_clear false x o e = (refl, e)

pub clear_row : {A : Type 0} (t : Bool) (x : A) (o : Option A) → t ≡ false → o ≡ None → cond t (Some x) o ≡ None
clear_row true x o e f = absurd (true≢false e)
clear_row false x o e f = f

pub row_passed : {A : Type 0} (t : Bool) (x : A) (o : Option A) → t ≡ false → cond t (Some x) o ≡ o
row_passed true x o e = absurd (true≢false e)
row_passed false x o e = refl

pub row_met : {A : Type 0} (t : Bool) (x : A) (o : Option A) → t ≡ true → cond t (Some x) o ≡ Some x
row_met true x o e = refl
row_met false x o e = absurd (false≢true e)

-- ---- a fault where one thing holds and another doesn't
pub implied : (x y : Bool) → (x && not y) ≡ false → x ≡ true → y ≡ true
implied true y e f = not-false y e
implied false y e f = absurd (false≢true f)

pub from_implied : (x y : Bool) → (x ≡ true → y ≡ true) → (x && not y) ≡ false
from_implied true y f = not_from_true y (f refl)
from_implied false y f = refl

pub ruled_out : (x y : Bool) → (x && y) ≡ false → x ≡ true → y ≡ false
ruled_out true y e f = e
ruled_out false y e f = absurd (false≢true f)

pub from_ruled_out : (x y : Bool) → (x ≡ true → y ≡ false) → (x && y) ≡ false
from_ruled_out true y f = f refl
from_ruled_out false y f = refl

-- ---- options
pub map_clear : {A B : Type 0} (f : A → B) (o : Option A) → option_map f o ≡ None → o ≡ None
map_clear f None e = refl
map_clear f (Some x) e = absurd (none-some (f x) (sym e))

pub clear_map : {A B : Type 0} (f : A → B) (o : Option A) → o ≡ None → option_map f o ≡ None
clear_map f o e = ap (option_map f) e

pub or_clear : {A : Type 0} (o p : Option A) → option_or o p ≡ None → (o ≡ None) × (p ≡ None)
or_clear None p e = (refl, e)
or_clear (Some x) p e = absurd (none-some x (sym e))

pub clear_or : {A : Type 0} (o p : Option A) → o ≡ None → option_or o p ≡ p
clear_or o p e = ap (λ v. option_or v p) e

pub some_or : {A : Type 0} (o p : Option A) → is_some o ≡ true → option_or o p ≡ o
some_or None p e = absurd (false≢true e)
some_or (Some x) p e = refl

pub some_none : {A : Type 0} (o : Option A) → is_some o ≡ false → o ≡ None
some_none None e = refl
some_none (Some x) e = absurd (true≢false e)

-- ---- what is found first among the numbers from k on
pub found_first : {B : Type 0} (f : ℕ → Option B) (k n i : ℕ) → k ≤ i → i < k + n → ((j : ℕ) → k ≤ j → j < i → f j ≡ None)
    → is_some (f i) ≡ true → first_found f (from_to k n) ≡ f i
found_first f k zero i a b none some = absurd (omega arith)
found_first f k (suc n) i a b none some =
    elim (cases_eq k i) [
      | inl e ↦ some_or (f k) (first_found f (from_to (suc k) n)) (ap (λ v. is_some (f v)) e ∙ some) ∙ ap f e
      | inr ne ↦ clear_or (f k) (first_found f (from_to (suc k) n)) (none k (omega arith) (omega arith))
          ∙ found_first f (suc k) n i (omega arith) (omega arith) (λ j c d. none j (omega arith) d) some
    ]

pub found_none : {B : Type 0} (f : ℕ → Option B) (k n : ℕ) → ((j : ℕ) → k ≤ j → j < k + n → f j ≡ None) → first_found f (from_to k n) ≡ None
found_none f k zero none = refl
found_none f k (suc n) none =
    clear_or (f k) (first_found f (from_to (suc k) n)) (none k (omega arith) (omega arith))
    ∙ found_none f (suc k) n (λ j c d. none j (omega arith) (omega arith))

pub none_found : {B : Type 0} (f : ℕ → Option B) (k n : ℕ) → first_found f (from_to k n) ≡ None → (j : ℕ) → k ≤ j → j < k + n → f j ≡ None
none_found f k zero e j a b = absurd (omega arith)
none_found f k (suc n) e j a b =
    let r = or_clear (f k) (first_found f (from_to (suc k) n)) e in
    elim (cases_eq k j) [
      | inl q ↦ ap f (sym q) ∙ r.0
      | inr ne ↦ none_found f (suc k) n r.1 j (omega arith) (omega arith)
    ]

-- ---- at a turn of a loop over the numbers from 0 on
pub found_at : {B : Type 0} (f : ℕ → Option B) (n i : ℕ) (x : Option B) → x ≡ f i → is_some x ≡ true → i < n
    → ((j : ℕ) → j < i → f j ≡ None) → x ≡ first_found f (from_to 0 n)
found_at f n i x e some h none =
    e ∙ sym (found_first f 0 n i (omega arith) (omega arith) (λ j a b. none j b) (ap is_some (sym e) ∙ some))

pub none_more : {B : Type 0} (f : ℕ → Option B) (i : ℕ) (x : Option B) → x ≡ f i → is_some x ≡ false
    → ((j : ℕ) → j < i → f j ≡ None) → (j : ℕ) → j < i + 1 → f j ≡ None
none_more f i x e lacks none j h =
    elim (cases_eq j i) [
      | inl q ↦ ap f q ∙ sym e ∙ some_none x lacks
      | inr ne ↦ none j (omega arith)
    ]

pub none_at_all : {B : Type 0} (f : ℕ → Option B) (n i : ℕ) → n ≤ i → ((j : ℕ) → j < i → f j ≡ None) → first_found f (from_to 0 n) ≡ None
none_at_all f n i h none = found_none f 0 n (λ j a b. none j (omega arith))
