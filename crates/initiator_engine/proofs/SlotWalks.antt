-- A walk over the slots of a table, and what it tells of its things.
use Rattle.std.proofs.Common.{◌≡◌, ℕ, ◌+◌, ◌<◌, ◌==◌, nat_lt, Bool, true, false, ◌||◌, List, [], ◌∷◌, Some, if◌then◌else◌, refl, ap, ◌∙◌}
use Rattle.std.proofs.Common.{arith}
use Rattle.std.specs.Prelude.{All}
use Rattle.std.proofs.lemmas.Bool.Decides.{nat_tests}
use Rattle.std.proofs.lemmas.List.Elements.{All-head, All-tail, All-cons, All-nil}
use Rattle.ptl_types.specs.declared.handles.Handle.{Handle}
use Rattle.ptl_types.specs.Handles.{same_handle}
use Rattle.ni_model.specs.declared.Bound.{Bound}
use Rattle.ni_model.specs.Tables.{Live, lookup, has_slot}
use Rattle.ni_model.specs.Answers.{is_awaited}

-- no thing below this slot passes the test
abbrev pub NoneBelow : (Bound → Bool) → ℕ → List (Live Bound) → Type 0
NoneBelow f n xs = All (λ (x : Live Bound). x.handle.slot < n → f x.value ≡ false) xs

-- some thing passes it
abbrev pub some_thing : (Bound → Bool) → List (Live Bound) → Bool
some_thing f [] = false
some_thing f (x ∷ xs) = f x.value || some_thing f xs

pub slots-start : (f : Bound → Bool) (xs : List (Live Bound)) → NoneBelow f 0 xs
slots-start f [] = All-nil (λ (x : Live Bound). x.handle.slot < 0 → f x.value ≡ false)
slots-start f (x ∷ xs) = All-cons (λ (x : Live Bound). x.handle.slot < 0 → f x.value ≡ false) x xs (λ lt. absurd (omega arith))
    (slots-start f xs)

-- the next slot holds nothing
pub slots-empty : (f : Bound → Bool) (n : ℕ) (xs : List (Live Bound)) → NoneBelow f n xs → has_slot n xs ≡ false → NoneBelow f (n + 1) xs
slots-empty f n [] below none = All-nil (λ (x : Live Bound). x.handle.slot < n + 1 → f x.value ≡ false)
slots-empty f n (x ∷ xs) below none =
    elim (x.handle.slot == n) as (λ b. (x.handle.slot == n) ≡ b → b || has_slot n xs ≡ false → NoneBelow f (n + 1) (x ∷ xs)) [
      | true ↦ λ is other. cc
      | false ↦ λ is other.
          All-cons (λ (x : Live Bound). x.handle.slot < n + 1 → f x.value ≡ false) x xs
          (λ lt. All-head (λ (x : Live Bound). x.handle.slot < n → f x.value ≡ false) x xs below (grind (arith, nat_tests)))
          (slots-empty f n xs (All-tail (λ (x : Live Bound). x.handle.slot < n → f x.value ≡ false) x xs below) other)
    ] refl none

-- the next slot holds a thing that doesn't pass
pub slots-other : (f : Bound → Bool) (n : ℕ) (v : Bound) (xs : List (Live Bound)) → NoneBelow f n xs →
    All (λ (x : Live Bound). x.handle.slot ≡ n → x.value ≡ v) xs → f v ≡ false → NoneBelow f (n + 1) xs
slots-other f n v [] below only other = All-nil (λ (x : Live Bound). x.handle.slot < n + 1 → f x.value ≡ false)
slots-other f n v (x ∷ xs) below only other =
    All-cons (λ (x : Live Bound). x.handle.slot < n + 1 → f x.value ≡ false) x xs
    (λ lt. elim (x.handle.slot == n) as (λ b. (x.handle.slot == n) ≡ b → f x.value ≡ false) [
      | true ↦ λ is. let same : x.value ≡ v = All-head (λ (x : Live Bound). x.handle.slot ≡ n → x.value ≡ v) x xs only
          (grind (arith, nat_tests)) in ap f same ∙ other
      | false ↦ λ is. All-head (λ (x : Live Bound). x.handle.slot < n → f x.value ≡ false) x xs below (grind (arith, nat_tests))
    ] refl)
    (slots-other f n v xs (All-tail (λ (x : Live Bound). x.handle.slot < n → f x.value ≡ false) x xs below)
    (All-tail (λ (x : Live Bound). x.handle.slot ≡ n → x.value ≡ v) x xs only) other)

pub slots-end : (f : Bound → Bool) (n : ℕ) (xs : List (Live Bound)) → NoneBelow f n xs → All (λ (x : Live Bound). x.handle.slot < n) xs →
    some_thing f xs ≡ false
slots-end f n [] below all = refl
slots-end f n (x ∷ xs) below all =
    let first : f x.value ≡ false = All-head (λ (x : Live Bound). x.handle.slot < n → f x.value ≡ false) x xs below
    (All-head (λ (x : Live Bound). x.handle.slot < n) x xs all) in
    let rest : some_thing f xs ≡ false = slots-end f n xs (All-tail (λ (x : Live Bound). x.handle.slot < n → f x.value ≡ false) x xs
    below) (All-tail (λ (x : Live Bound). x.handle.slot < n) x xs all) in
    rw (first, rest) refl

or-true : (a : Bool) → a || true ≡ true
or-true true = refl
or-true false = refl

pub slots-found : (f : Bound → Bool) (h : Handle) (v : Bound) (xs : List (Live Bound)) → lookup h xs ≡ Some v → f v ≡ true →
    some_thing f xs ≡ true
slots-found f h v [] e is = cc
slots-found f h v (x ∷ xs) e is =
    elim (same_handle x.handle h) as (λ b. (if b then Some x.value else lookup h xs) ≡ Some v → some_thing f (x ∷ xs) ≡ true) [
      | true ↦ λ e. let same : x.value ≡ v = cc in let first : f x.value ≡ true = ap f same ∙ is in rw first refl
      | false ↦ λ e. rw (slots-found f h v xs e is) (or-true (f x.value))
    ] e

-- ---- answers that are awaited

abbrev pub awaits_one : Bound → Bool
awaits_one b = nat_lt 0 b.awaits

pub awaited-some : (xs : List (Live Bound)) → is_awaited xs ≡ some_thing awaits_one xs
awaited-some [] = refl
awaited-some (x ∷ xs) = rw (awaited-some xs) refl
