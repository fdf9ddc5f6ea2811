-- What is found first in a list, one member more at a time.
use Rattle.std.proofs.Common.{ℕ, true, false, ◌≡◌, ◌+◌, ◌<◌, ◌≤◌, List, [], ◌∷◌, ◌++◌, Option, Some, None, refl, ap, ◌∙◌, sym}
use Rattle.std.proofs.Common.{length, get_or, take, drop, inl, inr, arith}
use Rattle.std.specs.Option.{is_some, option_or}
use Rattle.std.proofs.lemmas.List.{drop_more, take-append-drop, take_all, take_more}
use Rattle.number_lists.specs.Members.{In}
use Rattle.number_lists.specs.Numbers.{from_to}
use Rattle.plan_core.proofs.Links.{from_to-In}
use Rattle.plan_judge.specs.Causes.{first_found}
use Rattle.plan_judge.proofs.Rows.{clear_or, or_clear, some_none, some_or}

or_assoc : {A : Type 0} (o p q : Option A) → option_or (option_or o p) q ≡ option_or o (option_or p q)
or_assoc None p q = refl
or_assoc (Some x) p q = refl

pub found-append : {A B : Type 0} (f : A → Option B) (xs ys : List A)
    → first_found f (xs ++ ys) ≡ option_or (first_found f xs) (first_found f ys)
found-append f [] ys = refl
found-append f (x ∷ xs) ys =
    ap (option_or (f x)) (found-append f xs ys) ∙ sym (or_assoc (f x) (first_found f xs) (first_found f ys))

-- none is found among one member more
pub none_more : {A B : Type 0} (f : A → Option B) (xs : List A) (i : ℕ) (d : A) (x : Option B) → i < length xs
    → x ≡ f (get_or xs i d) → is_some x ≡ false → first_found f (take i xs) ≡ None → first_found f (take (i + 1) xs) ≡ None
none_more f xs i d x h e lacks none =
    ap (first_found f) (take_more xs i d h)
    ∙ found-append f (take i xs) (get_or xs i d ∷ [])
    ∙ clear_or (first_found f (take i xs)) (option_or (f (get_or xs i d)) None) none
    ∙ clear_or (f (get_or xs i d)) None (sym e ∙ some_none x lacks)

-- it is the first where none is found before it
pub found_here : {A B : Type 0} (f : A → Option B) (xs : List A) (i : ℕ) (d : A) (x : Option B) → i < length xs
    → x ≡ f (get_or xs i d) → is_some x ≡ true → first_found f (take i xs) ≡ None → x ≡ first_found f xs
found_here f xs i d x h e some none =
    sym (ap (first_found f) (sym (take-append-drop i xs))
    ∙ found-append f (take i xs) (drop i xs)
    ∙ clear_or (first_found f (take i xs)) (first_found f (drop i xs)) none
    ∙ ap (first_found f) (drop_more xs i d h)
    ∙ some_or (f (get_or xs i d)) (first_found f (drop (i + 1) xs)) (ap is_some (sym e) ∙ some)
    ∙ sym e)

-- none is found at all
pub none_in_all : {A B : Type 0} (f : A → Option B) (xs : List A) (i : ℕ) → length xs ≤ i → first_found f (take i xs) ≡ None
    → None ≡ first_found f xs
none_in_all f xs i h none = sym (ap (first_found f) (sym (take_all i xs h)) ∙ none)

-- ---- at each member
pub none-In : {A B : Type 0} (f : A → Option B) (xs : List A) → first_found f xs ≡ None → (x : A) → In x xs → f x ≡ None
none-In f [] e x i = absurd i
none-In f (y ∷ ys) e x (inl q) = ap f (sym q) ∙ (or_clear (f y) (first_found f ys) e).0
none-In f (y ∷ ys) e x (inr i) = none-In f ys (or_clear (f y) (first_found f ys) e).1 x i

pub In-none : {A B : Type 0} (f : A → Option B) (xs : List A) → ((x : A) → In x xs → f x ≡ None) → first_found f xs ≡ None
In-none f [] none = refl
In-none f (y ∷ ys) none =
    clear_or (f y) (first_found f ys) (none y (inl refl)) ∙ In-none f ys (λ x i. none x (inr i))

pub found_same : {A B : Type 0} (f g : A → Option B) (xs : List A) → ((x : A) → In x xs → f x ≡ g x) → first_found f xs ≡ first_found g xs
found_same f g [] same = refl
found_same f g (x ∷ xs) same =
    ap (λ o. option_or o (first_found f xs)) (same x (inl refl)) ∙ ap (option_or (g x)) (found_same f g xs (λ y i. same y (inr i)))

pub found_same_below : {B : Type 0} (f g : ℕ → Option B) (n : ℕ) → ((k : ℕ) → k < n → f k ≡ g k)
    → first_found f (from_to 0 n) ≡ first_found g (from_to 0 n)
found_same_below f g n same =
    found_same f g (from_to 0 n) (λ k i. let r = from_to-In 0 n k i in same k (omega (arith, r.1)))

-- ---- four things one after the other
module _ {A : Type 0} (one two three four : Option A) where
  pub at_second : (x : Option A) → one ≡ None → x ≡ two → is_some x ≡ true → x ≡ option_or one (option_or two (option_or three four))
  at_second x a e some =
      e ∙ sym (some_or two (option_or three four) (ap is_some (sym e) ∙ some))
      ∙ sym (clear_or one (option_or two (option_or three four)) a)

  pub at_third : (x : Option A) → one ≡ None → two ≡ None → x ≡ three → is_some x ≡ true
      → x ≡ option_or one (option_or two (option_or three four))
  at_third x a b e some =
      e ∙ sym (some_or three four (ap is_some (sym e) ∙ some))
      ∙ sym (clear_or two (option_or three four) b)
      ∙ sym (clear_or one (option_or two (option_or three four)) a)

  pub at_fourth : one ≡ None → two ≡ None → three ≡ None → four ≡ option_or one (option_or two (option_or three four))
  at_fourth a b c =
      sym (clear_or three four c)
      ∙ sym (clear_or two (option_or three four) b)
      ∙ sym (clear_or one (option_or two (option_or three four)) a)
