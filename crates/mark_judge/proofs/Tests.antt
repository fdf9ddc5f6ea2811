-- Tests of all members of a list, and what `or` and `and` compute.
use Rattle.std.proofs.Common.{ℕ, zero, suc, Bool, true, false, ◌&&◌, ◌||◌, ◌≡◌, ◌+◌, ◌<◌, List, [], ◌∷◌, refl, ap, ap₂, ◌∙◌, sym}
use Rattle.std.proofs.Common.{length, get_or, inl, inr, arith}
use Rattle.std.specs.List.{list_any}
use Rattle.std.proofs.lemmas.Bool.{false≢true, or_cases, or_left, or_right}
use Rattle.number_lists.specs.Members.{In}
use Rattle.number_lists.specs.Numbers.{from_to}
use Rattle.plan_core.proofs.Links.{In-from_to, from_to-In}

-- ---- or, and
pub or-false : (b : Bool) → (b || false) ≡ b
or-false true = refl
or-false false = refl

pub or_assoc : (a b c : Bool) → ((a || b) || c) ≡ (a || (b || c))
or_assoc true b c = refl
or_assoc false b c = refl

pub and-true : (b : Bool) → (b && true) ≡ b
and-true true = refl
and-true false = refl

pub and-false : (b : Bool) → (b && false) ≡ false
and-false true = refl
and-false false = refl

-- one is true where the other is
pub same_tests : (a b : Bool) → (a ≡ true → b ≡ true) → (b ≡ true → a ≡ true) → a ≡ b
same_tests true b f g = sym (f refl)
same_tests false true f g = g refl
same_tests false false f g = refl

-- ---- some member passes
pub any_same : {X : Type 0} (f g : X → Bool) (xs : List X) → ((x : X) → In x xs → f x ≡ g x) → list_any f xs ≡ list_any g xs
any_same f g [] same = refl
any_same f g (x ∷ xs) same = ap₂ (λ a b. a || b) (same x (inl refl)) (any_same f g xs (λ y i. same y (inr i)))

pub any_none : {X : Type 0} (f : X → Bool) (xs : List X) → ((x : X) → In x xs → f x ≡ false) → list_any f xs ≡ false
any_none f [] none = refl
any_none f (x ∷ xs) none = ap₂ (λ a b. a || b) (none x (inl refl)) (any_none f xs (λ y i. none y (inr i)))

pub In-any : {X : Type 0} (f : X → Bool) (x : X) (xs : List X) → In x xs → f x ≡ true → list_any f xs ≡ true
In-any f x [] i e = absurd i
In-any f x (y ∷ ys) (inl q) e = or_left (f y) (list_any f ys) (ap f q ∙ e)
In-any f x (y ∷ ys) (inr i) e = or_right (f y) (list_any f ys) (In-any f x ys i e)

pub any-In : {X : Type 0} (f : X → Bool) (xs : List X) → list_any f xs ≡ true → (x : X) × In x xs × (f x ≡ true)
any-In f [] e = absurd (false≢true e)
any-In f (x ∷ xs) e =
    elim (or_cases (f x) (list_any f xs) e) [
      | inl q ↦ (x, inl refl, q)
      | inr q ↦ (let r = any-In f xs q in (r.0, inr r.1, r.2))
    ]

-- ---- among the numbers below n
pub any_below : (f : ℕ → Bool) (n k : ℕ) → k < n → f k ≡ true → list_any f (from_to 0 n) ≡ true
any_below f n k h e = In-any f k (from_to 0 n) (In-from_to 0 n k (omega arith) (omega arith)) e

pub none_below : (f : ℕ → Bool) (n : ℕ) → ((k : ℕ) → k < n → f k ≡ false) → list_any f (from_to 0 n) ≡ false
none_below f n none =
    any_none f (from_to 0 n) (λ k i. let r = from_to-In 0 n k i in none k (omega (arith, r.1)))

-- a list by its places
pub any_places : {X : Type 0} (f : X → Bool) (d : X) (g : ℕ → Bool) (k : ℕ) (xs : List X)
    → ((i j : ℕ) → i < length xs → j ≡ k + i → g j ≡ f (get_or xs i d)) → list_any g (from_to k (length xs)) ≡ list_any f xs
any_places f d g k [] same = refl
any_places f d g k (x ∷ xs) same =
    ap₂ (λ a b. a || b) (same 0 k (omega arith) (omega arith))
    (any_places f d g (suc k) xs (λ i j lt e. same (suc i) j (omega (arith, lt)) (omega (arith, e))))

-- ---- members by their places
pub In-get_or : {X : Type 0} (xs : List X) (i : ℕ) (d : X) → i < length xs → In (get_or xs i d) xs
In-get_or [] i d h = absurd (omega arith)
In-get_or (x ∷ xs) zero d h = inl refl
In-get_or (x ∷ xs) (suc i) d h = inr (In-get_or xs i d (omega arith))

pub get_or-In : {X : Type 0} (x : X) (xs : List X) (d : X) → In x xs → (i : ℕ) × (i < length xs) × (get_or xs i d ≡ x)
get_or-In x [] d h = absurd h
get_or-In x (y ∷ ys) d (inl e) = (0, omega arith, e)
get_or-In x (y ∷ ys) d (inr h) = let r = get_or-In x ys d h in (suc r.0, (let lt = r.1 in omega (arith, lt)), r.2)
