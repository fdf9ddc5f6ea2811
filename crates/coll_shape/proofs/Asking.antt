-- What is asked of A holds exactly where its test passes.
use Rattle.std.proofs.Common.{◌≡◌, ℕ, zero, suc, ◌<◌, ◌%◌, Bool, true, false, List, [], ◌∷◌, length, get_or, refl, ◌∙◌, ap, cond, filter}
use Rattle.std.proofs.Common.{arith, inl, inr}
use Rattle.std.specs.Prelude.{◌&&◌, ◌||◌, ◌==◌, ◌⊎◌, count_by}
use Rattle.std.specs.List.{list_all, list_any}
use Rattle.std.proofs.lemmas.Bool.Decides.{nat_tests}
use Rattle.std.proofs.lemmas.List.Sums.{length-filter}
use Rattle.number_lists.specs.Members.{In}
use Rattle.number_lists.specs.Numbers.{from_to}
use Rattle.coll_shape.specs.declared.types.Buffer.{Buffer}
use Rattle.coll_shape.specs.declared.types.CollStep.{CollStep}
use Rattle.coll_shape.specs.Collectives.{Asked, Nothing, HeldAt, HeldAtInBlocks, HeldByAll, HeldByAllInBlocks, HeldBySome, is_in}
use Rattle.coll_shape.specs.Collectives.{has_blocks, has_what_is_asked, HasAsked, HasBlocks, AllHold, holding_places, asks_of, can_read}
use Rattle.coll_shape.specs.Collectives.{Reads}

either : (b c : Bool) → (b || c) ≡ true → (b ≡ true) ⊎ (c ≡ true)
either true c e = inl refl
either false c e = inr e

both : (b c : Bool) → (b && c) ≡ true → (b ≡ true) × (c ≡ true)
both true c e = (refl, e)
both false c e = cc

and_true : (b c : Bool) → b ≡ true → c ≡ true → (b && c) ≡ true
and_true true c e f = f
and_true false c e f = cc

or_right : (b c : Bool) → c ≡ true → (b || c) ≡ true
or_right true c e = refl
or_right false c e = e

equal : (x y : ℕ) → (y == x) ≡ true → y ≡ x
equal x y e = grind (arith, nat_tests)

same : (x y : ℕ) → y ≡ x → (y == x) ≡ true
same x y e = grind (arith, nat_tests)

pub is_in-In : (x : ℕ) (ys : List ℕ) → is_in x ys ≡ true → In x ys
is_in-In x [] e = cc
is_in-In x (y ∷ ys) e = of (either (y == x) (is_in x ys) e) (λ f. is_in-In x ys f)
  where
    of : ((y == x) ≡ true) ⊎ (is_in x ys ≡ true) → (is_in x ys ≡ true → In x ys) → In x (y ∷ ys)
    of (inl f) rest = inl (equal x y f)
    of (inr f) rest = inr (rest f)

pub In-is_in : (x : ℕ) (ys : List ℕ) → In x ys → is_in x ys ≡ true
In-is_in x [] h = absurd h
In-is_in x (y ∷ ys) (inl e) = ap (λ b. b || is_in x ys) (same x y e)
In-is_in x (y ∷ ys) (inr h) = or_right (y == x) (is_in x ys) (In-is_in x ys h)

all_at : (p : ℕ → Bool) (g : List ℕ) → list_all p g ≡ true → (i : ℕ) → i < length g → p (get_or g i 0) ≡ true
all_at p [] e i l = absurd (omega arith)
all_at p (r ∷ rs) e zero l = (both (p r) (list_all p rs) e).0
all_at p (r ∷ rs) e (suc i) l = all_at p rs (both (p r) (list_all p rs) e).1 i (omega arith)

all_from : (p : ℕ → Bool) (g : List ℕ) → ((i : ℕ) → i < length g → p (get_or g i 0) ≡ true) → list_all p g ≡ true
all_from p [] h = refl
all_from p (r ∷ rs) h = and_true (p r) (list_all p rs) (h 0 (omega arith)) (all_from p rs (λ i l. h (suc i) (omega arith)))

any_at : (p : ℕ → Bool) (g : List ℕ) → list_any p g ≡ true → (i : ℕ) × (i < length g) × (p (get_or g i 0) ≡ true)
any_at p [] e = cc
any_at p (r ∷ rs) e = of (either (p r) (list_any p rs) e) (λ f. any_at p rs f)
  where
    of : (p r ≡ true) ⊎ (list_any p rs ≡ true) → (list_any p rs ≡ true → (i : ℕ) × (i < length rs) × (p (get_or rs i 0) ≡ true)) →
        (i : ℕ) × (i < length (r ∷ rs)) × (p (get_or (r ∷ rs) i 0) ≡ true)
    of (inl f) rest = (0, omega arith, f)
    of (inr f) rest = let h = rest f in let l = h.1 in (suc h.0, omega (arith, l), h.2)

any_from : (p : ℕ → Bool) (g : List ℕ) (i : ℕ) → i < length g → p (get_or g i 0) ≡ true → list_any p g ≡ true
any_from p [] i l e = absurd (omega arith)
any_from p (r ∷ rs) zero l e = ap (λ b. b || list_any p rs) e
any_from p (r ∷ rs) (suc i) l e = or_right (p r) (list_any p rs) (any_from p rs i (omega arith) e)

all_hold : (g : List ℕ) (x : Buffer) → list_all (λ r. is_in r x.spread.holders) g ≡ true → AllHold g x
all_hold g x e i l = is_in-In (get_or g i 0) x.spread.holders (all_at (λ r. is_in r x.spread.holders) g e i l)

all_test : (g : List ℕ) (x : Buffer) → AllHold g x → list_all (λ r. is_in r x.spread.holders) g ≡ true
all_test g x h = all_from (λ r. is_in r x.spread.holders) g (λ i l. In-is_in (get_or g i 0) x.spread.holders (h i l))

blocks : (g : List ℕ) (x : Buffer) → has_blocks g x ≡ true → HasBlocks g x
blocks g x e = equal 0 (x.spread.length % length g) e

blocks_test : (g : List ℕ) (x : Buffer) → HasBlocks g x → has_blocks g x ≡ true
blocks_test g x e = same 0 (x.spread.length % length g) e

pub has-asked : (g : List ℕ) (x : Buffer) (a : Asked) → has_what_is_asked g x a ≡ true → HasAsked g x a
has-asked g x Nothing e = tt
has-asked g x (HeldAt root) e = is_in-In (get_or g root 0) x.spread.holders e
has-asked g x (HeldAtInBlocks root) e =
    let h = both (is_in (get_or g root 0) x.spread.holders) (has_blocks g x) e in
    (is_in-In (get_or g root 0) x.spread.holders h.0, blocks g x h.1)
has-asked g x HeldByAll e = all_hold g x e
has-asked g x HeldByAllInBlocks e =
    let h = both (list_all (λ r. is_in r x.spread.holders) g) (has_blocks g x) e in
    (all_hold g x h.0, blocks g x h.1)
has-asked g x HeldBySome e =
    let h = any_at (λ r. is_in r x.spread.holders) g e in
    (h.0, h.1, is_in-In (get_or g h.0 0) x.spread.holders h.2)

pub asked-test : (g : List ℕ) (x : Buffer) (a : Asked) → HasAsked g x a → has_what_is_asked g x a ≡ true
asked-test g x Nothing h = refl
asked-test g x (HeldAt root) h = In-is_in (get_or g root 0) x.spread.holders h
asked-test g x (HeldAtInBlocks root) h = and_true (is_in (get_or g root 0) x.spread.holders) (has_blocks g x)
    (In-is_in (get_or g root 0) x.spread.holders h.0) (blocks_test g x h.1)
asked-test g x HeldByAll h = all_test g x h
asked-test g x HeldByAllInBlocks h = and_true (list_all (λ r. is_in r x.spread.holders) g) (has_blocks g x) (all_test g x h.0)
    (blocks_test g x h.1)
asked-test g x HeldBySome h = any_from (λ r. is_in r x.spread.holders) g h.0 h.1 (In-is_in (get_or g h.0 0) x.spread.holders h.2)

-- a step can read A exactly where A is as it asks
pub reads-can : (g : List ℕ) (step : CollStep) (x : Buffer) → can_read g step x ≡ true → Reads g step x
reads-can g step x e = has-asked g x (asks_of step) e

pub can-reads : (g : List ℕ) (step : CollStep) (x : Buffer) → Reads g step x → can_read g step x ≡ true
can-reads g step x h = asked-test g x (asks_of step) h

-- ---- how many members hold A

shifted : (f : ℕ → Bool) (k n : ℕ) → length (filter f (from_to (suc k) n)) ≡ length (filter (λ i. f (suc i)) (from_to k n))
shifted f k zero = refl
shifted f k (suc n) = one (f (suc k)) (filter f (from_to (suc (suc k)) n)) (filter (λ i. f (suc i)) (from_to (suc k) n))
    (shifted f (suc k) n)
  where
    one : (b : Bool) (xs ys : List ℕ) → length xs ≡ length ys → length (cond b (suc k ∷ xs) xs) ≡ length (cond b (k ∷ ys) ys)
    one true xs ys e = ap (λ v. suc v) e
    one false xs ys e = e

places_passed : (t : ℕ → Bool) (g : List ℕ) → length (filter (λ i. t (get_or g i 0)) (from_to 0 (length g))) ≡ length (filter t g)
places_passed t [] = refl
places_passed t (r ∷ rs) =
    one (t r) (filter (λ i. t (get_or (r ∷ rs) i 0)) (from_to 1 (length rs))) (filter t rs)
    (shifted (λ i. t (get_or (r ∷ rs) i 0)) 0 (length rs) ∙ places_passed t rs)
  where
    one : (b : Bool) (xs ys : List ℕ) → length xs ≡ length ys → length (cond b (0 ∷ xs) xs) ≡ length (cond b (r ∷ ys) ys)
    one true xs ys e = ap (λ v. suc v) e
    one false xs ys e = e

pub places_counted : (g holders : List ℕ) → length (holding_places g holders) ≡ count_by (λ r. is_in r holders) g
places_counted g holders = places_passed (λ r. is_in r holders) g ∙ length-filter (λ r. is_in r holders) g
