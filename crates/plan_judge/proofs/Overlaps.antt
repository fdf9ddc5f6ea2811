-- Parts that overlap: in any order of the parts, and in a sorted list, where neighbours tell.
use Rattle.std.proofs.Common.{ℕ, zero, suc, Bool, true, false, cond, not, ◌||◌, ◌≡◌, ◌+◌, ◌-◌, ◌<◌, ◌≤◌, ◌==◌, ◌⊎◌, List, [], ◌∷◌, refl}
use Rattle.std.proofs.Common.{length, map, get_or, set, ap, ◌∙◌, sym, subst, arith, inl, inr, leb, nat_lt, get_or-set_other}
use Rattle.std.proofs.Common.{get_or-set_same, length-set}
use Rattle.std.specs.List.{AllPairs, swap, list_any}
use Rattle.std.specs.List.Sorted.{IsPermutation, IsSorted}
use Rattle.std.specs.declared.cmp.Ordering.{Ordering}
use Rattle.std.specs.declared.cmp.Ordering.TheVariants.{Less, Equal, Greater}
use Rattle.std.specs.Ordering.{is_lt, nat_cmp, ordering_then}
use Rattle.std.proofs.lemmas.Bool.{both_ways, cases_Bool, cases_eq, cases_lt, cond-true, cond-false, eq-eqb, lt-ltb, le-ltb, true≢false}
use Rattle.std.proofs.lemmas.Bool.{false_from_ne_true, true_from_ne_false, leb-true, le-leb, not-false, not_from_true, or_cases, or_from}
use Rattle.std.proofs.lemmas.Bool.{or_left, or_right, or_parts}
use Rattle.std.proofs.lemmas.List.Edits.{swap_is}
use Rattle.std.proofs.lemmas.List.Folds.{list_any_at, list_any_none}
use Rattle.std.proofs.lemmas.List.Sorted.{IsPermutation-keeps, IsPermutation-sym}
use Rattle.plan_core.specs.Members.{Distinct, In}
use Rattle.plan_judge.specs.Causes.{are_apart, overlap}

abbrev pub Apart : ℕ × ℕ → ℕ × ℕ → Type 0
Apart x y = are_apart x y ≡ true

or-swap : (a b : Bool) → (a || b) ≡ true → (b || a) ≡ true
or-swap a b h = elim (or_cases a b h) [ inl e ↦ or_right b a e | inr e ↦ or_left b a e ]

Apart-sym : (x y : ℕ × ℕ) → Apart x y → Apart y x
Apart-sym x y h = or-swap (leb (x.0 + x.1) y.0) (leb (y.0 + y.1) x.0) h

-- ---- by places
pub apart_clear : (xs : List (ℕ × ℕ)) → AllPairs Apart xs → overlap xs ≡ false
apart_clear [] h = refl
apart_clear (x ∷ xs) h =
    or_from (list_any (λ y. not (are_apart x y)) xs) (overlap xs)
    (list_any_none (λ y. not (are_apart x y)) xs (λ k d l. not_from_true _ (h zero (suc k) d (omega arith) (omega arith))))
    (apart_clear xs (λ i j d a b. h (suc i) (suc j) d (omega arith) (omega arith)))

pub clear_apart : (xs : List (ℕ × ℕ)) → overlap xs ≡ false → AllPairs Apart xs
clear_apart [] e i j d a b = absurd (omega arith)
clear_apart (x ∷ xs) e zero zero d a b = absurd (omega arith)
clear_apart (x ∷ xs) e (suc i) zero d a b = absurd (omega arith)
clear_apart (x ∷ xs) e zero (suc j) d a b =
    not-false _ (false_from_ne_true _ (λ t. both_ways _ (or_parts _ _ e).0 (list_any_at (λ y. not (are_apart x y)) xs j d (omega arith) t)))
clear_apart (x ∷ xs) e (suc i) (suc j) d a b = clear_apart xs (or_parts _ _ e).1 i j d (omega arith) (omega arith)

-- ---- in another order
-- the element at k, once those at i and j have changed places, stood at m
abbrev Stood : ℕ → ℕ → ℕ → ℕ → Type 0
Stood i j k m = ((k ≡ j) × (m ≡ i)) ⊎ (((k ≡ j → ⊥) × (k ≡ i) × (m ≡ j)) ⊎ ((k ≡ j → ⊥) × (k ≡ i → ⊥) × (m ≡ k)))

record Before (l : List (ℕ × ℕ)) (i j k : ℕ) : Type 0 where
  m : ℕ
  within : m < length l
  stood : Stood i j k m
  is : (d : ℕ × ℕ) → get_or (swap l i j) k d ≡ get_or l m d

before : (l : List (ℕ × ℕ)) (i j k : ℕ) → i < length l → j < length l → k < length l → Before l i j k
before l i j k a b h =
    elim (cases_eq k j) [
      | inl e ↦ record {
        m = i;
        within = a;
        stood = inl (e, refl);
        is = λ d. ap (λ v. get_or v k d) (sym (swap_is l i j d a b))
            ∙ ap (λ v. get_or (set (set l i (get_or l j d)) j (get_or l i d)) v d) e
            ∙ get_or-set_same (set l i (get_or l j d)) j (get_or l i d) d (subst (λ n. j < n) (sym (length-set l i (get_or l j d))) b);
      }
      | inr ne ↦ elim (cases_eq k i) [
        | inl e ↦ record {
          m = j;
          within = b;
          stood = inr (inl (ne, e, refl));
          is = λ d. ap (λ v. get_or v k d) (sym (swap_is l i j d a b))
              ∙ get_or-set_other (set l i (get_or l j d)) j k (get_or l i d) d ne
              ∙ ap (λ v. get_or (set l i (get_or l j d)) v d) e
              ∙ get_or-set_same l i (get_or l j d) d a;
        }
        | inr away ↦ record {
          m = k;
          within = h;
          stood = inr (inr (ne, away, refl));
          is = λ d. ap (λ v. get_or v k d) (sym (swap_is l i j d a b))
              ∙ get_or-set_other (set l i (get_or l j d)) j k (get_or l i d) d ne
              ∙ get_or-set_other l i k (get_or l j d) d away;
        }
      ]
    ]

apart_places : (i j a b m n : ℕ) → Stood i j a m → Stood i j b n → a < b → m ≡ n → ⊥
apart_places i j a b m n (inl x) (inl y) h e = omega arith
apart_places i j a b m n (inl x) (inr (inl y)) h e = let f = y.0 in omega arith
apart_places i j a b m n (inl x) (inr (inr y)) h e = let f = y.1 in omega arith
apart_places i j a b m n (inr (inl x)) (inl y) h e = let f = x.0 in omega arith
apart_places i j a b m n (inr (inl x)) (inr (inl y)) h e = omega arith
apart_places i j a b m n (inr (inl x)) (inr (inr y)) h e = let f = y.0 in omega arith
apart_places i j a b m n (inr (inr x)) (inl y) h e = let f = x.1 in omega arith
apart_places i j a b m n (inr (inr x)) (inr (inl y)) h e = let f = x.0 in omega arith
apart_places i j a b m n (inr (inr x)) (inr (inr y)) h e = omega arith

-- at two places, in either order
either_way : (l : List (ℕ × ℕ)) → AllPairs Apart l → (m n : ℕ) (d : ℕ × ℕ) → m < length l → n < length l → (m ≡ n → ⊥)
    → Apart (get_or l m d) (get_or l n d)
either_way l h m n d a b ne =
    elim (cases_lt m n) [
      | inl c ↦ h m n d c b
      | inr c ↦ Apart-sym (get_or l n d) (get_or l m d) (h n m d (omega arith) a)
    ]

length-swapped : (l : List (ℕ × ℕ)) (i j : ℕ) (d : ℕ × ℕ) → i < length l → j < length l → length (swap l i j) ≡ length l
length-swapped l i j d x y =
    ap length (sym (swap_is l i j d x y))
    ∙ length-set (set l i (get_or l j d)) j (get_or l i d)
    ∙ length-set l i (get_or l j d)

swapped_apart : (l : List (ℕ × ℕ)) (i j : ℕ) → i < length l → j < length l → AllPairs Apart l → AllPairs Apart (swap l i j)
swapped_apart l i j x y h a b d lt in' =
    let s = length-swapped l i j d x y in
    let p = before l i j a x y (omega arith) in
    let q = before l i j b x y (omega arith) in
    subst (λ v. Apart v (get_or (swap l i j) b d)) (sym (p.is d))
    (subst (λ v. Apart (get_or l p.m d) v) (sym (q.is d))
    (either_way l h p.m q.m d p.within q.within (apart_places i j a b p.m q.m p.stood q.stood lt)))

pub permuted_apart : (xs ys : List (ℕ × ℕ)) → IsPermutation xs ys → AllPairs Apart xs → AllPairs Apart ys
permuted_apart xs ys p h = IsPermutation-keeps xs (λ l. AllPairs Apart l) h (λ l i j a b k. swapped_apart l i j a b k) ys p

-- ---- in a sorted list
abbrev in_order : ℕ × ℕ → ℕ × ℕ → Ordering
in_order x y = ordering_then (nat_cmp x.0 y.0) (nat_cmp x.1 y.1)

abbrev pub IsRising : List (ℕ × ℕ) → Type 0
IsRising xs = IsSorted (λ x y. ordering_then (nat_cmp x.0 y.0) (nat_cmp x.1 y.1)) xs

less : (a b : ℕ) → a < b → nat_cmp a b ≡ Less
less a b h = cond-true (nat_lt a b) Less (cond (a == b) Equal Greater) (lt-ltb a b h)

equal : (a b : ℕ) → a ≡ b → nat_cmp a b ≡ Equal
equal a b e =
    cond-false (nat_lt a b) Less (cond (a == b) Equal Greater) (le-ltb a b (omega arith))
    ∙ cond-true (a == b) Equal Greater (eq-eqb a b e)

pub rises : (a b c e : ℕ) → is_lt (ordering_then (nat_cmp a b) (nat_cmp c e)) ≡ false → (b ≤ a) × (a ≡ b → e ≤ c)
rises a b c e h = (
  elim (cases_lt a b) [
    | inl l ↦ absurd (true≢false (sym (ap (λ o. is_lt (ordering_then o (nat_cmp c e))) (less a b l)) ∙ h))
    | inr g ↦ g
  ],
  λ q. elim (cases_lt c e) [
    | inl l ↦ absurd (true≢false (sym (ap (λ o. is_lt (ordering_then o (nat_cmp c e))) (equal a b q)
        ∙ ap (λ o. is_lt (ordering_then Equal o)) (less c e l)) ∙ h))
    | inr g ↦ g
  ],
)

-- each but the first begins where the one before it has ended
abbrev pub FollowUpTo : List (ℕ × ℕ) → ℕ → Type 0
FollowUpTo xs n = (k : ℕ) (d : ℕ × ℕ) → 0 < k → k < n → (get_or xs (k - 1) d).0 + (get_or xs (k - 1) d).1 ≤ (get_or xs k d).0

follow_far : (xs : List (ℕ × ℕ)) → FollowUpTo xs (length xs) → (i j : ℕ) (d : ℕ × ℕ) → i < j → j < length xs
    → (get_or xs i d).0 + (get_or xs i d).1 ≤ (get_or xs j d).0
follow_far xs h i zero d a b = absurd (omega arith)
follow_far xs h i (suc j) d a b =
    let e : suc j - 1 ≡ j = omega arith in
    let s = subst (λ v. (get_or xs v d).0 + (get_or xs v d).1 ≤ (get_or xs (suc j) d).0) e (h (suc j) d (omega arith) b) in
    elim (cases_eq i j) [
      | inl q ↦ subst (λ v. (get_or xs v d).0 + (get_or xs v d).1 ≤ (get_or xs (suc j) d).0) (sym q) s
      | inr ne ↦ let f = follow_far xs h i j d (omega arith) (omega arith) in omega (arith, s, f)
    ]

pub follow_clear : (xs : List (ℕ × ℕ)) → FollowUpTo xs (length xs) → overlap xs ≡ false
follow_clear xs h = apart_clear xs (λ i j d a b. or_left _ _ (le-leb _ _ (follow_far xs h i j d a b)))

-- a part that begins within the one before it
pub within_overlaps : (xs : List (ℕ × ℕ)) (k : ℕ) (d : ℕ × ℕ) → IsRising xs → 0 < k → k < length xs
    → (get_or xs k d).0 < (get_or xs (k - 1) d).0 + (get_or xs (k - 1) d).1 → overlap xs ≡ true
within_overlaps xs k d up pos in' h =
    true_from_ne_false (overlap xs) (λ e. refute (or_cases _ _ (clear_apart xs e (k - 1) k d (omega arith) in')))
  where
    order : ((get_or xs (k - 1) d).0 ≤ (get_or xs k d).0)
        × ((get_or xs k d).0 ≡ (get_or xs (k - 1) d).0 → (get_or xs (k - 1) d).1 ≤ (get_or xs k d).1)
    order =
        let e : (k - 1) + 1 ≡ k = omega arith in
        rises (get_or xs k d).0 (get_or xs (k - 1) d).0 (get_or xs k d).1 (get_or xs (k - 1) d).1
        (subst (λ v. is_lt (in_order (get_or xs v d) (get_or xs (k - 1) d)) ≡ false) e (up (k - 1) d (omega arith) (omega arith)))

    refute : (leb ((get_or xs (k - 1) d).0 + (get_or xs (k - 1) d).1) (get_or xs k d).0 ≡ true)
        ⊎ (leb ((get_or xs k d).0 + (get_or xs k d).1) (get_or xs (k - 1) d).0 ≡ true) → ⊥
    refute (inl t) = let q = leb-true _ _ t in omega (arith, q, h)
    refute (inr t) =
        let q = leb-true _ _ t in
        let o = order in
        let m = o.0 in
        let w = o.1 (omega (arith, q, m)) in
        omega (arith, q, h, m, w)

-- ---- by members
list_any_out : {X Y : Type 0} (t : Y → Bool) (f : X → Y) (xs : List X) (x : X) → list_any t (map f xs) ≡ false → In x xs → t (f x) ≡ false
list_any_out t f [] x e i = absurd i
list_any_out t f (y ∷ ys) x e (inl q) = ap (λ v. t (f v)) (sym q) ∙ (or_parts _ _ e).0
list_any_out t f (y ∷ ys) x e (inr i) = list_any_out t f ys x (or_parts _ _ e).1 i

out_list_any : {X Y : Type 0} (t : Y → Bool) (f : X → Y) (xs : List X) → ((x : X) → In x xs → t (f x) ≡ false)
    → list_any t (map f xs) ≡ false
out_list_any t f [] h = refl
out_list_any t f (y ∷ ys) h = or_from _ _ (h y (inl refl)) (out_list_any t f ys (λ x i. h x (inr i)))

pub clear_members : {X : Type 0} (f : X → ℕ × ℕ) (xs : List X) → overlap (map f xs) ≡ false → (x y : X) → In x xs → In y xs
    → (x ≡ y → ⊥) → Apart (f x) (f y)
clear_members f [] e x y i j ne = absurd i
clear_members f (z ∷ zs) e x y (inl a) (inl b) ne = absurd (ne (sym a ∙ b))
clear_members f (z ∷ zs) e x y (inl a) (inr j) ne =
    subst (λ v. Apart (f v) (f y)) a (not-false _ (list_any_out (λ v. not (are_apart (f z) v)) f zs y (or_parts _ _ e).0 j))
clear_members f (z ∷ zs) e x y (inr i) (inl b) ne =
    Apart-sym (f y) (f x)
    (subst (λ v. Apart (f v) (f x)) b (not-false _ (list_any_out (λ v. not (are_apart (f z) v)) f zs x (or_parts _ _ e).0 i)))
clear_members f (z ∷ zs) e x y (inr i) (inr j) ne = clear_members f zs (or_parts _ _ e).1 x y i j ne

pub members_clear : {X : Type 0} (f : X → ℕ × ℕ) (xs : List X) → Distinct xs
    → ((x y : X) → In x xs → In y xs → (x ≡ y → ⊥) → Apart (f x) (f y)) → overlap (map f xs) ≡ false
members_clear f [] d h = refl
members_clear f (z ∷ zs) d h =
    or_from _ _
    (out_list_any (λ v. not (are_apart (f z) v)) f zs
    (λ x i. not_from_true _ (h z x (inl refl) (inr i) (λ q. d.0 (subst (λ v. In v zs) (sym q) i)))))
    (members_clear f zs d.1 (λ x y i j. h x y (inr i) (inr j)))

-- ---- the same parts in another order
clear_back : (xs ys : List (ℕ × ℕ)) → IsPermutation xs ys → overlap ys ≡ false → overlap xs ≡ false
clear_back xs ys p e = apart_clear xs (permuted_apart ys xs (IsPermutation-sym xs ys p) (clear_apart ys e))

pub permuted_overlap : (xs ys : List (ℕ × ℕ)) → IsPermutation xs ys → overlap ys ≡ overlap xs
permuted_overlap xs ys p =
    elim (cases_Bool (overlap xs)) [
      | inl t ↦ true_from_ne_false (overlap ys) (λ e. both_ways (overlap xs) (clear_back xs ys p e) t) ∙ sym t
      | inr f ↦ apart_clear ys (permuted_apart xs ys p (clear_apart xs f)) ∙ sym f
    ]
