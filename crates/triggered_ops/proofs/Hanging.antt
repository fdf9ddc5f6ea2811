-- Lists of places in the order of their thresholds, and what hangs on them.
use Rattle.std.proofs.Common.{◌≡◌, ◌≢◌, ℕ, zero, suc, ◌+◌, ◌*◌, ◌<◌, ◌≤◌, Bool, true, false, cond, nat_eq, ◌||◌, List, [], ◌∷◌, ◌++◌}
use Rattle.std.proofs.Common.{length, get_or, set, Option, Some, None, refl, sym, ap, subst, ◌∙◌, inl, inr, arith, length-set}
use Rattle.std.specs.Prelude.{◌⊎◌, slice_get, IfSome}
use Rattle.std.proofs.lemmas.Bool.{ne_eqb, eq-eqb}
use Rattle.std.proofs.lemmas.Bool.Decides.{eqb_tells}
use Rattle.std.proofs.lemmas.List.{append_assoc, get_or-set_same, get_or-set_other, length-map, append-nil}
use Rattle.ptl_types.specs.declared.handles.Handle.{Handle}
use Rattle.ptl_types.specs.Handles.{same_handle}
use Rattle.chain_list.specs.threads.Threads.{Woven, thread, is_on, first_place, place_after, last_after, last_place, without, without_place}
use Rattle.chain_list.specs.threads.Threads.{placed_after, AreApart}
use Rattle.chain_list.proofs.threads.ThreadLemmas.{get-map}
use Rattle.triggered_ops.specs.declared.spots.Wait.{Wait}
use Rattle.triggered_ops.specs.Hung.{is_stamp, belongs, home, is_home, threshold_of, Ascending, IsHung, rest_after, next_in, IsGap}

-- ---- what stands on a list
pub on-append : (q : ℕ) (xs ys : List ℕ) → is_on q (xs ++ ys) ≡ (is_on q xs || is_on q ys)
on-append q [] ys = refl
on-append q (x ∷ xs) ys = elim (nat_eq x q) as (λ b. (b || is_on q (xs ++ ys)) ≡ ((b || is_on q xs) || is_on q ys)) [
  | true ↦ refl
  | false ↦ on-append q xs ys
]

or_right : (a b : Bool) → b ≡ true → (a || b) ≡ true
or_right true b e = refl
or_right false b e = e

or_swap : (a b c : Bool) → (a || (b || c)) ≡ (b || (a || c))
or_swap true true c = refl
or_swap true false c = refl
or_swap false b c = refl

pub on-left : (q : ℕ) (xs ys : List ℕ) → is_on q xs ≡ true → is_on q (xs ++ ys) ≡ true
on-left q xs ys on = on-append q xs ys ∙ ap (λ b. b || is_on q ys) on

pub on-right : (q : ℕ) (xs ys : List ℕ) → is_on q ys ≡ true → is_on q (xs ++ ys) ≡ true
on-right q xs ys on = on-append q xs ys ∙ or_right (is_on q xs) (is_on q ys) on

pub on-either : (q : ℕ) (xs ys : List ℕ) → is_on q (xs ++ ys) ≡ true → (is_on q xs ≡ true) ⊎ (is_on q ys ≡ true)
on-either q xs ys on =
    elim (is_on q xs) as (λ b. (b || is_on q ys) ≡ true → (b ≡ true) ⊎ (is_on q ys ≡ true)) [
      | true ↦ λ e. inl refl
      | false ↦ λ e. inr e
    ] (sym (on-append q xs ys) ∙ on)

pub on-insert : (q p : ℕ) (xs ys : List ℕ) → is_on q (xs ++ p ∷ ys) ≡ (nat_eq p q || is_on q (xs ++ ys))
on-insert q p [] ys = refl
on-insert q p (x ∷ xs) ys = ap (λ b. nat_eq x q || b) (on-insert q p xs ys) ∙ or_swap (nat_eq x q) (nat_eq p q) (is_on q (xs ++ ys))

pub on-here : (p : ℕ) (xs ys : List ℕ) → is_on p (xs ++ p ∷ ys) ≡ true
on-here p xs ys = on-insert p p xs ys ∙ ap (λ b. b || is_on p (xs ++ ys)) (eq-eqb p p refl)

pub on-without : (q p : ℕ) (xs : List ℕ) → is_on q (without p xs) ≡ cond (nat_eq q p) false (is_on q xs)
on-without q p [] = elim (nat_eq q p) as (λ b. false ≡ cond b false false) [ true ↦ refl | false ↦ refl ]
on-without q p (x ∷ xs) = elim (eqb_tells x p) [
  | inl same ↦
      let rest : is_on q (without p xs) ≡ cond (nat_eq q p) false (is_on q xs) = on-without q p xs in
      let out : without p (x ∷ xs) ≡ without p xs = rw same.0 refl in
      ap (is_on q) out ∙ rest ∙ elim (eqb_tells q p) [
        | inl at ↦ rw at.0 refl
        | inr apart ↦ let other : nat_eq x q ≡ false = ne_eqb x q (λ e. apart.1 (sym e ∙ same.1)) in rw (apart.0, other) refl
      ]
  | inr other ↦
      let kept : without p (x ∷ xs) ≡ x ∷ without p xs = rw other.0 refl in
      ap (is_on q) kept ∙ ap (λ b. nat_eq x q || b) (on-without q p xs) ∙ elim (eqb_tells q p) [
        | inl at ↦ let off : nat_eq x q ≡ false = ne_eqb x q (λ e. other.1 (e ∙ at.1)) in rw (at.0, off) refl
        | inr apart ↦ rw apart.0 refl
      ]
]

-- what is left stood there, and is another
pub left-on : (q p : ℕ) (xs : List ℕ) → is_on q (without p xs) ≡ true → (nat_eq q p ≡ false) × (is_on q xs ≡ true)
left-on q p xs on =
    elim (nat_eq q p) as (λ b. cond b false (is_on q xs) ≡ true → (b ≡ false) × (is_on q xs ≡ true)) [
      | true ↦ λ e. cc
      | false ↦ λ e. (refl, e)
    ] (sym (on-without q p xs) ∙ on)

pub without-append : (p : ℕ) (xs ys : List ℕ) → without p (xs ++ ys) ≡ without p xs ++ without p ys
without-append p [] ys = refl
without-append p (x ∷ xs) ys =
    elim (nat_eq x p) as (λ b. cond b (without p (xs ++ ys)) (x ∷ without p (xs ++ ys)) ≡ cond b (without p xs) (x ∷ without p xs) ++
    without p ys) [
      | true ↦ without-append p xs ys
      | false ↦ ap (λ r. x ∷ r) (without-append p xs ys)
    ]

pub length-without : (p : ℕ) (xs : List ℕ) → length (without p xs) ≤ length xs
length-without p [] = omega arith
length-without p (x ∷ xs) =
    let rest = length-without p xs in
    elim (nat_eq x p) as (λ b. length (cond b (without p xs) (x ∷ without p xs)) ≤ suc (length xs)) [
      | true ↦ omega (arith, rest)
      | false ↦ omega (arith, rest)
    ]

pub length-taken : (p : ℕ) (xs : List ℕ) → is_on p xs ≡ true → length (without p xs) < length xs
length-taken p [] on = cc
length-taken p (x ∷ xs) on =
    elim (nat_eq x p) as (λ b. (b || is_on p xs) ≡ true → length (cond b (without p xs) (x ∷ without p xs)) < suc (length xs)) [
      | true ↦ λ e. let le = length-without p xs in omega (arith, le)
      | false ↦ λ e. let rest = length-taken p xs e in omega (arith, rest)
    ] on

-- ---- the ends
pub first-cons : (ps : List ℕ) (p : ℕ) → first_place ps ≡ Some p → (rest : List ℕ) × (ps ≡ p ∷ rest)
first-cons [] p e = cc
first-cons (q ∷ ps) p e = let same : q ≡ p = cc in (ps, ap (λ i. i ∷ ps) same)

pub first-none : (ps : List ℕ) → first_place ps ≡ None → ps ≡ []
first-none [] e = refl
first-none (q ∷ ps) e = cc

last-cons : (b q : ℕ) (ps : List ℕ) → last_after (Some b) ps ≡ Some q → (front : List ℕ) × (b ∷ ps ≡ front ++ q ∷ [])
last-cons b q [] e = let same : b ≡ q = cc in ([], ap (λ i. i ∷ []) same)
last-cons b q (p ∷ ps) e = let r = last-cons p q ps e in (b ∷ r.0, ap (λ l. b ∷ l) r.1)

pub last-snoc : (ps : List ℕ) (q : ℕ) → last_place ps ≡ Some q → (front : List ℕ) × (ps ≡ front ++ q ∷ [])
last-snoc [] q e = cc
last-snoc (p ∷ ps) q e = last-cons p q ps e

last-some : (b : ℕ) (ps : List ℕ) → last_after (Some b) ps ≡ None → ⊥
last-some b [] e = cc
last-some b (p ∷ ps) e = last-some p ps e

pub last-none : (ps : List ℕ) → last_place ps ≡ None → ps ≡ []
last-none [] e = refl
last-none (p ∷ ps) e = absurd (last-some p ps e)

-- ---- the order of the thresholds
module _ (at : ℕ → Option Wait) where
  abbrev thr : ℕ → ℕ
  thr p = threshold_of (at p)

  pub asc-without : (p : ℕ) (zs : List ℕ) → Ascending at zs → Ascending at (without p zs)
  asc-without p [] a = tt
  asc-without p (z ∷ zs) a =
      elim (nat_eq z p) as (λ b. Ascending at (cond b (without p zs) (z ∷ without p zs))) [
        | true ↦ asc-without p zs a.1
        | false ↦ ((λ q on. a.0 q (left-on q p zs on).1), asc-without p zs a.1)
      ]

  pub asc-right : (xs ys : List ℕ) → Ascending at (xs ++ ys) → Ascending at ys
  asc-right [] ys a = a
  asc-right (x ∷ xs) ys a = asc-right xs ys a.1

  pub asc-left : (xs ys : List ℕ) → Ascending at (xs ++ ys) → Ascending at xs
  asc-left [] ys a = tt
  asc-left (x ∷ xs) ys a = ((λ q on. a.0 q (on-left q xs ys on)), asc-left xs ys a.1)

  pub asc-above : (xs : List ℕ) (p : ℕ) (ys : List ℕ) → Ascending at (xs ++ p ∷ ys) → (q : ℕ) → is_on q ys ≡ true → thr p ≤ thr q
  asc-above [] p ys a q on = a.0 q on
  asc-above (x ∷ xs) p ys a q on = asc-above xs p ys a.1 q on

  pub asc-below : (xs : List ℕ) (p : ℕ) (ys : List ℕ) → Ascending at (xs ++ p ∷ ys) → (q : ℕ) → is_on q xs ≡ true → thr q ≤ thr p
  asc-below [] p ys a q on = cc
  asc-below (x ∷ xs) p ys a q on = elim (eqb_tells x q) [
    | inl same ↦ subst (λ i. thr i ≤ thr p) same.1 (a.0 p (on-here p xs ys))
    | inr other ↦ asc-below xs p ys a.1 q (rw other.0 at on)
  ]

  pub asc-insert : (p : ℕ) (xs ys : List ℕ) → Ascending at (xs ++ ys) → ((q : ℕ) → is_on q xs ≡ true → thr q ≤ thr p) →
      ((q : ℕ) → is_on q ys ≡ true → thr p ≤ thr q) → Ascending at (xs ++ p ∷ ys)
  asc-insert p [] ys a low high = (high, a)
  asc-insert p (x ∷ xs) ys a low high = (
    λ q on. elim (eqb_tells p q) [
      | inl same ↦ subst (λ i. thr x ≤ thr i) same.1 (low x (ap (λ b. b || is_on x xs) (eq-eqb x x refl)))
      | inr other ↦ a.0 q (let e : is_on q (xs ++ p ∷ ys) ≡ is_on q (xs ++ ys) = on-insert q p xs ys
          ∙ ap (λ b. b || is_on q (xs ++ ys)) other.0 in sym e ∙ on)
    ],
    asc-insert p xs ys a.1 (λ q on. low q (or_right (nat_eq x q) (is_on q xs) on)) high,
  )

pub asc-same : (at new : ℕ → Option Wait) (zs : List ℕ) → ((q : ℕ) → is_on q zs ≡ true → threshold_of (new q) ≡ threshold_of (at q)) →
    Ascending at zs → Ascending new zs
asc-same at new [] e a = tt
asc-same at new (z ∷ zs) e a =
    let here : threshold_of (new z) ≡ threshold_of (at z) = e z (ap (λ b. b || is_on z zs) (eq-eqb z z refl)) in
    let more = λ (q : ℕ) (on : is_on q zs ≡ true). e q (or_right (nat_eq z q) (is_on q zs) on) in
    ((λ q on. let there = more q on in let le = a.0 q on in omega (arith, here, there, le)), asc-same at new zs more a.1)

-- ---- threads
pub thread-without : (j p : ℕ) (w : Woven) → thread j (without_place p w) ≡ without p (thread j w)
thread-without j p w = get-map (without p) w.threads j refl

-- ---- the list of an operation
other_slot : (a b : Handle) → (a.slot ≡ b.slot → ⊥) → same_handle a b ≡ false
other_slot a b n =
    let apart : nat_eq a.slot b.slot ≡ false = ne_eqb a.slot b.slot n in
    elim (eqb_tells a.stamp b.stamp) [ inl t ↦ rw (t.0, apart) refl | inr f ↦ rw f.0 refl ]

other_stamp : (a b : Handle) → (a.stamp ≡ b.stamp → ⊥) → same_handle a b ≡ false
other_stamp a b n = let apart : nat_eq a.stamp b.stamp ≡ false = ne_eqb a.stamp b.stamp n in rw apart refl

pub handle-same : (a b : Handle) → same_handle a b ≡ true → a ≡ b
handle-same a b e =
    let slot : a.slot ≡ b.slot = elim (eqb_tells a.slot b.slot) [ inl t ↦ t.1 | inr f ↦ let g = other_slot a b f.1 in cc ] in
    let stamp : a.stamp ≡ b.stamp = elim (eqb_tells a.stamp b.stamp) [ inl t ↦ t.1 | inr f ↦ let g = other_stamp a b f.1 in cc ] in
    λ i. record { slot = slot i; stamp = stamp i }

slot-within : (stamps : List ℕ) (k stamp : ℕ) → is_stamp (slice_get stamps k) stamp ≡ true → k < length stamps
slot-within [] k stamp e = cc
slot-within (s ∷ ss) zero stamp e = omega arith
slot-within (s ∷ ss) (suc k) stamp e = let r = slot-within ss k stamp e in omega (arith, r)

pub belongs-within : (stamps : List ℕ) (ct : Handle) → belongs stamps ct ≡ true → ct.slot < length stamps
belongs-within stamps ct e = slot-within stamps ct.slot ct.stamp e

get-past : (xs : List ℕ) (k : ℕ) → length xs ≤ k → slice_get xs k ≡ None
get-past [] k le = refl
get-past (x ∷ xs) zero le = absurd (omega (arith, le))
get-past (x ∷ xs) (suc k) le = get-past xs k (omega (arith, le))

pub belongs-past : (stamps : List ℕ) (ct : Handle) → length stamps ≤ ct.slot → belongs stamps ct ≡ false
belongs-past stamps ct le = ap (λ o. is_stamp o ct.stamp) (get-past stamps ct.slot le)

pub home-due : (stamps : List ℕ) (ct : Handle) → belongs stamps ct ≡ true → home stamps ct true ≡ 2 * ct.slot
home-due stamps ct e = rw e (omega arith)

pub home-waiting : (stamps : List ℕ) (ct : Handle) → belongs stamps ct ≡ true → home stamps ct false ≡ 2 * ct.slot + 1
home-waiting stamps ct e = rw e refl

pub home-lists : (stamps : List ℕ) (ct : Handle) (due : Bool) → belongs stamps ct ≡ true → home stamps ct due ≡ 2 * ct.slot + cond due 0 1
home-lists stamps ct due e = rw e refl

pub home-stray : (stamps : List ℕ) (ct : Handle) (due : Bool) → belongs stamps ct ≡ false → home stamps ct due ≡ 2 * length stamps
home-stray stamps ct due e = rw e refl

-- two counting events that have the lists of one slot are one
stamp-same : (o : Option ℕ) (a b : ℕ) → is_stamp o a ≡ true → is_stamp o b ≡ true → a ≡ b
stamp-same None a b e f = cc
stamp-same (Some s) a b e f = elim (eqb_tells s a) [
  | inl x ↦ elim (eqb_tells s b) [
    | inl y ↦ sym x.1 ∙ y.1
    | inr n ↦ let no : true ≡ false = sym f ∙ n.0 in cc
  ]
  | inr n ↦ let no : true ≡ false = sym e ∙ n.0 in cc
]

pub belongs-same : (stamps : List ℕ) (a b : Handle) → belongs stamps a ≡ true → belongs stamps b ≡ true → a.slot ≡ b.slot →
    same_handle a b ≡ true
belongs-same stamps a b e f s =
    let stamp : a.stamp ≡ b.stamp = stamp-same (slice_get stamps b.slot) a.stamp b.stamp
    (subst (λ i. is_stamp (slice_get stamps i) a.stamp ≡ true) s e) f in
    rw (eq-eqb a.stamp b.stamp stamp, eq-eqb a.slot b.slot s) refl

at_most : (due : Bool) → cond due 0 1 ≤ 1
at_most true = omega arith
at_most false = omega arith

pub home-within : (stamps : List ℕ) (ct : Handle) (due : Bool) → home stamps ct due < 2 * length stamps + 1
home-within stamps ct due =
    elim (belongs stamps ct) as (λ b. belongs stamps ct ≡ b → cond b (2 * ct.slot + cond due 0 1) (2 * length stamps) < 2 * length stamps
    + 1) [
      | true ↦ λ e. let w = belongs-within stamps ct e in omega (arith, w, at_most due)
      | false ↦ λ e. omega arith
    ] refl

-- ---- an operation is taken off, or hung
module _ (at : ℕ → Option Wait) (w : Woven) (stamps : List ℕ) (h : IsHung at w stamps) where
  -- what is on a list waits
  pub hung-home : (k p : ℕ) → is_on p (thread k w) ≡ true → (x : Wait) × (at p ≡ Some x) × (home stamps x.ct x.due ≡ k)
  hung-home k p on = go (at p) refl (sym (h.hung k p) ∙ on)
    where
      go : (o : Option Wait) → at p ≡ o → is_home stamps k o ≡ true → (x : Wait) × (at p ≡ Some x) × (home stamps x.ct x.due ≡ k)
      go None e is = cc
      go (Some x) e is = (
        x,
        e,
        elim (eqb_tells (home stamps x.ct x.due) k) [
          | inl same ↦ same.1
          | inr other ↦ let none : false ≡ true = sym other.0 ∙ is in cc
        ],
      )

  pub home-hung : (k p : ℕ) (x : Wait) → at p ≡ Some x → home stamps x.ct x.due ≡ k → is_on p (thread k w) ≡ true
  home-hung k p x e is = h.hung k p ∙ ap (is_home stamps k) e ∙ eq-eqb (home stamps x.ct x.due) k is

  pub none-on : (k p : ℕ) → at p ≡ None → is_on p (thread k w) ≡ false
  none-on k p e = h.hung k p ∙ ap (is_home stamps k) e

  pub unhung : (p : ℕ) → IsHung (λ q. cond (nat_eq q p) None (at q)) (without_place p w) stamps
  unhung p = record {
    many = length-map w.threads (without p) ∙ h.many;
    hung = λ k q. ap (is_on q) (thread-without k p w) ∙ on-without q p (thread k w)
        ∙ elim (nat_eq q p) as (λ b. cond b false (is_on q (thread k w)) ≡ is_home stamps k (cond b None (at q))) [
          | true ↦ refl
          | false ↦ h.hung k q
        ];
    ordered = λ j lt.
        let zs = thread (2 * j) w ++ thread (2 * j + 1) w in
        let is : thread (2 * j) (without_place p w) ++ thread (2 * j + 1) (without_place p w) ≡ without p zs =
        (λ i. thread-without (2 * j) p w i ++ thread-without (2 * j + 1) p w i)
        ∙ sym (without-append p (thread (2 * j) w) (thread (2 * j + 1) w)) in
        subst (Ascending (λ q. cond (nat_eq q p) None (at q))) (sym is)
        (asc-same at (λ q. cond (nat_eq q p) None (at q)) (without p zs)
        (λ q on. ap (λ b. threshold_of (cond b None (at q))) (left-on q p zs on).0) (asc-without at p zs (h.ordered j lt)));
  }

  -- where it stands among those of its slot
  pub record IsFit (x : Wait) (k : ℕ) (before behind : List ℕ) : Type 0 where
    pub due_below : (j : ℕ) → k ≡ 2 * j → j < length stamps → (q : ℕ) → is_on q before ≡ true → threshold_of (at q) ≤ x.threshold
    pub due_above : (j : ℕ) → k ≡ 2 * j → j < length stamps → (q : ℕ) → is_on q (behind ++ thread (2 * j + 1) w) ≡ true →
        x.threshold ≤ threshold_of (at q)
    pub waiting_below : (j : ℕ) → k ≡ 2 * j + 1 → j < length stamps → (q : ℕ) → is_on q (thread (2 * j) w ++ before) ≡ true →
        threshold_of (at q) ≤ x.threshold
    pub waiting_above : (j : ℕ) → k ≡ 2 * j + 1 → j < length stamps → (q : ℕ) → is_on q behind ≡ true → x.threshold ≤ threshold_of (at q)

  module _ (k p : ℕ) (x : Wait) (before behind : List ℕ) (new : Woven) (home_is : k ≡ home stamps x.ct x.due) (empty : at p ≡ None)
      (set_is : new.threads ≡ set w.threads k (before ++ p ∷ behind)) (is : thread k w ≡ before ++ behind) (fit : IsFit x k before behind)
    where
      abbrev with_it : ℕ → Option Wait
      with_it q = cond (nat_eq q p) (Some x) (at q)

      within : k < length w.threads
      within = let lt = home-within stamps x.ct x.due in omega (arith, lt, home_is, h.many)

      here : thread k new ≡ before ++ p ∷ behind
      here = ap (λ xss. get_or xss k []) set_is ∙ get_or-set_same w.threads k (before ++ p ∷ behind) [] within

      other : (j : ℕ) → j ≢ k → thread j new ≡ thread j w
      other j n = ap (λ xss. get_or xss j []) set_is ∙ get_or-set_other w.threads k j (before ++ p ∷ behind) [] n

      -- at the old places nothing changes
      apart : (q : ℕ) (j : ℕ) → is_on q (thread j w) ≡ true → nat_eq q p ≡ false
      apart q j on = elim (eqb_tells q p) [
        | inl same ↦ let off : false ≡ true = sym (none-on j p empty) ∙ subst (λ i. is_on i (thread j w) ≡ true) same.1 on in cc
        | inr differ ↦ differ.0
      ]

      same_at : (q : ℕ) → nat_eq q p ≡ false → threshold_of (with_it q) ≡ threshold_of (at q)
      same_at q e = ap (λ b. threshold_of (cond b (Some x) (at q))) e

      it : threshold_of (with_it p) ≡ x.threshold
      it = ap (λ b. threshold_of (cond b (Some x) (at p))) (eq-eqb p p refl)

      rehung-on : (j q : ℕ) → is_on q (thread j new) ≡ is_home stamps j (with_it q)
      rehung-on j q = elim (eqb_tells j k) [
        | inl at_k ↦
            ap (λ i. is_on q (thread i new)) at_k.1 ∙ ap (is_on q) here ∙ on-insert q p before behind
            ∙ ap (λ l. nat_eq p q || is_on q l) (sym is) ∙ ap (λ b. nat_eq p q || b) (h.hung k q)
            ∙ elim (eqb_tells q p) [
              | inl same ↦ let turned : nat_eq p q ≡ true = eq-eqb p q (sym same.1) in let yes : nat_eq (home stamps x.ct x.due) j ≡ true =
                  eq-eqb (home stamps x.ct x.due) j
                  (sym home_is ∙ sym at_k.1) in
                  rw (turned, same.0, yes) refl
              | inr differ ↦ let turned : nat_eq p q ≡ false = ne_eqb p q (λ e. differ.1 (sym e)) in
                  rw (turned, differ.0) (ap (λ i. is_home stamps i (at q)) (sym at_k.1))
            ]
        | inr not_k ↦
            ap (is_on q) (other j not_k.1) ∙ h.hung j q ∙ elim (eqb_tells q p) [
              | inl same ↦
                  let none : at q ≡ None = ap at same.1 ∙ empty in
                  let no : nat_eq (home stamps x.ct x.due) j ≡ false =
                  ne_eqb (home stamps x.ct x.due) j (λ e. not_k.1 (sym e ∙ sym home_is)) in
                  rw (none, same.0, no) refl
              | inr differ ↦ rw differ.0 refl
            ]
      ]

      -- a list of the old places keeps its order
      kept_order : (zs : List ℕ) → ((q : ℕ) → is_on q zs ≡ true → nat_eq q p ≡ false) → Ascending at zs → Ascending with_it zs
      kept_order zs away a = asc-same at with_it zs (λ q on. same_at q (away q on)) a

      two-apart : (j : ℕ) (q : ℕ) → is_on q (thread (2 * j) w ++ thread (2 * j + 1) w) ≡ true → nat_eq q p ≡ false
      two-apart j q on = elim (on-either q (thread (2 * j) w) (thread (2 * j + 1) w) on) [
        | inl a ↦ apart q (2 * j) a
        | inr b ↦ apart q (2 * j + 1) b
      ]

      rehung-ordered : (j : ℕ) → j < length stamps → Ascending with_it (thread (2 * j) new ++ thread (2 * j + 1) new)
      rehung-ordered j lt = elim (eqb_tells (2 * j) k) [
        | inl due ↦
            let first : thread (2 * j) new ≡ before ++ p ∷ behind = ap (λ i. thread i new) due.1 ∙ here in
            let second : thread (2 * j + 1) new ≡ thread (2 * j + 1) w =
            other (2 * j + 1) (λ e. let eq : 2 * j + 1 ≡ 2 * j = e ∙ sym due.1 in omega (arith, eq)) in
            let old : thread (2 * j) w ++ thread (2 * j + 1) w ≡ before ++ (behind ++ thread (2 * j + 1) w) =
            ap (λ l. l ++ thread (2 * j + 1) w) (ap (λ i. thread i w) due.1 ∙ is) ∙ append_assoc before behind (thread (2 * j + 1) w) in
            let now : thread (2 * j) new ++ thread (2 * j + 1) new ≡ before ++ p ∷ (behind ++ thread (2 * j + 1) w) =
            (λ i. first i ++ second i) ∙ append_assoc before (p ∷ behind) (thread (2 * j + 1) w) in
            let away = λ (q : ℕ) (on : is_on q (before ++ (behind ++ thread (2 * j + 1) w)) ≡ true). two-apart j q
            (ap (is_on q) old ∙ on) in
            subst (Ascending with_it) (sym now) (asc-insert with_it p before (behind ++ thread (2 * j + 1) w)
            (kept_order (before ++ (behind ++ thread (2 * j + 1) w)) away (subst (Ascending at) old (h.ordered j lt)))
            (λ q on. let le = fit.due_below j (sym due.1) lt q on in let s =
            same_at q (away q (on-left q before
            (behind ++ thread (2 * j + 1) w) on)) in omega (arith, le, s, it))
            (λ q on. let le = fit.due_above j (sym due.1) lt q on in let s =
            same_at q (away q (on-right q before
            (behind ++ thread (2 * j + 1) w) on)) in omega (arith, le, s, it)))
        | inr not_due ↦ elim (eqb_tells (2 * j + 1) k) [
          | inl waiting ↦
              let first : thread (2 * j) new ≡ thread (2 * j) w = other (2 * j) not_due.1 in
              let second : thread (2 * j + 1) new ≡ before ++ p ∷ behind = ap (λ i. thread i new) waiting.1 ∙ here in
              let front = thread (2 * j) w ++ before in
              let old : thread (2 * j) w ++ thread (2 * j + 1) w ≡ front ++ behind =
              ap (λ l. thread (2 * j) w ++ l) (ap (λ i. thread i w) waiting.1 ∙ is) ∙ sym (append_assoc (thread (2 * j) w) before behind) in
              let now : thread (2 * j) new ++ thread (2 * j + 1) new ≡ front ++ p ∷ behind = (λ i. first i ++ second i)
              ∙ sym (append_assoc (thread (2 * j) w) before (p ∷ behind)) in
              let away = λ (q : ℕ) (on : is_on q (front ++ behind) ≡ true). two-apart j q (ap (is_on q) old ∙ on) in
              subst (Ascending with_it) (sym now) (asc-insert with_it p front behind
              (kept_order (front ++ behind) away (subst (Ascending at) old (h.ordered j lt)))
              (λ q on. let le = fit.waiting_below j (sym waiting.1) lt q on in let s = same_at q (away q (on-left q front behind on)) in
              omega (arith, le, s, it))
              (λ q on. let le = fit.waiting_above j (sym waiting.1) lt q on in let s = same_at q (away q (on-right q front behind on)) in
              omega (arith, le, s, it)))
          | inr neither ↦
              subst (Ascending with_it) (λ i. sym (other (2 * j) not_due.1) i ++ sym (other (2 * j + 1) neither.1) i)
              (kept_order (thread (2 * j) w ++ thread (2 * j + 1) w) (two-apart j) (h.ordered j lt))
        ]
      ]

      pub rehung : IsHung (λ q. cond (nat_eq q p) (Some x) (at q)) new stamps
      rehung = record {
        many = ap length set_is ∙ length-set w.threads k (before ++ p ∷ behind) ∙ h.many;
        hung = rehung-on;
        ordered = rehung-ordered;
      }

-- what says the same of each place
pub hung-same : (at new : ℕ → Option Wait) (w : Woven) (stamps : List ℕ) → ((q : ℕ) → new q ≡ at q) → IsHung at w stamps →
    IsHung new w stamps
hung-same at new w stamps e h = subst (λ f. IsHung f w stamps) (λ i q. sym (e q) i) h

-- ---- where a threshold belongs
pub next-rest : (b : Option ℕ) (ps : List ℕ) → next_in b ps ≡ first_place (rest_after b ps)
next-rest None ps = refl
next-rest (Some q) [] = refl
next-rest (Some q) (p ∷ ps) = elim (nat_eq p q) as (λ b. cond b (first_place ps) (place_after q ps) ≡ first_place
    (cond b ps (rest_after (Some q) ps))) [
      | true ↦ refl
      | false ↦ next-rest (Some q) ps
    ]

or_false : (a b : Bool) → (a || b) ≡ false → (a ≡ false) × (b ≡ false)
or_false true b e = cc
or_false false b e = (refl, e)

off-before : (xs : List ℕ) (q : ℕ) (ys : List ℕ) → AreApart (xs ++ q ∷ ys) → is_on q xs ≡ false
off-before [] q ys a = refl
off-before (x ∷ xs) q ys a = elim (eqb_tells x q) [
  | inl same ↦ let on : is_on x (xs ++ q ∷ ys) ≡ true = ap (λ i. is_on i (xs ++ q ∷ ys)) same.1 ∙ on-here q xs ys in
      let no : false ≡ true = sym a.0 ∙ on in cc
  | inr other ↦ rw other.0 (off-before xs q ys a.1)
]

rest-middle : (xs : List ℕ) (q : ℕ) (ys : List ℕ) → is_on q xs ≡ false → rest_after (Some q) (xs ++ q ∷ ys) ≡ ys
rest-middle [] q ys off = rw (eq-eqb q q refl) refl
rest-middle (x ∷ xs) q ys off = let no = or_false (nat_eq x q) (is_on q xs) off in rw no.0 (rest-middle xs q ys no.1)

pub put-middle : (xs : List ℕ) (q p : ℕ) (ys : List ℕ) → is_on q xs ≡ false → placed_after (Some q) p (xs ++ q ∷ ys) ≡ xs ++ q ∷ p ∷ ys
put-middle [] q p ys off = rw (eq-eqb q q refl) refl
put-middle (x ∷ xs) q p ys off = let no = or_false (nat_eq x q) (is_on q xs) off in rw no.0 (ap (λ r. x ∷ r) (put-middle xs q p ys no.1))

pub on-one : (r q : ℕ) → is_on r (q ∷ []) ≡ true → q ≡ r
on-one r q on = elim (eqb_tells q r) [
  | inl same ↦ same.1
  | inr other ↦ let no : is_on r (q ∷ []) ≡ false = rw other.0 refl in cc
]

-- a walk along a list: of the places up to this one the same is known
module _ (P : ℕ → Type 0) where
  pub record IsWalk (b : Option ℕ) (ps : List ℕ) : Type 0 where
    pub before : List ℕ
    pub is : ps ≡ before ++ rest_after b ps
    pub put : (p : ℕ) → placed_after b p ps ≡ before ++ p ∷ rest_after b ps
    pub there : IfSome b (λ q. is_on q ps ≡ true)
    pub passed : (q : ℕ) → is_on q before ≡ true → P q

  pub walk-begin : (ps : List ℕ) → IsWalk None ps
  walk-begin ps = record { before = []; is = refl; put = λ p. refl; there = tt; passed = λ q on. cc }

  pub walk-step : (b : Option ℕ) (ps : List ℕ) (q : ℕ) → IsWalk b ps → AreApart ps → next_in b ps ≡ Some q → P q → IsWalk (Some q) ps ×
      (length (rest_after (Some q) ps) < length (rest_after b ps))
  walk-step b ps q w a e here =
      let f = first-cons (rest_after b ps) q (sym (next-rest b ps) ∙ e) in
      let ys = f.0 in
      let front = w.before in
      let split : ps ≡ front ++ q ∷ ys = w.is ∙ ap (λ l. front ++ l) f.1 in
      let off = off-before front q ys (subst AreApart split a) in
      let rest : rest_after (Some q) ps ≡ ys = ap (rest_after (Some q)) split ∙ rest-middle front q ys off in
      let more = front ++ q ∷ [] in (
        record {
          before = more;
          is = split ∙ sym (append_assoc front (q ∷ []) ys) ∙ ap (λ l. more ++ l) (sym rest);
          put = λ p. ap (placed_after (Some q) p) split ∙ put-middle front q p ys off ∙ sym (append_assoc front (q ∷ []) (p ∷ ys))
              ∙ ap (λ l. more ++ p ∷ l) (sym rest);
          there = ap (is_on q) split ∙ on-here q front ys;
          passed = λ r on. elim (on-either r front (q ∷ []) on) [
            | inl there ↦ w.passed r there
            | inr last ↦ subst P (on-one r q last) here
          ];
        },
        let l = ap length f.1 in let m = ap length rest in omega (arith, l, m),
      )

  -- where nothing comes next, it is known of the whole list
  pub walk-all : (b : Option ℕ) (ps : List ℕ) → IsWalk b ps → next_in b ps ≡ None → (q : ℕ) → is_on q ps ≡ true → P q
  walk-all b ps w e q on =
      let rest : rest_after b ps ≡ [] = first-none (rest_after b ps) (sym (next-rest b ps) ∙ e) in
      let whole : ps ≡ w.before = w.is ∙ ap (λ l. w.before ++ l) rest ∙ append-nil w.before in
      w.passed q (subst (λ l. is_on q l ≡ true) whole on)

module _ (at : ℕ → Option Wait) (threshold : ℕ) where
  pub walk-end : (b : Option ℕ) (ps : List ℕ) → IsWalk (λ q. threshold_of (at q) ≤ threshold) b ps → Ascending at ps →
      ((q : ℕ) → next_in b ps ≡ Some q → threshold < threshold_of (at q)) → IsGap at threshold b ps
  walk-end b ps w a h = record {
    before = w.before;
    behind = rest_after b ps;
    is = w.is;
    put = w.put;
    there = w.there;
    below = w.passed;
    above = go (rest_after b ps) refl;
  }
    where
      go : (rest : List ℕ) → rest_after b ps ≡ rest → (r : ℕ) → is_on r rest ≡ true → threshold ≤ threshold_of (at r)
      go [] e r on = cc
      go (q ∷ ys) e r on =
          let lt = h q (next-rest b ps ∙ ap first_place e) in
          let asc : Ascending at (q ∷ ys) = asc-right at w.before (q ∷ ys) (subst (Ascending at) (w.is ∙ ap (λ l. w.before ++ l) e) a) in
          elim (on-either r (q ∷ []) ys on) [
            | inl first ↦ let same = on-one r q first in subst (λ i. threshold ≤ threshold_of (at i)) same (omega (arith, lt))
            | inr later ↦ let le = asc.0 r later in omega (arith, lt, le)
          ]

  pub gap-last : (ps : List ℕ) (q : ℕ) → AreApart ps → Ascending at ps → last_place ps ≡ Some q → threshold_of (at q) ≤ threshold →
      IsGap at threshold (Some q) ps
  gap-last ps q a asc e le =
      let f = last-snoc ps q e in
      let front = f.0 in
      let off = off-before front q [] (subst AreApart f.1 a) in
      let sorted = subst (Ascending at) f.1 asc in
      record {
        before = ps;
        behind = [];
        is = sym (append-nil ps);
        put = λ p. ap (placed_after (Some q) p) f.1 ∙ put-middle front q p [] off ∙ sym (append_assoc front (q ∷ []) (p ∷ []))
            ∙ ap (λ l. l ++ p ∷ []) (sym f.1);
        there = ap (is_on q) f.1 ∙ on-here q front [];
        below = λ r on. elim (on-either r front (q ∷ []) (ap (is_on r) (sym f.1) ∙ on)) [
          | inl there ↦ let b = asc-below at front q [] sorted r there in omega (arith, b, le)
          | inr last ↦ subst (λ i. threshold_of (at i) ≤ threshold) (on-one r q last) le
        ];
        above = λ r on. cc;
      }

  pub gap-none : (ps : List ℕ) → last_place ps ≡ None → IsGap at threshold None ps
  gap-none ps e = record {
    before = [];
    behind = ps;
    is = refl;
    put = λ p. refl;
    there = tt;
    below = λ r on. cc;
    above = λ r on. let none : is_on r ps ≡ false = ap (is_on r) (last-none ps e) in cc;
  }

pub next-on : (b : Option ℕ) (ps : List ℕ) (q : ℕ) → next_in b ps ≡ Some q → is_on q ps ≡ true
next-on None [] q e = cc
next-on None (p ∷ ps) q e = let same : p ≡ q = cc in ap (λ b. b || is_on q ps) (eq-eqb p q same)
next-on (Some r) [] q e = cc
next-on (Some r) (p ∷ ps) q e =
    or_right (nat_eq p q) (is_on q ps) (elim (nat_eq p r) as (λ b. cond b (first_place ps) (place_after r ps) ≡ Some q →
    is_on q ps ≡ true) [
      | true ↦ λ f. next-on None ps q f
      | false ↦ λ f. next-on (Some r) ps q f
    ] e)

pub last-on-list : (ps : List ℕ) (q : ℕ) → last_place ps ≡ Some q → is_on q ps ≡ true
last-on-list ps q e = let f = last-snoc ps q e in ap (is_on q) f.1 ∙ on-here q f.0 []
