-- What the calls of a match list keep of its threads.
use Rattle.std.proofs.Common.{◌≡◌, ℕ, suc, ◌+◌, ◌-◌, ◌<◌, Bool, true, false, cond, nat_eq, List, [], ◌∷◌, ◌++◌, filter, replicate, length}
use Rattle.std.proofs.Common.{get_or, set, Some, None, refl, sym, ap, subst, ◌∙◌, inl, inr, arith}
use Rattle.std.proofs.lemmas.Bool.{cases_Bool, ne_eqb, eq-eqb, or_right}
use Rattle.std.proofs.lemmas.Bool.Decides.{eqb_tells}
use Rattle.std.proofs.lemmas.List.{map-append, append-nil, length-append, length-set, length-map, length-replicate, get_or-set_same}
use Rattle.std.proofs.lemmas.List.{get_or-set_other, get_or-replicate}
use Rattle.std.proofs.lemmas.List.Elements.{filter-append}
use Rattle.std.specs.Option.{is_some}
use Rattle.chain_list.specs.declared.chain.ChainKey.{ChainKey}
use Rattle.chain_list.specs.Chain.{Keyed, ChainList, chain_list, keyed, value_at, without, changed, stamp_at, first_or, NotAt, Apart}
use Rattle.chain_list.proofs.ChainLemmas.{Apart-cut, Apart-before, stamp-here}
use Rattle.chain_list.proofs.KeyLemmas.{split-live, without-append, without-here, changed-append, changed-here, value-append, value-here}
use Rattle.chain_list.specs.threads.Threads.{Woven, woven, thread, is_on, is_threaded, first_place, place_after, with_place, without_place}
use Rattle.chain_list.specs.threads.Threads.{without as off}
use Rattle.chain_list.proofs.threads.ThreadLemmas.{get-map, off_all, on_one}
use Rattle.ni_model.specs.declared.Linked.{Linked}
use Rattle.match_lists.specs.Lists.{running_at}
use Rattle.match_lists.specs.Buckets.{thread_of, on_thread, last_thread}
use Rattle.match_lists.specs.Indexed.{places_of, Later, Rising, IsIndexed}
use Rattle.match_lists.proofs.BucketLemmas.{thread-le}

-- the test of a thread
abbrev pub stands : ℕ → ℕ → Keyed Linked → Bool
stands limit k x = nat_eq (thread_of limit x.value) k

-- ---- places of a part
pub first-places : (xs : List (Keyed Linked)) → first_place (places_of xs) ≡ first_or xs None
first-places [] = refl
first-places (x ∷ xs) = refl

off-places : (p : ℕ) (xs : List (Keyed Linked)) → NotAt p xs → is_on p (places_of xs) ≡ false
off-places p [] n = refl
off-places p (x ∷ xs) n = let e : nat_eq x.key.place p ≡ false = ne_eqb x.key.place p n.0 in rw e (off-places p xs n.1)

pub on-places : (xs : List (Keyed Linked)) (x : Keyed Linked) (ys : List (Keyed Linked)) →
    is_on x.key.place (places_of (xs ++ x ∷ ys)) ≡ true
on-places [] x ys = let e : nat_eq x.key.place x.key.place ≡ true = eq-eqb x.key.place x.key.place refl in rw e
on-places (z ∷ xs) x ys = or_right (nat_eq z.key.place x.key.place) (is_on x.key.place (places_of (xs ++ x ∷ ys))) (on-places xs x ys)

pub after-places : (xs : List (Keyed Linked)) (x : Keyed Linked) (ys : List (Keyed Linked)) → NotAt x.key.place xs →
    place_after x.key.place (places_of (xs ++ x ∷ ys)) ≡ first_or ys None
after-places [] x ys n = let e : nat_eq x.key.place x.key.place ≡ true = eq-eqb x.key.place x.key.place refl in rw e (first-places ys)
after-places (z ∷ xs) x ys n = let e : nat_eq z.key.place x.key.place ≡ false = ne_eqb z.key.place x.key.place n.0 in
    rw e (after-places xs x ys n.1)

NotAt-filter : (q : Keyed Linked → Bool) (p : ℕ) (xs : List (Keyed Linked)) → NotAt p xs → NotAt p (filter q xs)
NotAt-filter q p [] n = tt
NotAt-filter q p (x ∷ xs) n = elim (cases_Bool (q x)) [
  | inl e ↦ rw e (n.0, NotAt-filter q p xs n.1)
  | inr e ↦ rw e
      (NotAt-filter q p xs n.1)
]

pub Apart-filter : (q : Keyed Linked → Bool) (xs : List (Keyed Linked)) → Apart xs → Apart (filter q xs)
Apart-filter q [] a = tt
Apart-filter q (x ∷ xs) a = elim (cases_Bool (q x)) [
  | inl e ↦ rw e (NotAt-filter q x.key.place xs a.0, Apart-filter q xs a.1)
  | inr e ↦ rw
      e (Apart-filter q xs a.1)
]

places-off : (p : ℕ) (xs : List (Keyed Linked)) → NotAt p xs → off p (places_of xs) ≡ places_of xs
places-off p [] n = refl
places-off p (x ∷ xs) n = let e : nat_eq x.key.place p ≡ false = ne_eqb x.key.place p n.0 in
    rw e (ap (λ l. x.key.place ∷ l) (places-off p xs n.1))

-- an entry is taken out of a part
places-unlink : (q : Keyed Linked → Bool) (xs : List (Keyed Linked)) (x : Keyed Linked) (ys : List (Keyed Linked)) →
    NotAt x.key.place xs → NotAt x.key.place ys
    → off x.key.place (places_of (filter q (xs ++ x ∷ ys))) ≡ places_of (filter q (xs ++ ys))
places-unlink q [] x ys m n =
    let here : nat_eq x.key.place x.key.place ≡ true = eq-eqb x.key.place x.key.place refl in
    let rest = places-off x.key.place (filter q ys) (NotAt-filter q x.key.place ys n) in
    elim (cases_Bool (q x)) [ inl e ↦ rw (e, here) rest | inr e ↦ rw e rest ]
places-unlink q (z ∷ xs) x ys m n =
    let other : nat_eq z.key.place x.key.place ≡ false = ne_eqb z.key.place x.key.place m.0 in
    let rest = places-unlink q xs x ys m.1 n in
    elim (cases_Bool (q z)) [ inl e ↦ rw (e, other) (ap (λ l. z.key.place ∷ l) rest) | inr e ↦ rw e rest ]

-- an entry is replaced by one of its key in the same parts
places-swap : (q : Keyed Linked → Bool) (xs : List (Keyed Linked)) (x y : Keyed Linked) (ys : List (Keyed Linked)) → x.key ≡ y.key →
    q x ≡ q y
    → places_of (filter q (xs ++ x ∷ ys)) ≡ places_of (filter q (xs ++ y ∷ ys))
places-swap q [] x y ys k e = elim (cases_Bool (q y)) [
  | inl f ↦ let g = e ∙ f in rw (g, f) (ap (λ (j : ChainKey). j.place ∷ places_of (filter q ys)) k)
  | inr f ↦ let g = e ∙ f in rw (g, f) refl
]
places-swap q (z ∷ xs) x y ys k e =
    let rest = places-swap q xs x y ys k e in
    elim (cases_Bool (q z)) [ inl f ↦ rw f (ap (λ l. z.key.place ∷ l) rest) | inr f ↦ rw f rest ]

-- ---- stamps rise
Later-append : (s : ℕ) (xs ys : List (Keyed Linked)) → Later s xs → Later s ys → Later s (xs ++ ys)
Later-append s [] ys l m = m
Later-append s (x ∷ xs) ys l m = (l.0, Later-append s xs ys l.1 m)

Later-cut : (s : ℕ) (xs ys : List (Keyed Linked)) → Later s (xs ++ ys) → Later s xs × Later s ys
Later-cut s [] ys l = (tt, l)
Later-cut s (x ∷ xs) ys l = let rest = Later-cut s xs ys l.1 in ((l.0, rest.0), rest.1)

Rising-push : (xs : List (Keyed Linked)) (x : Keyed Linked) (given : ℕ) → Rising xs given → x.key.stamp ≡ given →
    Rising (xs ++ x ∷ []) (given + 1)
Rising-push [] x given r e = (omega arith, tt, tt)
Rising-push (z ∷ xs) x given r e = (
  omega (arith, r.0),
  Later-append z.key.stamp xs (x ∷ []) r.1 (omega (arith, r.0, e), tt),
  Rising-push xs x given r.2 e,
)

Rising-unlink : (xs : List (Keyed Linked)) (x : Keyed Linked) (ys : List (Keyed Linked)) (given : ℕ) → Rising (xs ++ x ∷ ys) given →
    Rising (xs ++ ys) given
Rising-unlink [] x ys given r = r.2
Rising-unlink (z ∷ xs) x ys given r =
    let cut = Later-cut z.key.stamp xs (x ∷ ys) r.1 in
    (r.0, Later-append z.key.stamp xs ys cut.0 cut.1.1, Rising-unlink xs x ys given r.2)

Later-swap : (s : ℕ) (xs : List (Keyed Linked)) (x y : Keyed Linked) (ys : List (Keyed Linked)) → x.key ≡ y.key → Later s (xs ++ x ∷ ys) →
    Later s (xs ++ y ∷ ys)
Later-swap s [] x y ys k l = (subst (λ (j : ChainKey). s < j.stamp) k l.0, l.1)
Later-swap s (z ∷ xs) x y ys k l = (l.0, Later-swap s xs x y ys k l.1)

Rising-swap : (xs : List (Keyed Linked)) (x y : Keyed Linked) (ys : List (Keyed Linked)) (given : ℕ) → x.key ≡ y.key →
    Rising (xs ++ x ∷ ys) given → Rising (xs ++ y ∷ ys) given
Rising-swap [] x y ys given k r = (subst (λ (j : ChainKey). j.stamp < given) k r.0, subst (λ (j : ChainKey). Later j.stamp ys) k r.1, r.2)
Rising-swap (z ∷ xs) x y ys given k r = (r.0, Later-swap z.key.stamp xs x y ys k r.1, Rising-swap xs x y ys given k r.2)

length-swap : (xs : List (Keyed Linked)) (x y : Keyed Linked) (ys : List (Keyed Linked)) → length (xs ++ x ∷ ys) ≡ length (xs ++ y ∷ ys)
length-swap [] x y ys = refl
length-swap (z ∷ xs) x y ys = ap (λ n. suc n) (length-swap xs x y ys)

-- ---- no entries
pub IsIndexed-none : (chain : ChainList Linked) (threads : Woven) (limit : ℕ) → chain ≡ chain_list [] limit 0 →
    threads ≡ woven (replicate (last_thread limit + 1) []) limit → IsIndexed chain threads limit
IsIndexed-none chain threads limit e f = subst (λ (q : ChainList Linked × Woven). IsIndexed q.0 q.1 limit) (λ i. (sym e i, sym f i))
    (record {
      full = omega arith;
      long = length-replicate (last_thread limit + 1) none;
      places = refl;
      threaded = λ k lt. get_or-replicate (last_thread limit + 1) k none none lt;
      rising = tt;
    })
  where
    none : List ℕ
    none = []

-- ---- an entry is put after the last
module _ (chain : ChainList Linked) (threads : Woven) (limit : ℕ) (x : Keyed Linked) (c : IsIndexed chain threads limit) where
  pub free-place : NotAt x.key.place chain.entries → is_threaded x.key.place threads ≡ false
  free-place n = off_all x.key.place threads.threads (λ j lt.
      ap (λ l. is_on x.key.place l) (c.threaded j (omega (arith, lt, c.long))) ∙ off-places x.key.place (on_thread limit j chain.entries)
      (NotAt-filter (stands limit j) x.key.place chain.entries n))

  push-thread : (k : ℕ) → k < last_thread limit + 1 → thread k (with_place (thread_of limit x.value) x.key.place threads) ≡ places_of
      (on_thread limit k (chain.entries ++ x ∷ []))
  push-thread k lt =
      let t = thread_of limit x.value in
      let xs = chain.entries in
      let cut : places_of (on_thread limit k (xs ++ x ∷ [])) ≡ places_of (on_thread limit k xs) ++ places_of (on_thread limit k (x ∷ [])) =
      ap places_of (filter-append (stands limit k) xs (x ∷ [])) ∙ map-append (λ y. y.key.place) (on_thread limit k xs)
      (on_thread limit k (x ∷ [])) in
      let old = c.threaded k lt in
      elim (eqb_tells k t) [
        | inl e ↦
            let on : nat_eq t k ≡ true = eq-eqb t k (sym e.1) in
            let at : places_of (on_thread limit k (x ∷ [])) ≡ x.key.place ∷ [] = ap (λ b. places_of (cond b (x ∷ []) [])) on in
            ap (λ j. get_or (set threads.threads t (thread t threads ++ x.key.place ∷ [])) j []) e.1
            ∙ get_or-set_same threads.threads t (thread t threads ++ x.key.place ∷ []) []
            (omega (arith, c.long, thread-le limit x.value))
            ∙ ap (λ j. thread j threads ++ x.key.place ∷ []) (sym e.1) ∙ (λ i. old i ++ sym at i) ∙ sym cut
        | inr e ↦
            let on : nat_eq t k ≡ false = ne_eqb t k (λ f. e.1 (sym f)) in
            let at : places_of (on_thread limit k (x ∷ [])) ≡ [] = ap (λ b. places_of (cond b (x ∷ []) [])) on in
            get_or-set_other threads.threads t k (thread t threads ++ x.key.place ∷ []) [] e.1 ∙ old
            ∙ sym (cut ∙ ap (λ l. places_of (on_thread limit k xs) ++ l) at ∙ append-nil (places_of (on_thread limit k xs)))
      ]

  pub IsIndexed-push : (chain' : ChainList Linked) (threads' : Woven) → x.key.stamp ≡ chain.given → 0 < chain.spare →
      chain' ≡ chain_list (chain.entries ++ x ∷ []) (chain.spare - 1) (chain.given + 1)
      → threads' ≡ with_place (thread_of limit x.value) x.key.place threads → IsIndexed chain' threads' limit
  IsIndexed-push chain' threads' s lt e f = subst (λ (q : ChainList Linked × Woven). IsIndexed q.0 q.1 limit) (λ i. (sym e i, sym f i))
      (record {
        full = omega (arith, c.full, length-append chain.entries (x ∷ []));
        long = length-set threads.threads (thread_of limit x.value) (thread (thread_of limit x.value) threads ++ x.key.place ∷ []) ∙ c.long;
        places = c.places;
        threaded = push-thread;
        rising = Rising-push chain.entries x chain.given c.rising s;
      })

-- ---- what is known of a live key
pub record IsLive (chain : ChainList Linked) (key : ChainKey) : Type 0 where
  pub before : List (Keyed Linked)
  pub behind : List (Keyed Linked)
  pub value : Linked
  pub is : chain.entries ≡ before ++ keyed key value ∷ behind
  pub value_is : value_at key chain.entries ≡ Some value
  pub away : NotAt key.place before
  pub away_behind : NotAt key.place behind

pub live : (chain : ChainList Linked) (key : ChainKey) → Apart chain.entries → is_some (value_at key chain.entries) ≡ true →
    IsLive chain key
live chain key a some =
    let s = split-live key chain.entries some in
    let at : s.entry ≡ keyed key s.entry.value = λ i. keyed (s.key_is i) s.entry.value in
    let is : chain.entries ≡ s.before ++ keyed key s.entry.value ∷ s.behind = s.is ∙ ap (λ e. s.before ++ e ∷ s.behind) at in
    let parts : Apart (s.before ++ keyed key s.entry.value ∷ s.behind) = subst (λ l. Apart l) is a in
    let away = Apart-before s.before (keyed key s.entry.value) s.behind parts in
    record {
      before = s.before;
      behind = s.behind;
      value = s.entry.value;
      is = is;
      value_is = ap (λ l. value_at key l) is ∙ value-append key s.before (keyed key s.entry.value ∷ s.behind) away
          ∙ value-here (keyed key s.entry.value) s.behind;
      away = away;
      away_behind = (Apart-cut s.before (keyed key s.entry.value ∷ s.behind) parts).1.0;
    }

-- another value at a live key
pub changed-live : (chain : ChainList Linked) (key : ChainKey) (l : IsLive chain key) (v : Linked) →
    changed key v chain.entries ≡ l.before ++ keyed key v ∷ l.behind
changed-live chain key l v =
    let x = keyed key l.value in
    ap (λ ys. changed key v ys) l.is ∙ changed-append key v l.before (x ∷ l.behind) l.away
    ∙ ap (λ r. l.before ++ r) (changed-here x v l.behind l.away_behind)

module _ (chain : ChainList Linked) (threads : Woven) (limit : ℕ) (key : ChainKey) (c : IsIndexed chain threads limit)
    (l : IsLive chain key) where
  pub threaded-place : is_threaded key.place threads ≡ true
  threaded-place =
      let x = keyed key l.value in
      let k = thread_of limit l.value in
      let lt : k < last_thread limit + 1 = let le = thread-le limit l.value in omega arith in
      let on : stands limit k x ≡ true = eq-eqb k k refl in
      let at : on_thread limit k chain.entries ≡ on_thread limit k l.before ++ x ∷ on_thread limit k l.behind =
      ap (λ xs. on_thread limit k xs) l.is ∙ filter-append (stands limit k) l.before (x ∷ l.behind)
      ∙ ap (λ b. on_thread limit k l.before ++ cond b (x ∷ on_thread limit k l.behind) (on_thread limit k l.behind)) on in
      on_one key.place threads.threads k (ap (λ ps. is_on key.place ps) (c.threaded k lt ∙ ap places_of at)
      ∙ on-places (on_thread limit k l.before) x (on_thread limit k l.behind))

  pub IsIndexed-unlink : (chain' : ChainList Linked) (threads' : Woven) →
      chain' ≡ chain_list (without key chain.entries) (chain.spare + 1) chain.given → threads' ≡ without_place key.place threads →
      IsIndexed chain' threads' limit
  IsIndexed-unlink chain' threads' e f =
      let x = keyed key l.value in
      let left : without key chain.entries ≡ l.before ++ l.behind =
      ap (λ ys. without key ys) l.is ∙ without-append key l.before (x ∷ l.behind) l.away
      ∙ ap (λ r. l.before ++ r) (without-here x l.behind l.away_behind) in
      subst (λ (q : ChainList Linked × Woven). IsIndexed q.0 q.1 limit)
      (λ i. (sym (e ∙ ap (λ ys. chain_list ys (chain.spare + 1) chain.given) left) i, sym f i)) (record {
        full = omega (arith, c.full, ap length l.is, length-append l.before (x ∷ l.behind), length-append l.before l.behind);
        long = length-map threads.threads (off key.place) ∙ c.long;
        places = c.places;
        threaded = λ k lt. get-map (off key.place) threads.threads k refl
            ∙ ap (off key.place) (c.threaded k lt ∙ ap (λ ys. places_of (on_thread limit k ys)) l.is)
            ∙ places-unlink (stands limit k) l.before x l.behind l.away l.away_behind;
        rising = Rising-unlink l.before x l.behind chain.given (subst (λ ys. Rising ys chain.given) l.is c.rising);
      })

  pub IsIndexed-advance : (to : ℕ) → IsIndexed (chain_list (changed key (running_at to l.value) chain.entries) chain.spare chain.given)
      threads limit
  IsIndexed-advance to =
      let x = keyed key l.value in
      let y = keyed key (running_at to l.value) in
      let now = changed-live chain key l (running_at to l.value) in
      subst (λ ys. IsIndexed (chain_list ys chain.spare chain.given) threads limit) (sym now) (record {
        full = omega (arith, c.full, ap length l.is, length-swap l.before x y l.behind);
        long = c.long;
        places = c.places;
        threaded = λ k lt. c.threaded k lt ∙ ap (λ ys. places_of (on_thread limit k ys)) l.is
            ∙ places-swap (stands limit k) l.before x y l.behind refl refl;
        rising = Rising-swap l.before x y l.behind chain.given refl (subst (λ ys. Rising ys chain.given) l.is c.rising);
      })

-- ---- what is known of each entry
abbrev pub Each : (Keyed Linked → Type 0) → List (Keyed Linked) → Type 0
Each P [] = Unit {0}
Each P (x ∷ xs) = P x × Each P xs

Each-filter : (P : Keyed Linked → Type 0) (q : Keyed Linked → Bool) (xs : List (Keyed Linked)) → Each P xs → Each P (filter q xs)
Each-filter P q [] h = tt
Each-filter P q (x ∷ xs) h = elim (cases_Bool (q x)) [ inl e ↦ rw e (h.0, Each-filter P q xs h.1) | inr e ↦ rw e (Each-filter P q xs h.1) ]

Each-middle : (P : Keyed Linked → Type 0) (xs : List (Keyed Linked)) (x : Keyed Linked) (ys : List (Keyed Linked)) →
    Each P (xs ++ x ∷ ys) → P x
Each-middle P [] x ys h = h.0
Each-middle P (z ∷ xs) x ys h = Each-middle P xs x ys h.1

abbrev IsStamped : List (Keyed Linked) → Keyed Linked → Type 0
IsStamped zs x = stamp_at x.key.place zs ≡ Some x.key.stamp

stamped-behind : (x : Keyed Linked) (zs xs : List (Keyed Linked)) → NotAt x.key.place xs → Each (IsStamped zs) xs →
    Each (IsStamped (x ∷ zs)) xs
stamped-behind x zs [] n h = tt
stamped-behind x zs (y ∷ xs) n h =
    let e : nat_eq x.key.place y.key.place ≡ false = ne_eqb x.key.place y.key.place (λ s. n.0 (sym s)) in
    (rw e h.0, stamped-behind x zs xs n.1 h.1)

Each-stamped : (xs : List (Keyed Linked)) → Apart xs → Each (IsStamped xs) xs
Each-stamped [] a = tt
Each-stamped (x ∷ xs) a = (stamp-here x xs, stamped-behind x xs xs a.0 (Each-stamped xs a.1))

pub part-stamped : (q : Keyed Linked → Bool) (xs front : List (Keyed Linked)) (x : Keyed Linked) (behind : List (Keyed Linked)) → Apart xs
    → filter q xs ≡ front ++ x ∷ behind → stamp_at x.key.place xs ≡ Some x.key.stamp
part-stamped q xs front x behind a e = Each-middle (IsStamped xs) front x behind
    (subst (λ ys. Each (IsStamped xs) ys) e (Each-filter (IsStamped xs) q xs (Each-stamped xs a)))
