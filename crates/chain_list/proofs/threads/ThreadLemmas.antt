-- Threads of places: what putting a place on one and taking it off make of the nodes, and that the threads are what the nodes link.
use Rattle.std.proofs.Common.{◌≡◌, ◌≢◌, ℕ, zero, suc, ◌<◌, ◌≤◌, Bool, true, false, cond, nat_eq, ◌||◌, replicate, List, [], ◌∷◌, ◌++◌, map}
use Rattle.std.proofs.Common.{length, get_or, set, Option, Some, None, refl, sym, ap, subst, ◌∙◌, inl, inr, arith}
use Rattle.std.proofs.lemmas.Bool.{cases_lt, ne_eqb, eq-eqb}
use Rattle.std.proofs.lemmas.Bool.Decides.{eqb_tells}
use Rattle.std.proofs.lemmas.List.{get_or-set_same, get_or-set_other, length-set, length-map, length-replicate, get_or-replicate}
use Rattle.std.proofs.lemmas.List.{get_or_past, get_or_default}
use Rattle.std.proofs.lemmas.List.Sums.{count_by-le-length}
use Rattle.std.specs.Option.{is_some, IfSome}
use Rattle.std.specs.List.{count_by}
use Rattle.chain_list.specs.NodeMap.{Node, node}
use Rattle.chain_list.specs.Chain.{Keyed, keyed, first_or, last_or, Linked, NotAt, Apart}
use Rattle.chain_list.specs.Relinked.{places_after, places_before}
use Rattle.chain_list.proofs.NodeLemmas.{count-empty, live_within}
use Rattle.chain_list.proofs.ChainLemmas
use Rattle.chain_list.specs.declared.threads.ends.Ends.{Ends}
use Rattle.chain_list.specs.threads.Threads.{is_on, is_in, first_place, place_after, without}
use Rattle.chain_list.specs.threads.Fields.{on, after_of, places_from, threads_of, no_ends, IsThread, IsThreads}

-- the place as an entry of its thread
abbrev pub at : ℕ → ℕ → Keyed ℕ
at k p = keyed (record { place = p; stamp = 0 }) k

pub on-append : (k : ℕ) (ps qs : List ℕ) → on k (ps ++ qs) ≡ on k ps ++ on k qs
on-append k [] qs = refl
on-append k (p ∷ ps) qs = ap (λ r. at k p ∷ r) (on-append k ps qs)

length-on : (k : ℕ) (ps : List ℕ) → length (on k ps) ≡ length ps
length-on k [] = refl
length-on k (p ∷ ps) = ap (λ n. suc n) (length-on k ps)

pub first-on : (k : ℕ) (ps : List ℕ) → first_or (on k ps) None ≡ first_place ps
first-on k [] = refl
first-on k (p ∷ ps) = refl

-- ---- the thread of a place
abbrev pub value_of : Option (Node ℕ) → Option ℕ
value_of None = None
value_of (Some n) = Some n.value

abbrev pub thread_in : List (Option (Node ℕ)) → ℕ → Option ℕ
thread_in cs p = value_of (get_or cs p None)

-- a place of another thread
NotAt-other : (cs : List (Option (Node ℕ))) (b : Option ℕ) (j : ℕ) (ps : List ℕ) (a : Option ℕ) (q : ℕ) → Linked cs b (on j ps) a →
    (thread_in cs q ≡ Some j → ⊥) → NotAt q (on j ps)
NotAt-other cs b j [] a q l n = tt
NotAt-other cs b j (p ∷ ps) a q l n = (
  (λ e. n (subst (λ i. thread_in cs i ≡ Some j) e (ap value_of l.0))),
  NotAt-other cs (Some p) j ps a q l.1 n,
)

pub last-thread : (cs : List (Option (Node ℕ))) (b : Option ℕ) (k : ℕ) (ps : List ℕ) (a : Option ℕ) (q : ℕ) → Linked cs b (on k ps) a →
    (b ≡ Some q → thread_in cs q ≡ Some k)
    → last_or b (on k ps) ≡ Some q → thread_in cs q ≡ Some k
last-thread cs b k [] a q l h e = h e
last-thread cs b k (p ∷ ps) a q l h e =
    last-thread cs (Some p) k ps a q l.1 (λ f. let same : p ≡ q = cc in subst (λ i. thread_in cs i ≡ Some k) same (ap value_of l.0)) e

pub first-thread : (cs : List (Option (Node ℕ))) (b : Option ℕ) (k : ℕ) (ps : List ℕ) (a : Option ℕ) (q : ℕ) → Linked cs b (on k ps) a →
    first_or (on k ps) None ≡ Some q → thread_in cs q ≡ Some k
first-thread cs b k [] a q l e = cc
first-thread cs b k (p ∷ ps) a q l e = let same : p ≡ q = cc in subst (λ i. thread_in cs i ≡ Some k) same (ap value_of l.0)

pub apart-threads : (cs : List (Option (Node ℕ))) (j k : ℕ) (ps : List ℕ) (q : ℕ) → Linked cs None (on j ps) None → j ≢ k →
    thread_in cs q ≡ Some k → NotAt q (on j ps)
apart-threads cs j k ps q l n t = NotAt-other cs None j ps None q l (λ e. let same : j ≡ k = cc in n same)

-- ---- places on a thread
pub NotAt-off : (k p : ℕ) (ps : List ℕ) → is_on p ps ≡ false → NotAt p (on k ps)
NotAt-off k p [] e = tt
NotAt-off k p (q ∷ ps) e = elim (eqb_tells q p) [
  | inl t ↦ let f : true ≡ false = rw t.0 at e in cc
  | inr f ↦ (f.1, NotAt-off k p ps (rw f.0 at e))
]

pub record IsSplit (p : ℕ) (ps : List ℕ) : Type 0 where
  pub before : List ℕ
  pub behind : List ℕ
  pub is : ps ≡ before ++ p ∷ behind

pub split_on : (p : ℕ) (ps : List ℕ) → is_on p ps ≡ true → IsSplit p ps
split_on p [] e = cc
split_on p (q ∷ ps) e = elim (eqb_tells q p) [
  | inl t ↦ record { before = []; behind = ps; is = ap (λ i. i ∷ ps) t.1 }
  | inr f ↦ let s = split_on p ps (rw f.0 at e) in record { before = q ∷ s.before; behind = s.behind; is = ap (λ r. q ∷ r) s.is }
]

or_false : (a b : Bool) → (a || b) ≡ false → (a ≡ false) × (b ≡ false)
or_false true b e = cc
or_false false b e = (refl, e)

pub off-threads : (p : ℕ) (xss : List (List ℕ)) → is_in p xss ≡ false → (j : ℕ) → is_on p (get_or xss j []) ≡ false
off-threads p [] e j = refl
off-threads p (xs ∷ xss) e zero = (or_false (is_on p xs) (is_in p xss) e).0
off-threads p (xs ∷ xss) e (suc j) = off-threads p xss (or_false (is_on p xs) (is_in p xss) e).1 j

pub off_all : (p : ℕ) (xss : List (List ℕ)) → ((j : ℕ) → j < length xss → is_on p (get_or xss j []) ≡ false) → is_in p xss ≡ false
off_all p [] h = refl
off_all p (xs ∷ xss) h = let here : is_on p xs ≡ false = h zero (omega arith) in rw here (off_all p xss (λ j lt. h (suc j) (omega arith)))

pub on-thread : (p : ℕ) (xss : List (List ℕ)) → is_in p xss ≡ true → (k : ℕ) × (is_on p (get_or xss k []) ≡ true)
on-thread p [] e = cc
on-thread p (xs ∷ xss) e = tested (is_on p xs) refl e (λ f. on-thread p xss f)
  where
    tested : (t : Bool) → is_on p xs ≡ t → (t || is_in p xss) ≡ true → (is_in p xss ≡ true → (k : ℕ) × (is_on p (get_or xss k []) ≡ true))
        → (k : ℕ) × (is_on p (get_or (xs ∷ xss) k []) ≡ true)
    tested true s f more = (zero, s)
    tested false s f more = let r = more f in (suc r.0, r.1)

pub on_one : (p : ℕ) (xss : List (List ℕ)) (k : ℕ) → is_on p (get_or xss k []) ≡ true → is_in p xss ≡ true
on_one p [] k e = cc
on_one p (xs ∷ xss) zero e = rw e
on_one p (xs ∷ xss) (suc k) e = or_true (is_on p xs) (is_in p xss) (on_one p xss k e)
  where
    or_true : (a b : Bool) → b ≡ true → (a || b) ≡ true
    or_true true b e = refl
    or_true false b e = e

without-away : (k p : ℕ) (ps : List ℕ) → NotAt p (on k ps) → without p ps ≡ ps
without-away k p [] n = refl
without-away k p (q ∷ ps) n = let e : nat_eq q p ≡ false = ne_eqb q p n.0 in rw e (ap (λ r. q ∷ r) (without-away k p ps n.1))

without-one : (k p : ℕ) (ps qs : List ℕ) → NotAt p (on k ps) → NotAt p (on k qs) → without p (ps ++ p ∷ qs) ≡ ps ++ qs
without-one k p [] qs m n = let e : nat_eq p p ≡ true = eq-eqb p p refl in rw e (without-away k p qs n)
without-one k p (q ∷ ps) qs m n = let e : nat_eq q p ≡ false = ne_eqb q p m.0 in rw e (ap (λ r. q ∷ r) (without-one k p ps qs m.1 n))

after-one : (k p : ℕ) (ps qs : List ℕ) → NotAt p (on k ps) → place_after p (ps ++ p ∷ qs) ≡ first_place qs
after-one k p [] qs n = let e : nat_eq p p ≡ true = eq-eqb p p refl in rw e
after-one k p (q ∷ ps) qs n = let e : nat_eq q p ≡ false = ne_eqb q p n.0 in rw e (after-one k p ps qs n.1)

-- ---- the threads are what the nodes link
places-linked : (n : ℕ) (cs : List (Option (Node ℕ))) (b : Option ℕ) (k : ℕ) (ps : List ℕ) → Linked cs b (on k ps) None → length ps ≤ n →
    places_from n cs (first_or (on k ps) None) ≡ ps
places-linked zero cs b k [] l le = refl
places-linked zero cs b k (p ∷ ps) l le = absurd (omega arith)
places-linked (suc n) cs b k [] l le = refl
places-linked (suc n) cs b k (p ∷ ps) l le =
    ap (λ o. p ∷ places_from n cs (after_of o)) l.0 ∙ ap (λ r. p ∷ r) (places-linked n cs (Some p) k ps l.1 (omega arith))

-- entries that lie apart are no more than the nodes
at_most : {X : Type 0} (cs : List (Option (Node X))) (b : Option ℕ) (xs : List (Keyed X)) (a : Option ℕ) → Apart xs → Linked cs b xs a →
    length xs ≤ count_by is_some cs
at_most cs b [] a n l = omega arith
at_most cs b (x ∷ xs) a n l =
    let p = x.key.place in
    let live : is_some (get_or cs p None) ≡ true = ap is_some l.0 in
    let rest = at_most (set cs p None) (Some p) xs a n.1 (ChainLemmas.Linked-set cs (Some p) xs a p None n.0 l.1) in
    omega (arith, rest, count-empty cs p (live_within cs p live) live)

threads-same : (cs : List (Option (Node ℕ))) (es : List Ends) (xss : List (List ℕ)) → length es ≡ length xss
    → ((k : ℕ) → k < length es → places_from (length cs) cs (get_or es k no_ends).first ≡ get_or xss k []) → threads_of cs es ≡ xss
threads-same cs [] [] e h = refl
threads-same cs [] (xs ∷ xss) e h = absurd (omega (arith, e))
threads-same cs (d ∷ es) [] e h = absurd (omega (arith, e))
threads-same cs (d ∷ es) (xs ∷ xss) e h =
    let rest = threads-same cs es xss (omega (arith, e)) (λ k lt. h (suc k) (omega arith)) in
    let here : places_from (length cs) cs d.first ≡ xs = h zero (omega arith) in
    λ i. here i ∷ rest i

pub viewed : (cs : List (Option (Node ℕ))) (es : List Ends) (xss : List (List ℕ)) → IsThreads cs es xss → threads_of cs es ≡ xss
viewed cs es xss t = threads-same cs es xss t.long (λ k lt.
    let c = t.each k lt in
    let ps = get_or xss k [] in
    let short : length ps ≤ length cs = omega (
      arith,
      length-on k ps,
      at_most cs None (on k ps) None c.apart c.linked,
      count_by-le-length is_some cs,
    ) in
    ap (λ o. places_from (length cs) cs o) c.first_is ∙ places-linked (length cs) cs None k ps c.linked short)

pub settled : (cs : List (Option (Node ℕ))) (es : List Ends) (xss : List (List ℕ)) → IsThreads cs es xss →
    IsThreads cs es (threads_of cs es)
settled cs es xss t = subst (λ yss. IsThreads cs es yss) (sym (viewed cs es xss t)) t

-- ---- a place is put after the last of a thread
module _ (cs : List (Option (Node ℕ))) (k p : ℕ) (e e' : Ends) (ps : List ℕ) where
  pushed-here : IsThread cs k e ps → p < length cs → is_on p ps ≡ false → e'.first ≡ cond (is_some e.last) e.first (Some p) →
      e'.last ≡ Some p
      → IsThread (places_before (Some p) e.last (places_after e.last (Some p) (set cs p (Some (node k None None))))) k e' (ps ++ p ∷ [])
  pushed-here c lt off f g =
      let xs = on k ps in
      let x = at k p in
      let is : on k (ps ++ p ∷ []) ≡ xs ++ x ∷ [] = on-append k ps (p ∷ []) in
      let away = NotAt-off k p ps off in
      let made = set cs p (Some (node k None None)) in
      record {
        linked = subst (λ (q : Option ℕ × List (Keyed ℕ)). Linked (places_before (Some p) q.0 (places_after q.0 (Some p) made)) None q.1
            None) (λ i. (sym c.last_is i, sym is i)) (ChainLemmas.Linked-push cs xs x c.apart c.linked lt away);
        first_is = f ∙ (λ i. cond (is_some (c.last_is i)) (c.first_is i) (Some p)) ∙ ChainLemmas.first-push xs x
            ∙ ap (λ l. first_or l None) (sym is);
        last_is = g ∙ ChainLemmas.last-push xs x ∙ ap (λ l. last_or None l) (sym is);
        apart = subst (λ l. Apart l) (sym is) (ChainLemmas.Apart-push xs x c.apart away);
      }

pushed-other : (cs : List (Option (Node ℕ))) (j k p : ℕ) (d e : Ends) (qs ps : List ℕ) → IsThread cs j d qs → IsThread cs k e ps → j ≢ k →
    is_on p qs ≡ false
    → IsThread (places_before (Some p) e.last (places_after e.last (Some p) (set cs p (Some (node k None None))))) j d qs
pushed-other cs j k p d e qs ps o c n off =
    let away = NotAt-off j p qs off in
    let made = set cs p (Some (node k None None)) in
    record {
      linked = ChainLemmas.Linked-before_elsewhere (places_after e.last (Some p) made) None (on j qs) None (Some p) e.last
          (λ q f. let same : p ≡ q = cc in subst (λ i. NotAt i (on j qs)) same away)
          (ChainLemmas.Linked-after_elsewhere made None (on j qs) None e.last (Some p)
          (λ q f. apart-threads cs j k qs q o.linked n (last-thread cs None k ps None q c.linked (λ g. cc) (sym c.last_is ∙ f)))
          (ChainLemmas.Linked-set cs None (on j qs) None p (Some (node k None None)) away o.linked));
      first_is = o.first_is;
      last_is = o.last_is;
      apart = o.apart;
    }

pushed-all : (cs : List (Option (Node ℕ))) (es : List Ends) (xss : List (List ℕ)) (k p : ℕ) (e' : Ends) → IsThreads cs es xss →
    k < length es → p < length cs
    → ((j : ℕ) → is_on p (get_or xss j []) ≡ false)
    → e'.first ≡ cond (is_some (get_or es k no_ends).last) (get_or es k no_ends).first (Some p) → e'.last ≡ Some p
    → IsThreads (places_before (Some p) (get_or es k no_ends).last
    (places_after (get_or es k no_ends).last (Some p) (set cs p (Some (node k None None))))) (set es k e')
    (set xss k (get_or xss k [] ++ p ∷ []))
pushed-all cs es xss k p e' t lt within off f g =
    let e = get_or es k no_ends in
    let c = t.each k lt in
    let new = places_before (Some p) e.last (places_after e.last (Some p) (set cs p (Some (node k None None)))) in
    record {
      long = omega (arith, t.long, length-set es k e', length-set xss k (get_or xss k [] ++ p ∷ []));
      each = λ j lj. elim (eqb_tells j k) [
        | inl s ↦ subst (λ i. IsThread new i (get_or (set es k e') i no_ends) (get_or (set xss k (get_or xss k [] ++ p ∷ [])) i []))
            (sym s.1)
            (subst (λ (q : Ends × List ℕ). IsThread new k q.0 q.1)
            (λ i. (
              sym (get_or-set_same es k e' no_ends lt) i,
              sym (get_or-set_same xss k (get_or xss k [] ++ p ∷ []) [] (omega (arith, t.long))) i,
            ))
            (pushed-here cs k p e e' (get_or xss k []) c within (off k) f g))
        | inr s ↦ subst (λ (q : Ends × List ℕ). IsThread new j q.0 q.1)
            (λ i. (sym (get_or-set_other es k j e' no_ends s.1) i, sym (get_or-set_other xss k j (get_or xss k [] ++ p ∷ []) [] s.1) i))
            (pushed-other cs j k p (get_or es j no_ends) e (get_or xss j []) (get_or xss k [])
            (t.each j (omega (arith, length-set es k e'))) c s.1 (off j))
      ];
    }

-- by what the calls say
pub pushed : (cs cs0 cs1 cs2 : List (Option (Node ℕ))) (es : List Ends) (xss : List (List ℕ)) (k p : ℕ) (e e' : Ends) →
    IsThreads cs es xss → k < length es → p < length cs
    → ((j : ℕ) → is_on p (get_or xss j []) ≡ false) → e ≡ get_or es k e
    → cs0 ≡ set cs p (Some (node k None None)) → cs1 ≡ places_after e.last (Some p) cs0 → cs2 ≡ places_before (Some p) e.last cs1
    → e'.first ≡ cond (is_some e.last) e.first (Some p) → e'.last ≡ Some p
    → IsThreads cs2 (set es k e') (set xss k (get_or xss k [] ++ p ∷ [])) × (length cs2 ≡ length cs)
pushed cs cs0 cs1 cs2 es xss k p e e' t lt within off read e0 e1 e2 f g =
    let is : e ≡ get_or es k no_ends = read ∙ get_or_default es k e no_ends lt in
    let old = get_or es k no_ends in
    let made = set cs p (Some (node k None None)) in
    let all : cs2 ≡ places_before (Some p) old.last (places_after old.last (Some p) made) =
    e2 ∙ ap (λ c. places_before (Some p) e.last c) (e1 ∙ ap (λ c. places_after e.last (Some p) c) e0)
    ∙ ap (λ (d : Ends). places_before (Some p) d.last (places_after d.last (Some p) made)) is in (
      subst (λ c. IsThreads c (set es k e') (set xss k (get_or xss k [] ++ p ∷ []))) (sym all)
          (pushed-all cs es xss k p e' t lt within off (f ∙ ap (λ (d : Ends). cond (is_some d.last) d.first (Some p)) is) g),
      ap length all ∙ ChainLemmas.length-places_before (Some p) old.last (places_after old.last (Some p) made)
          ∙ ChainLemmas.length-places_after old.last (Some p) made ∙ length-set cs p (Some (node k None None)),
    )

-- ---- a place is taken off its thread
pub get-map : (f : List ℕ → List ℕ) (xss : List (List ℕ)) (j : ℕ) → f [] ≡ [] → get_or (map f xss) j [] ≡ f (get_or xss j [])
get-map f [] j e = sym e
get-map f (xs ∷ xss) zero e = refl
get-map f (xs ∷ xss) (suc j) e = get-map f xss j e

-- what is known of a place on a thread
pub record IsSeen (cs : List (Option (Node ℕ))) (es : List Ends) (xss : List (List ℕ)) (k p : ℕ) : Type 0 where
  pub before : List ℕ
  pub behind : List ℕ
  pub within : k < length es
  pub thread : IsThread cs k (get_or es k no_ends) (get_or xss k [])
  pub is : get_or xss k [] ≡ before ++ p ∷ behind
  pub on_is : on k (get_or xss k []) ≡ on k before ++ at k p ∷ on k behind
  pub linked : Linked cs None (on k before ++ at k p ∷ on k behind) None
  pub apart : Apart (on k before ++ at k p ∷ on k behind)
  pub node_is : get_or cs p None ≡ Some (node k (last_or None (on k before)) (first_or (on k behind) None))
  pub place : p < length cs

pub seen : (cs : List (Option (Node ℕ))) (es : List Ends) (xss : List (List ℕ)) (k p : ℕ) → IsThreads cs es xss →
    is_on p (get_or xss k []) ≡ true → IsSeen cs es xss k p
seen cs es xss k p t o =
    let s = split_on p (get_or xss k []) o in
    let lt : k < length es = elim (cases_lt k (length xss)) [
      | inl lt ↦ omega (arith, t.long, lt)
      | inr le ↦ let none : false ≡ true = ap (λ l. is_on p l) (sym (get_or_past xss k [] le)) ∙ o in cc
    ] in
    let c = t.each k lt in
    let is = ap (λ l. on k l) s.is ∙ on-append k s.before (p ∷ s.behind) in
    let linked = subst (λ l. Linked cs None l None) is c.linked in
    let here = ChainLemmas.Linked-middle cs (on k s.before) (at k p) (on k s.behind) linked in
    record {
      before = s.before;
      behind = s.behind;
      within = lt;
      thread = c;
      is = s.is;
      on_is = is;
      linked = linked;
      apart = subst (λ l. Apart l) is c.apart;
      node_is = here;
      place = live_within cs p (ap is_some here);
    }

-- its link
abbrev number_of : Option (Node ℕ) → ℕ
number_of None = 0
number_of (Some n) = n.value

abbrev before_of : Option (Node ℕ) → Option ℕ
before_of None = None
before_of (Some n) = n.before

pub link-seen : (cs : List (Option (Node ℕ))) (es : List Ends) (xss : List (List ℕ)) (k p t : ℕ) (b a : Option ℕ)
    (s : IsSeen cs es xss k p) → get_or cs p None ≡ Some (node t b a)
    → (t ≡ k) × (b ≡ last_or None (on k s.before)) × (a ≡ first_or (on k s.behind) None)
link-seen cs es xss k p t b a s e = let same = sym e ∙ s.node_is in (ap number_of same, ap before_of same, ap after_of same)

pub after-seen : (cs : List (Option (Node ℕ))) (es : List Ends) (xss : List (List ℕ)) (k p : ℕ) (s : IsSeen cs es xss k p) →
    place_after p (get_or xss k []) ≡ first_or (on k s.behind) None
after-seen cs es xss k p s =
    ap (λ l. place_after p l) s.is ∙ after-one k p s.before s.behind
    (ChainLemmas.Apart-before (on k s.before) (at k p) (on k s.behind) s.apart) ∙ sym (first-on k s.behind)

-- the nodes once the neighbours of a place are joined
abbrev pub joined : Option ℕ → Option ℕ → List (Option (Node ℕ)) → List (Option (Node ℕ))
joined b a cs = places_before a b (places_after b a cs)

unlinked-here : (cs : List (Option (Node ℕ))) (es : List Ends) (xss : List (List ℕ)) (k p : ℕ) (e' : Ends) (s : IsSeen cs es xss k p)
    → e'.first ≡ cond (is_some (last_or None (on k s.before))) (get_or es k no_ends).first (first_or (on k s.behind) None)
    → e'.last ≡ cond (is_some (first_or (on k s.behind) None)) (get_or es k no_ends).last (last_or None (on k s.before))
    → IsThread (joined (last_or None (on k s.before)) (first_or (on k s.behind) None) cs) k e' (without p (get_or xss k []))
unlinked-here cs es xss k p e' s f g =
    let xs = on k s.before in
    let ys = on k s.behind in
    let x = at k p in
    let away = ChainLemmas.Apart-before xs x ys s.apart in
    let left : without p (get_or xss k []) ≡ s.before ++ s.behind =
    ap (λ l. without p l) s.is ∙ without-one k p s.before s.behind away (ChainLemmas.Apart-cut xs (x ∷ ys) s.apart).1.0 in
    let is : on k (without p (get_or xss k [])) ≡ xs ++ ys = ap (λ l. on k l) left ∙ on-append k s.before s.behind in
    record {
      linked = subst (λ l. Linked (joined (last_or None xs) (first_or ys None) cs) None l None) (sym is)
          (ChainLemmas.Linked-joined cs xs x ys s.apart s.linked);
      first_is = f ∙ ap (λ o. cond (is_some (last_or None xs)) o (first_or ys None)) (s.thread.first_is ∙ ap (λ l. first_or l None) s.on_is)
          ∙ ChainLemmas.first-unlink xs x ys ∙ ap (λ l. first_or l None) (sym is);
      last_is = g ∙ ap (λ o. cond (is_some (first_or ys None)) o (last_or None xs)) (s.thread.last_is ∙ ap (λ l. last_or None l) s.on_is)
          ∙ ChainLemmas.last-unlink xs x ys ∙ ap (λ l. last_or None l) (sym is);
      apart = subst (λ l. Apart l) (sym is) (ChainLemmas.Apart-without xs x ys s.apart);
    }

unlinked-other : (cs : List (Option (Node ℕ))) (es : List Ends) (xss : List (List ℕ)) (k p j : ℕ) (d : Ends) (qs : List ℕ)
    (s : IsSeen cs es xss k p) → IsThread cs j d qs → j ≢ k
    → IsThread (joined (last_or None (on k s.before)) (first_or (on k s.behind) None) cs) j d (without p qs)
unlinked-other cs es xss k p j d qs s o n =
    let xs = on k s.before in
    let ys = on k s.behind in
    let b = last_or None xs in
    let a = first_or ys None in
    let cut = ChainLemmas.Linked-cut cs None xs (at k p ∷ ys) None s.linked in
    let same : without p qs ≡ qs = without-away j p qs (apart-threads cs j k qs p o.linked n (ap value_of s.node_is)) in
    subst (λ l. IsThread (joined b a cs) j d l) (sym same) (record {
      linked = ChainLemmas.Linked-before_elsewhere (places_after b a cs) None (on j qs) None a b
          (λ q f. apart-threads cs j k qs q o.linked n (first-thread cs (Some p) k s.behind None q cut.1.1 f))
          (ChainLemmas.Linked-after_elsewhere cs None (on j qs) None b a
          (λ q f. apart-threads cs j k qs q o.linked n (last-thread cs None k s.before (Some p) q cut.0 (λ g. cc) f)) o.linked);
      first_is = o.first_is;
      last_is = o.last_is;
      apart = o.apart;
    })

unlinked-all : (cs : List (Option (Node ℕ))) (es : List Ends) (xss : List (List ℕ)) (k p : ℕ) (e' : Ends) (t : IsThreads cs es xss)
    (s : IsSeen cs es xss k p)
    → e'.first ≡ cond (is_some (last_or None (on k s.before))) (get_or es k no_ends).first (first_or (on k s.behind) None)
    → e'.last ≡ cond (is_some (first_or (on k s.behind) None)) (get_or es k no_ends).last (last_or None (on k s.before))
    → IsThreads (joined (last_or None (on k s.before)) (first_or (on k s.behind) None) cs) (set es k e') (map (without p) xss)
unlinked-all cs es xss k p e' t s f g =
    let new = joined (last_or None (on k s.before)) (first_or (on k s.behind) None) cs in
    record {
      long = omega (arith, t.long, length-set es k e', length-map xss (without p));
      each = λ j lj. subst (λ l. IsThread new j (get_or (set es k e') j no_ends) l) (sym (get-map (without p) xss j refl))
          (elim (eqb_tells j k) [
            | inl q ↦ subst (λ i. IsThread new i (get_or (set es k e') i no_ends) (without p (get_or xss i []))) (sym q.1)
                (subst (λ d. IsThread new k d (without p (get_or xss k []))) (sym (get_or-set_same es k e' no_ends s.within))
                (unlinked-here cs es xss k p e' s f g))
            | inr q ↦ subst (λ d. IsThread new j d (without p (get_or xss j []))) (sym (get_or-set_other es k j e' no_ends q.1))
                (unlinked-other cs es xss k p j (get_or es j no_ends) (get_or xss j []) s
                (t.each j (omega (arith, length-set es k e'))) q.1)
          ]);
    }

-- by what the calls say
pub unlinked : (cs cs1 cs2 : List (Option (Node ℕ))) (es : List Ends) (xss : List (List ℕ)) (k p t : ℕ) (b a : Option ℕ) (e e' : Ends) →
    IsThreads cs es xss → (s : IsSeen cs es xss k p)
    → (t ≡ k) × (b ≡ last_or None (on k s.before)) × (a ≡ first_or (on k s.behind) None) → e ≡ get_or es t e
    → cs1 ≡ places_after b a cs → cs2 ≡ places_before a b cs1 → e'.first ≡ cond (is_some b) e.first a → e'.last ≡ cond (is_some a) e.last b
    → IsThreads cs2 (set es t e') (map (without p) xss) × (length cs2 ≡ length cs)
unlinked cs cs1 cs2 es xss k p t b a e e' inv s (it, ib, ia) read e1 e2 f g =
    let is : e ≡ get_or es k no_ends = read ∙ ap (λ i. get_or es i e) it ∙ get_or_default es k e no_ends s.within in
    let b' = last_or None (on k s.before) in
    let a' = first_or (on k s.behind) None in
    let all : cs2 ≡ joined b' a' cs = e2 ∙ ap (λ c. places_before a b c) e1 ∙ (λ i. joined (ib i) (ia i) cs) in (
      subst (λ (q : ℕ × List (Option (Node ℕ))). IsThreads q.1 (set es q.0 e') (map (without p) xss)) (λ i. (sym it i, sym all i))
          (unlinked-all cs es xss k p e' inv s (f ∙ (λ i. cond (is_some (ib i)) (is i).first (ia i)))
          (g ∙ (λ i. cond (is_some (ia i)) (is i).last (ib i)))),
      ap length all ∙ ChainLemmas.length-places_before a' b' (places_after b' a' cs) ∙ ChainLemmas.length-places_after b' a' cs,
    )

pub some_within : (cs : List (Option (Node ℕ))) (o : Option ℕ) → IfSome o (λ q. is_some (get_or cs q None) ≡ true) →
    IfSome o (λ q. q < length cs)
some_within cs None h = tt
some_within cs (Some q) h = live_within cs q h

-- the neighbours of a place are places
pub before-within : (cs : List (Option (Node ℕ))) (es : List Ends) (xss : List (List ℕ)) (k p : ℕ) (s : IsSeen cs es xss k p) →
    IfSome (last_or None (on k s.before)) (λ q. q < length cs)
before-within cs es xss k p s =
    some_within cs (last_or None (on k s.before)) (ChainLemmas.live-last cs None (on k s.before) (Some p) tt
    (ChainLemmas.Linked-cut cs None (on k s.before) (at k p ∷ on k s.behind) None s.linked).0)

pub behind-within : (cs : List (Option (Node ℕ))) (es : List Ends) (xss : List (List ℕ)) (k p : ℕ) (s : IsSeen cs es xss k p) →
    IfSome (first_or (on k s.behind) None) (λ q. q < length cs)
behind-within cs es xss k p s =
    some_within cs (first_or (on k s.behind) None) (ChainLemmas.live-first cs None None (Some p) (on k s.behind)
    (ChainLemmas.Linked-cut cs None (on k s.before) (at k p ∷ on k s.behind) None s.linked).1.1)

-- the last of a thread is a place
pub last-within : (cs cs0 : List (Option (Node ℕ))) (es : List Ends) (xss : List (List ℕ)) (k p : ℕ) (e : Ends) (v : Option (Node ℕ)) →
    IsThreads cs es xss → k < length es → e ≡ get_or es k e
    → cs0 ≡ set cs p v → IfSome e.last (λ q. q < length cs0)
last-within cs cs0 es xss k p e v t lt read e0 =
    let c = t.each k lt in
    let is : e.last ≡ last_or None (on k (get_or xss k [])) = ap (λ (d : Ends). d.last) (read ∙ get_or_default es k e no_ends lt)
    ∙ c.last_is in
    subst (λ n. IfSome e.last (λ q. q < n)) (sym (ap length e0 ∙ length-set cs p v))
    (subst (λ o. IfSome o (λ q. q < length cs)) (sym is) (some_within cs (last_or None (on k (get_or xss k [])))
    (ChainLemmas.live-last cs None (on k (get_or xss k [])) None tt c.linked)))

-- ---- empty threads
pub no_threads : (cs : List (Option (Node ℕ))) (n : ℕ) → IsThreads cs (replicate n no_ends) (replicate n [])
no_threads cs n = record {
  long = length-replicate n no_ends ∙ sym (length-replicate n none);
  each = λ k lt.
      let within : k < n = omega (arith, length-replicate n no_ends) in
      subst (λ (q : Ends × List ℕ). IsThread cs k q.0 q.1) (λ i. (
        sym (get_or-replicate n k no_ends no_ends within) i,
        sym (get_or-replicate n k none none within) i,
      ))
      (record { linked = tt; first_is = refl; last_is = refl; apart = tt });
}
  where
    none : List ℕ
    none = []
