-- What putting a place between two neighbours makes of the nodes.
use Rattle.std.proofs.Common.{◌≡◌, ◌≢◌, ℕ, ◌<◌, true, false, cond, nat_eq, List, [], ◌∷◌, ◌++◌, length, get_or, set, Option, Some, None}
use Rattle.std.proofs.Common.{refl, sym, ap, subst, ◌∙◌, inl, inr, arith, length-set}
use Rattle.std.proofs.lemmas.Bool.{ne_eqb, eq-eqb}
use Rattle.std.proofs.lemmas.Bool.Decides.{eqb_tells}
use Rattle.std.proofs.lemmas.List.{get_or-set_same, get_or-set_other, get_or_default}
use Rattle.std.proofs.lemmas.List.{append_assoc}
use Rattle.std.specs.Option.{is_some, IfSome}
use Rattle.chain_list.specs.NodeMap.{Node, node}
use Rattle.chain_list.specs.Chain.{Keyed, first_or, last_or, Linked, NotAt, Apart}
use Rattle.chain_list.specs.Relinked.{places_after, places_before}
use Rattle.chain_list.proofs.ChainLemmas
use Rattle.chain_list.specs.declared.threads.ends.Ends.{Ends}
use Rattle.chain_list.specs.threads.Threads.{is_on, last_after, AreApart, placed_after}
use Rattle.chain_list.specs.threads.Fields.{on, after_of, next_of, no_ends, IsThread, IsThreads}
use Rattle.chain_list.proofs.threads.ThreadLemmas.{at, on-append, NotAt-off, split_on, last-thread, first-thread, apart-threads}
use Rattle.chain_list.proofs.threads.ThreadLemmas.{some_within}

-- ---- the last place, and places apart
pub last-on : (k : ℕ) (b : Option ℕ) (ps : List ℕ) → last_or b (on k ps) ≡ last_after b ps
last-on k b [] = refl
last-on k b (p ∷ ps) = last-on k (Some p) ps

on-away : (k p : ℕ) (ps : List ℕ) → NotAt p (on k ps) → is_on p ps ≡ false
on-away k p [] n = refl
on-away k p (q ∷ ps) n = let e : nat_eq q p ≡ false = ne_eqb q p n.0 in rw e (on-away k p ps n.1)

pub apart-on : (k : ℕ) (ps : List ℕ) → Apart (on k ps) → AreApart ps
apart-on k [] a = tt
apart-on k (p ∷ ps) a = (on-away k p ps a.0, apart-on k ps a.1)

-- ---- where the place goes
record IsSeam (k : ℕ) (b : Option ℕ) (p : ℕ) (ps : List ℕ) : Type 0 where
  pub before : List ℕ
  pub behind : List ℕ
  pub is : ps ≡ before ++ behind
  pub put : placed_after b p ps ≡ before ++ p ∷ behind
  pub last_is : last_or None (on k before) ≡ b

placed-behind : (k q p : ℕ) (ps qs : List ℕ) → NotAt q (on k ps) → placed_after (Some q) p (ps ++ q ∷ qs) ≡ ps ++ q ∷ p ∷ qs
placed-behind k q p [] qs n = let e : nat_eq q q ≡ true = eq-eqb q q refl in rw e refl
placed-behind k q p (r ∷ ps) qs n = let e : nat_eq r q ≡ false = ne_eqb r q n.0 in rw e (ap (λ l. r ∷ l) (placed-behind k q p ps qs n.1))

seam : (k : ℕ) (b : Option ℕ) (p : ℕ) (ps : List ℕ) → Apart (on k ps) → IfSome b (λ q. is_on q ps ≡ true) → IsSeam k b p ps
seam k None p ps a h = record { before = []; behind = ps; is = refl; put = refl; last_is = refl }
seam k (Some q) p ps a h =
    let s = split_on q ps h in
    let is = ap (λ l. on k l) s.is ∙ on-append k s.before (q ∷ s.behind) in
    let away = ChainLemmas.Apart-before (on k s.before) (at k q) (on k s.behind) (subst (λ l. Apart l) is a) in
    record {
      before = s.before ++ q ∷ [];
      behind = s.behind;
      is = s.is ∙ sym (append_assoc s.before (q ∷ []) s.behind);
      put = ap (λ l. placed_after (Some q) p l) s.is ∙ placed-behind k q p s.before s.behind away
          ∙ sym (append_assoc s.before (q ∷ []) (p ∷ s.behind));
      last_is = ap (λ l. last_or None l) (on-append k s.before (q ∷ [])) ∙ ChainLemmas.last_or-append None (on k s.before) (on k (q ∷ []));
    }

-- ---- the nodes
module _ (cs : List (Option (Node ℕ))) (k p : ℕ) where
  abbrev pub between : Option ℕ → Option ℕ → List (Option (Node ℕ))
  between b a = places_before a (Some p) (places_after b (Some p) (set cs p (Some (node k b a))))

Apart-insert : (xs : List (Keyed ℕ)) (x : Keyed ℕ) (ys : List (Keyed ℕ)) → Apart (xs ++ ys) → NotAt x.key.place (xs ++ ys) →
    Apart (xs ++ x ∷ ys)
Apart-insert [] x ys a n = (n, a)
Apart-insert (y ∷ xs) x ys a n =
    let cut = ChainLemmas.NotAt-cut y.key.place xs ys a.0 in
    (ChainLemmas.NotAt-append y.key.place xs (x ∷ ys) cut.0 ((λ e. n.0 (sym e)), cut.1), Apart-insert xs x ys a.1 n.1)

first-insert : (xs : List (Keyed ℕ)) (x : Keyed ℕ) (ys : List (Keyed ℕ)) → cond (is_some (last_or None xs)) (first_or (xs ++ ys) None)
    (Some x.key.place) ≡ first_or (xs ++ x ∷ ys) None
first-insert [] x ys = refl
first-insert (y ∷ xs) x ys = rw (ChainLemmas.last-some (Some y.key.place) xs refl) refl

last-insert : (xs : List (Keyed ℕ)) (x : Keyed ℕ) (ys : List (Keyed ℕ)) → cond (is_some (first_or ys None)) (last_or None (xs ++ ys))
    (Some x.key.place) ≡ last_or None (xs ++ x ∷ ys)
last-insert xs x [] = sym (ChainLemmas.last_or-append None xs (x ∷ []))
last-insert xs x (y ∷ ys) = ChainLemmas.last_or-append None xs (y ∷ ys) ∙ sym (ChainLemmas.last_or-append None xs (x ∷ y ∷ ys))

-- a place that lies apart isn't the first of a list
not-first : (xs : List (Keyed ℕ)) (q p : ℕ) → NotAt p xs → first_or xs None ≡ Some q → q ≢ p
not-first [] q p n e = cc
not-first (x ∷ xs) q p n e = λ same. let here : x.key.place ≡ q = cc in n.0 (here ∙ same)

NotAt-first : (ys : List (Keyed ℕ)) (q : ℕ) (xs : List (Keyed ℕ)) → Apart (xs ++ ys) → first_or ys None ≡ Some q → NotAt q xs
NotAt-first [] q xs a e = cc
NotAt-first (y ∷ ys) q xs a e = let at : y.key.place ≡ q = cc in subst (λ i. NotAt i xs) at (ChainLemmas.Apart-before xs y ys a)

Linked-insert : (cs : List (Option (Node ℕ))) (k p : ℕ) (xs ys : List (Keyed ℕ)) → Apart (xs ++ ys) → Linked cs None (xs ++ ys) None →
    p < length cs → NotAt p (xs ++ ys)
    → Linked (between cs k p (last_or None xs) (first_or ys None)) None (xs ++ at k p ∷ ys) None
Linked-insert cs k p xs ys a l lt away =
    let b = last_or None xs in
    let n = first_or ys None in
    let v = Some (node k b n) in
    let made = set cs p v in
    let c1 = places_after b (Some p) made in
    let c2 = places_before n (Some p) c1 in
    let offs = ChainLemmas.NotAt-cut p xs ys away in
    let cut = ChainLemmas.Linked-cut cs None xs ys None l in
    let apart = ChainLemmas.Apart-cut xs ys a in
    let left1 = ChainLemmas.Linked-after made None xs n (Some p) apart.0 (ChainLemmas.Linked-set cs None xs n p v offs.0 cut.0) in
    let left2 = ChainLemmas.Linked-before_elsewhere c1 None xs (Some p) n (Some p) (λ q e. NotAt-first ys q xs a e) left1 in
    let right1 = ChainLemmas.Linked-after_elsewhere made b ys None b (Some p) (λ q e. ChainLemmas.Apart-last None xs ys q a (λ i. cc) e)
    (ChainLemmas.Linked-set cs b ys None p v offs.1 cut.1) in
    let right2 = ChainLemmas.Linked-before c1 b ys None (Some p) apart.1 right1 in
    let here : get_or made p None ≡ v = get_or-set_same cs p v None lt in
    let still : get_or c1 p None ≡ v = ChainLemmas.places_after-other made b (Some p) p
    (ChainLemmas.NotAt-last p None xs offs.0 (λ e. cc)) ∙ here in
    let last : get_or c2 p None ≡ v = ChainLemmas.places_before-other c1 n (Some p) p (λ e. not-first ys p p offs.1 e refl) ∙ still in
    ChainLemmas.Linked-join c2 None xs (at k p ∷ ys) None left2 (last, right2)

-- ---- the threads
module _ (cs : List (Option (Node ℕ))) (k p : ℕ) (e e' : Ends) (ps : List ℕ) (b a : Option ℕ) (c : IsThread cs k e ps)
    (s : IsSeam k b p ps) (next : a ≡ first_or (on k s.behind) None) where
  cut_is : on k ps ≡ on k s.before ++ on k s.behind
  cut_is = ap (λ l. on k l) s.is ∙ on-append k s.before s.behind

  inserted-here : p < length cs → is_on p ps ≡ false → e'.first ≡ cond (is_some b) e.first (Some p) →
      e'.last ≡ cond (is_some a) e.last (Some p)
      → IsThread (between cs k p b a) k e' (placed_after b p ps)
  inserted-here lt off f g =
      let xs = on k s.before in
      let ys = on k s.behind in
      let is : on k (placed_after b p ps) ≡ xs ++ at k p ∷ ys = ap (λ l. on k l) s.put ∙ on-append k s.before (p ∷ s.behind) in
      let away : NotAt p (xs ++ ys) = subst (λ l. NotAt p l) cut_is (NotAt-off k p ps off) in
      let apart : Apart (xs ++ ys) = subst (λ l. Apart l) cut_is c.apart in
      let linked = Linked-insert cs k p xs ys apart (subst (λ l. Linked cs None l None) cut_is c.linked) lt away in
      record {
        linked = subst (λ (q : Option ℕ × Option ℕ × List (Keyed ℕ)). Linked (between cs k p q.0 q.1) None q.2 None)
            (λ i. (s.last_is i, sym next i, sym is i)) linked;
        first_is = f ∙ (λ i. cond (is_some (sym s.last_is i)) ((c.first_is ∙ ap (λ l. first_or l None) cut_is) i) (Some p))
            ∙ first-insert xs (at k p) ys ∙ ap (λ l. first_or l None) (sym is);
        last_is = g ∙ (λ i. cond (is_some (next i)) ((c.last_is ∙ ap (λ l. last_or None l) cut_is) i) (Some p))
            ∙ last-insert xs (at k p) ys ∙ ap (λ l. last_or None l) (sym is);
        apart = subst (λ l. Apart l) (sym is) (Apart-insert xs (at k p) ys apart away);
      }

  inserted-other : (j : ℕ) (d : Ends) (qs : List ℕ) → IsThread cs j d qs → j ≢ k → is_on p qs ≡ false → IsThread (between cs k p b a) j d qs
  inserted-other j d qs o n off =
      let away = NotAt-off j p qs off in
      let v = Some (node k b a) in
      let made = set cs p v in
      let cut = ChainLemmas.Linked-cut cs None (on k s.before) (on k s.behind) None (subst (λ l. Linked cs None l None) cut_is c.linked) in
      record {
        linked = ChainLemmas.Linked-before_elsewhere (places_after b (Some p) made) None (on j qs) None a (Some p)
            (λ q f. apart-threads cs j k qs q o.linked n (first-thread cs (last_or None (on k s.before)) k s.behind None q cut.1
            (sym next ∙ f)))
            (ChainLemmas.Linked-after_elsewhere made None (on j qs) None b (Some p)
            (λ q f. apart-threads cs j k qs q o.linked n (last-thread cs None k s.before (first_or (on k s.behind) None) q cut.0 (λ g. cc)
            (s.last_is ∙ f)))
            (ChainLemmas.Linked-set cs None (on j qs) None p v away o.linked));
        first_is = o.first_is;
        last_is = o.last_is;
        apart = o.apart;
      }

inserted-all : (cs : List (Option (Node ℕ))) (es : List Ends) (xss : List (List ℕ)) (k p : ℕ) (e' : Ends) (b a : Option ℕ)
    (t : IsThreads cs es xss) → k < length es → p < length cs
    → ((j : ℕ) → is_on p (get_or xss j []) ≡ false) → (s : IsSeam k b p (get_or xss k [])) → a ≡ first_or (on k s.behind) None
    → e'.first ≡ cond (is_some b) (get_or es k no_ends).first (Some p) → e'.last ≡ cond (is_some a) (get_or es k no_ends).last (Some p)
    → IsThreads (between cs k p b a) (set es k e') (set xss k (placed_after b p (get_or xss k [])))
inserted-all cs es xss k p e' b a t lt within off s next f g =
    let e = get_or es k no_ends in
    let ps = get_or xss k [] in
    let c = t.each k lt in
    let new = between cs k p b a in
    let put = placed_after b p ps in
    record {
      long = omega (arith, t.long, length-set es k e', length-set xss k put);
      each = λ j lj. elim (eqb_tells j k) [
        | inl q ↦ subst (λ i. IsThread new i (get_or (set es k e') i no_ends) (get_or (set xss k put) i [])) (sym q.1)
            (subst (λ (q : Ends × List ℕ). IsThread new k q.0 q.1)
            (λ i. (sym (get_or-set_same es k e' no_ends lt) i, sym (get_or-set_same xss k put [] (omega (arith, t.long))) i))
            (inserted-here cs k p e e' ps b a c s next within (off k) f g))
        | inr q ↦ subst (λ (q : Ends × List ℕ). IsThread new j q.0 q.1)
            (λ i. (sym (get_or-set_other es k j e' no_ends q.1) i, sym (get_or-set_other xss k j put [] q.1) i))
            (inserted-other cs k p e e' ps b a c s next j (get_or es j no_ends) (get_or xss j [])
            (t.each j (omega (arith, length-set es k e'))) q.1 (off j))
      ];
    }

-- what follows the seam is what the links say
last_next : (cs : List (Option (Node ℕ))) (first after b : Option ℕ) (y : Keyed ℕ) (ys : List (Keyed ℕ)) → Linked cs b (y ∷ ys) after →
    next_of (last_or (Some y.key.place) ys) first cs ≡ after
last_next cs first after b y [] l = ap after_of l.0
last_next cs first after b y (z ∷ ys) l = last_next cs first after (Some y.key.place) z ys l.1

seam_next : (cs : List (Option (Node ℕ))) (first b : Option ℕ) (k : ℕ) (before behind : List ℕ) → last_or None (on k before) ≡ b →
    Linked cs None (on k before ++ on k behind) None → first ≡ first_or (on k before ++ on k behind) None
    → next_of b first cs ≡ first_or (on k behind) None
seam_next cs first None k [] behind last l f = f
seam_next cs first (Some q) k [] behind last l f = cc
seam_next cs first b k (x ∷ xs) behind last l f =
    let cut = ChainLemmas.Linked-cut cs None (on k (x ∷ xs)) (on k behind) None l in
    subst (λ o. next_of o first cs ≡ first_or (on k behind) None) last
    (last_next cs first (first_or (on k behind) None) None (at k x) (on k xs) cut.0)

next-seam : (cs : List (Option (Node ℕ))) (k p : ℕ) (e : Ends) (ps : List ℕ) (b : Option ℕ) → IsThread cs k e ps → (s : IsSeam k b p ps) →
    next_of b e.first cs ≡ first_or (on k s.behind) None
next-seam cs k p e ps b c s =
    let is : on k ps ≡ on k s.before ++ on k s.behind = ap (λ l. on k l) s.is ∙ on-append k s.before s.behind in
    seam_next cs e.first b k s.before s.behind s.last_is (subst (λ l. Linked cs None l None) is c.linked)
    (c.first_is ∙ ap (λ l. first_or l None) is)

-- by what the calls say
pub inserted : (cs cs0 cs1 cs2 : List (Option (Node ℕ))) (es : List Ends) (xss : List (List ℕ)) (k p : ℕ) (b a : Option ℕ) (e e' : Ends) →
    IsThreads cs es xss → k < length es → p < length cs
    → ((j : ℕ) → is_on p (get_or xss j []) ≡ false) → IfSome b (λ q. is_on q (get_or xss k []) ≡ true) → e ≡ get_or es k e →
    a ≡ next_of b e.first cs
    → cs0 ≡ set cs p (Some (node k b a)) → cs1 ≡ places_after b (Some p) cs0 → cs2 ≡ places_before a (Some p) cs1
    → e'.first ≡ cond (is_some b) e.first (Some p) → e'.last ≡ cond (is_some a) e.last (Some p)
    → IsThreads cs2 (set es k e') (set xss k (placed_after b p (get_or xss k []))) × (length cs2 ≡ length cs)
inserted cs cs0 cs1 cs2 es xss k p b a e e' t lt within off there read next e0 e1 e2 f g =
    let is : e ≡ get_or es k no_ends = read ∙ get_or_default es k e no_ends lt in
    let c = t.each k lt in
    let s = seam k b p (get_or xss k []) c.apart there in
    let follows : a ≡ first_or (on k s.behind) None = next ∙ ap (λ (d : Ends). next_of b d.first cs) is
    ∙ next-seam cs k p (get_or es k no_ends) (get_or xss k []) b c s in
    let made = set cs p (Some (node k b a)) in
    let all : cs2 ≡ between cs k p b a = e2 ∙ ap (λ c. places_before a (Some p) c) (e1 ∙ ap (λ c. places_after b (Some p) c) e0) in (
      subst (λ c. IsThreads c (set es k e') (set xss k (placed_after b p (get_or xss k [])))) (sym all)
          (inserted-all cs es xss k p e' b a t lt within off s follows (f ∙ ap (λ (d : Ends). cond (is_some b) d.first (Some p)) is)
          (g ∙ ap (λ (d : Ends). cond (is_some a) d.last (Some p)) is)),
      ap length all ∙ ChainLemmas.length-places_before a (Some p) (places_after b (Some p) made)
          ∙ ChainLemmas.length-places_after b (Some p) made ∙ length-set cs p (Some (node k b a)),
    )

-- the neighbours lie within
pub there-within : (cs : List (Option (Node ℕ))) (k : ℕ) (e : Ends) (ps : List ℕ) (b : Option ℕ) → IsThread cs k e ps →
    IfSome b (λ q. is_on q ps ≡ true) → IfSome b (λ q. q < length cs)
there-within cs k e ps None c h = tt
there-within cs k e ps (Some q) c h = let s = seam k (Some q) 0 ps c.apart h in
    let cut = ChainLemmas.Linked-cut cs None (on k s.before) (on k s.behind) None
    (subst (λ l. Linked cs None l None) (ap (λ l. on k l) s.is ∙ on-append k s.before s.behind) c.linked) in
    let live = ChainLemmas.live-last cs None (on k s.before) (first_or (on k s.behind) None) tt cut.0 in
    some_within cs (Some q) (subst (λ o. IfSome o (λ q. is_some (get_or cs q None) ≡ true)) s.last_is live)

pub next-within : (cs : List (Option (Node ℕ))) (k : ℕ) (e : Ends) (ps : List ℕ) (b : Option ℕ) → IsThread cs k e ps →
    IfSome b (λ q. is_on q ps ≡ true) → IfSome (next_of b e.first cs) (λ q. q < length cs)
next-within cs k e ps b c h = let s = seam k b 0 ps c.apart h in
    let cut = ChainLemmas.Linked-cut cs None (on k s.before) (on k s.behind) None
    (subst (λ l. Linked cs None l None) (ap (λ l. on k l) s.is ∙ on-append k s.before s.behind) c.linked) in
    some_within cs (next_of b e.first cs) (subst (λ o. IfSome o (λ q. is_some (get_or cs q None) ≡ true))
    (sym (next-seam cs k 0 e ps b c s)) (ChainLemmas.live-first cs None None (last_or None (on k s.before)) (on k s.behind) cut.1))
