-- Lists of linked nodes: what a node in the middle sees, and what joining and cutting the links keeps.
use Rattle.std.proofs.Common.{◌≡◌, ◌≢◌, ℕ, zero, suc, ◌<◌, Bool, true, false, cond, nat_eq, List, [], ◌∷◌, ◌++◌, length, get_or, set}
use Rattle.std.proofs.Common.{Option, Some, None, refl, sym, ap, subst, ◌∙◌, inl, inr, arith}
use Rattle.std.proofs.lemmas.List.{get_or-set_same, get_or-set_other, length-set, set_past, append-nil}
use Rattle.std.proofs.lemmas.Bool.{cases_lt, ne_eqb, eq-eqb}
use Rattle.std.proofs.lemmas.List.Sums.{sum_by-set}
use Rattle.std.specs.Option.{is_some, IfSome}
use Rattle.std.specs.List.{count_by}
use Rattle.chain_list.specs.declared.chain.ChainKey.{ChainKey}
use Rattle.chain_list.specs.NodeMap.{Node}
use Rattle.chain_list.specs.NodeMap.{node, valued}
use Rattle.chain_list.specs.Chain.{Keyed, first_or, last_or, Linked, stamp_at}
use Rattle.chain_list.specs.Chain.{NotAt, Apart}
use Rattle.chain_list.specs.Relinked.{with_after, with_before, places_after, places_before}
use Rattle.chain_list.proofs.NodeLemmas.{live_within}

-- one for a node, none for an empty place
abbrev count_of : Bool → ℕ
count_of b = cond b 1 0

module _ {X : Type 0} where
  -- ---- the ends of a list
  pub first_or-append : (xs ys : List (Keyed X)) (a : Option ℕ) → first_or (xs ++ ys) a ≡ first_or xs (first_or ys a)
  first_or-append [] ys a = refl
  first_or-append (x ∷ xs) ys a = refl

  pub last_or-append : (b : Option ℕ) (xs ys : List (Keyed X)) → last_or b (xs ++ ys) ≡ last_or (last_or b xs) ys
  last_or-append b [] ys = refl
  last_or-append b (x ∷ xs) ys = last_or-append (Some x.key.place) xs ys

  -- ---- a list is cut in two, and joined
  pub Linked-cut : (cs : List (Option (Node X))) (b : Option ℕ) (xs ys : List (Keyed X)) (a : Option ℕ)
      → Linked cs b (xs ++ ys) a → Linked cs b xs (first_or ys a) × Linked cs (last_or b xs) ys a
  Linked-cut cs b [] ys a l = (tt, l)
  Linked-cut cs b (x ∷ xs) ys a l =
      let rest = Linked-cut cs (Some x.key.place) xs ys a l.1 in
      ((l.0 ∙ ap (λ o. Some (node x.value b o)) (first_or-append xs ys a), rest.0), rest.1)

  pub Linked-join : (cs : List (Option (Node X))) (b : Option ℕ) (xs ys : List (Keyed X)) (a : Option ℕ)
      → Linked cs b xs (first_or ys a) → Linked cs (last_or b xs) ys a → Linked cs b (xs ++ ys) a
  Linked-join cs b [] ys a l m = m
  Linked-join cs b (x ∷ xs) ys a l m =
      (l.0 ∙ ap (λ o. Some (node x.value b o)) (sym (first_or-append xs ys a)), Linked-join cs (Some x.key.place) xs ys a l.1 m)

  -- ---- a write elsewhere
  pub Linked-set : (cs : List (Option (Node X))) (b : Option ℕ) (xs : List (Keyed X)) (a : Option ℕ) (p : ℕ) (v : Option (Node X))
      → NotAt p xs → Linked cs b xs a → Linked (set cs p v) b xs a
  Linked-set cs b [] a p v n l = tt
  Linked-set cs b (x ∷ xs) a p v n l =
      let apart : x.key.place ≢ p = n.0 in
      (get_or-set_other cs p x.key.place v None apart ∙ l.0, Linked-set cs (Some x.key.place) xs a p v n.1 l.1)

  -- ---- places apart
  pub NotAt-append : (p : ℕ) (xs ys : List (Keyed X)) → NotAt p xs → NotAt p ys → NotAt p (xs ++ ys)
  NotAt-append p [] ys m n = n
  NotAt-append p (x ∷ xs) ys m n = (m.0, NotAt-append p xs ys m.1 n)

  pub NotAt-cut : (p : ℕ) (xs ys : List (Keyed X)) → NotAt p (xs ++ ys) → NotAt p xs × NotAt p ys
  NotAt-cut p [] ys n = (tt, n)
  NotAt-cut p (x ∷ xs) ys n = let rest = NotAt-cut p xs ys n.1 in ((n.0, rest.0), rest.1)

  pub NotAt-last : (p : ℕ) (b : Option ℕ) (xs : List (Keyed X)) → NotAt p xs → b ≢ Some p → last_or b xs ≢ Some p
  NotAt-last p b [] n e = e
  NotAt-last p b (x ∷ xs) n e = NotAt-last p (Some x.key.place) xs n.1 (λ q. let at : x.key.place ≡ p = cc in n.0 at)

  pub Apart-cut : (xs ys : List (Keyed X)) → Apart (xs ++ ys) → Apart xs × Apart ys
  Apart-cut [] ys a = (tt, a)
  Apart-cut (x ∷ xs) ys a = let rest = Apart-cut xs ys a.1 in (((NotAt-cut x.key.place xs ys a.0).0, rest.0), rest.1)

  -- what stands after the last entry lies elsewhere
  pub Apart-last : (b : Option ℕ) (xs ys : List (Keyed X)) (q : ℕ) → Apart (xs ++ ys) → (b ≡ Some q → NotAt q ys) →
      last_or b xs ≡ Some q → NotAt q ys
  Apart-last b [] ys q a h e = h e
  Apart-last b (x ∷ xs) ys q a h e =
      Apart-last (Some x.key.place) xs ys q a.1 (λ i. let at : x.key.place ≡ q = cc in
      subst (λ p. NotAt p ys) at (NotAt-cut x.key.place xs ys a.0).1) e

  -- an entry lies apart from those before it
  pub Apart-before : (xs : List (Keyed X)) (y : Keyed X) (ys : List (Keyed X)) → Apart (xs ++ y ∷ ys) → NotAt y.key.place xs
  Apart-before [] y ys a = tt
  Apart-before (x ∷ xs) y ys a = (λ e. (NotAt-cut x.key.place xs (y ∷ ys) a.0).1.0 (sym e), Apart-before xs y ys a.1)

  -- ---- a link is changed
  -- what a write through an option of a place leaves elsewhere
  pub places_after-other : (cs : List (Option (Node X))) (o to : Option ℕ) (p : ℕ) → o ≢ Some p →
      get_or (places_after o to cs) p None ≡ get_or cs p None
  places_after-other cs None to p n = refl
  places_after-other cs (Some q) to p n = let apart : p ≢ q = λ e. n (ap (λ i. Some i) (sym e)) in
      get_or-set_other cs q p (with_after to (get_or cs q None)) None apart

  pub places_before-other : (cs : List (Option (Node X))) (o to : Option ℕ) (p : ℕ) → o ≢ Some p →
      get_or (places_before o to cs) p None ≡ get_or cs p None
  places_before-other cs None to p n = refl
  places_before-other cs (Some q) to p n = let apart : p ≢ q = λ e. n (ap (λ i. Some i) (sym e)) in
      get_or-set_other cs q p (with_before to (get_or cs q None)) None apart

  pub Linked-after_elsewhere : (cs : List (Option (Node X))) (b : Option ℕ) (xs : List (Keyed X)) (a o to : Option ℕ)
      → ((q : ℕ) → o ≡ Some q → NotAt q xs) → Linked cs b xs a → Linked (places_after o to cs) b xs a
  Linked-after_elsewhere cs b xs a None to n l = l
  Linked-after_elsewhere cs b xs a (Some q) to n l = Linked-set cs b xs a q (with_after to (get_or cs q None)) (n q refl) l

  pub Linked-before_elsewhere : (cs : List (Option (Node X))) (b : Option ℕ) (xs : List (Keyed X)) (a o to : Option ℕ)
      → ((q : ℕ) → o ≡ Some q → NotAt q xs) → Linked cs b xs a → Linked (places_before o to cs) b xs a
  Linked-before_elsewhere cs b xs a None to n l = l
  Linked-before_elsewhere cs b xs a (Some q) to n l = Linked-set cs b xs a q (with_before to (get_or cs q None)) (n q refl) l

  here : (cs : List (Option (Node X))) (p : ℕ) (n : Node X) (v : Option (Node X)) → get_or cs p None ≡ Some n →
      get_or (set cs p v) p None ≡ v
  here cs p n v e = get_or-set_same cs p v None (live_within cs p (ap is_some e))

  -- the after-link of the last
  pub Linked-after : (cs : List (Option (Node X))) (b : Option ℕ) (xs : List (Keyed X)) (a to : Option ℕ)
      → Apart xs → Linked cs b xs a → Linked (places_after (last_or None xs) to cs) b xs to
  Linked-after cs b [] a to ap_ l = tt
  Linked-after cs b (x ∷ []) a to ap_ l = (here cs x.key.place _ _ l.0 ∙ ap (with_after to) l.0, tt)
  Linked-after cs b (x ∷ y ∷ ys) a to ap_ l =
      let apart : last_or (Some y.key.place) ys ≢ Some x.key.place = NotAt-last x.key.place (Some y.key.place) ys ap_.0.1
      (λ e. let at : y.key.place ≡ x.key.place = cc in ap_.0.0 at) in (
        places_after-other cs (last_or (Some y.key.place) ys) to x.key.place apart ∙ l.0,
        Linked-after cs (Some x.key.place) (y ∷ ys) a to
            ap_.1 l.1,
      )

  -- the before-link of the first
  pub Linked-before : (cs : List (Option (Node X))) (b : Option ℕ) (xs : List (Keyed X)) (a to : Option ℕ)
      → Apart xs → Linked cs b xs a → Linked (places_before (first_or xs None) to cs) to xs a
  Linked-before cs b [] a to ap_ l = tt
  Linked-before cs b (x ∷ xs) a to ap_ l = (
    here cs x.key.place _ _ l.0 ∙ ap (with_before to) l.0,
    Linked-set cs (Some x.key.place) xs a x.key.place (with_before to (get_or cs x.key.place None)) ap_.0 l.1,
  )

  NotAt-first : (ys : List (Keyed X)) (q : ℕ) (xs : List (Keyed X)) → Apart (xs ++ ys) → first_or ys None ≡ Some q → NotAt q xs
  NotAt-first [] q xs a e = cc
  NotAt-first (y ∷ ys) q xs a e = let at : y.key.place ≡ q = cc in subst (λ i. NotAt i xs) at (Apart-before xs y ys a)

  pub Apart-without : (xs : List (Keyed X)) (x : Keyed X) (ys : List (Keyed X)) → Apart (xs ++ x ∷ ys) → Apart (xs ++ ys)
  Apart-without [] x ys a = a.1
  Apart-without (y ∷ xs) x ys a = let n = NotAt-cut y.key.place xs (x ∷ ys) a.0 in
      (NotAt-append y.key.place xs ys n.0 n.1.1, Apart-without xs x ys a.1)

  -- what an entry in the middle sees
  pub Linked-middle : (cs : List (Option (Node X))) (xs : List (Keyed X)) (x : Keyed X) (ys : List (Keyed X))
      → Linked cs None (xs ++ x ∷ ys) None → get_or cs x.key.place None ≡ Some (node x.value (last_or None xs) (first_or ys None))
  Linked-middle cs xs x ys l = (Linked-cut cs None xs (x ∷ ys) None l).1.0

  -- the neighbours of an entry are joined
  pub Linked-joined : (cs : List (Option (Node X))) (xs : List (Keyed X)) (x : Keyed X) (ys : List (Keyed X))
      → Apart (xs ++ x ∷ ys) → Linked cs None (xs ++ x ∷ ys) None
      → Linked (places_before (first_or ys None) (last_or None xs) (places_after (last_or None xs) (first_or ys None) cs)) None (xs ++ ys)
      None
  Linked-joined cs xs x ys a l =
      let before = last_or None xs in
      let next = first_or ys None in
      let c1 = places_after before next cs in
      let cut = Linked-cut cs None xs (x ∷ ys) None l in
      let parts = Apart-cut xs (x ∷ ys) a in
      let both = Apart-without xs x ys a in
      let left1 = Linked-after cs None xs (Some x.key.place) next parts.0 cut.0 in
      let right1 = Linked-after_elsewhere cs (Some x.key.place) ys None before next (λ q e. Apart-last None xs ys q both (λ i. cc) e)
      cut.1.1 in
      Linked-join (places_before next before c1) None xs ys None
      (Linked-before_elsewhere c1 None xs next next before (λ q e. NotAt-first ys q xs both e) left1)
      (Linked-before c1 (Some x.key.place) ys None before parts.1.1 right1)

  -- and its place is emptied
  pub Linked-unlink : (cs : List (Option (Node X))) (xs : List (Keyed X)) (x : Keyed X) (ys : List (Keyed X))
      → Apart (xs ++ x ∷ ys) → Linked cs None (xs ++ x ∷ ys) None
      → Linked (set (places_before (first_or ys None) (last_or None xs) (places_after (last_or None xs) (first_or ys None) cs))
      x.key.place None) None (xs ++ ys) None
  Linked-unlink cs xs x ys a l =
      Linked-set (places_before (first_or ys None) (last_or None xs) (places_after (last_or None xs) (first_or ys None) cs)) None
      (xs ++ ys) None x.key.place None
      (NotAt-append x.key.place xs ys (Apart-before xs x ys a) (Apart-cut xs (x ∷ ys) a).1.0) (Linked-joined cs xs x ys a l)

  -- ---- an entry is put after the last
  pub NotAt-free : (cs : List (Option (Node X))) (b : Option ℕ) (xs : List (Keyed X)) (a : Option ℕ) (p : ℕ) → Linked cs b xs a →
      get_or cs p None ≡ None → NotAt p xs
  NotAt-free cs b [] a p l e = tt
  NotAt-free cs b (x ∷ xs) a p l e = (
    λ at. let full = l.0 in let none = subst (λ q. get_or cs q None ≡ None) (sym at) e in cc,
    NotAt-free cs (Some x.key.place) xs a p l.1 e,
  )

  pub Apart-push : (xs : List (Keyed X)) (x : Keyed X) → Apart xs → NotAt x.key.place xs → Apart (xs ++ x ∷ [])
  Apart-push [] x a n = (tt, tt)
  Apart-push (y ∷ xs) x a n = (NotAt-append y.key.place xs (x ∷ []) a.0 (λ e. n.0 (sym e), tt), Apart-push xs x a.1 n.1)

  -- its place holds another node, with neither neighbour, before it is linked
  pub Linked-push : (cs : List (Option (Node X))) (xs : List (Keyed X)) (x : Keyed X) → Apart xs → Linked cs None xs None
      → x.key.place < length cs → NotAt x.key.place xs
      → Linked (places_before (Some x.key.place) (last_or None xs)
      (places_after (last_or None xs) (Some x.key.place) (set cs x.key.place (Some (node x.value None None))))) None (xs ++ x ∷ []) None
  Linked-push cs xs x a l lt away =
      let p = x.key.place in
      let last = last_or None xs in
      let c1 = set cs p (Some (node x.value None None)) in
      let c2 = places_after last (Some p) c1 in
      let made : get_or c1 p None ≡ Some (node x.value None None) = get_or-set_same cs p (Some (node x.value None None)) None lt in
      let apart : last ≢ Some p = NotAt-last p None xs away (λ e. cc) in
      let still : get_or c2 p None ≡ Some (node x.value None None) = places_after-other c1 last (Some p) p apart ∙ made in
      let left = Linked-after c1 None xs None (Some p) a (Linked-set cs None xs None p (Some (node x.value None None)) away l) in
      Linked-join (places_before (Some p) last c2) None xs (x ∷ []) None
      (Linked-set c2 None xs (Some p) p (with_before last (get_or c2 p None)) away left)
      (here c2 p _ _ still ∙ ap (with_before last) still, tt)

  -- ---- the ends after an entry is put after the last, or taken out
  pub last-some : (b : Option ℕ) (xs : List (Keyed X)) → is_some b ≡ true → is_some (last_or b xs) ≡ true
  last-some b [] e = e
  last-some b (x ∷ xs) e = last-some (Some x.key.place) xs refl

  pub first-push : (xs : List (Keyed X)) (x : Keyed X) → cond (is_some (last_or None xs)) (first_or xs None) (Some x.key.place) ≡ first_or
      (xs ++ x ∷ []) None
  first-push [] x = refl
  first-push (y ∷ xs) x = rw (last-some (Some y.key.place) xs refl)

  pub last-push : (xs : List (Keyed X)) (x : Keyed X) → Some x.key.place ≡ last_or None (xs ++ x ∷ [])
  last-push xs x = sym (last_or-append None xs (x ∷ []))

  pub first-unlink : (xs : List (Keyed X)) (x : Keyed X) (ys : List (Keyed X)) →
      cond (is_some (last_or None xs)) (first_or (xs ++ x ∷ ys) None) (first_or ys None) ≡ first_or (xs ++ ys) None
  first-unlink [] x ys = refl
  first-unlink (y ∷ xs) x ys = rw (last-some (Some y.key.place) xs refl)

  pub last-unlink : (xs : List (Keyed X)) (x : Keyed X) (ys : List (Keyed X)) →
      cond (is_some (first_or ys None)) (last_or None (xs ++ x ∷ ys)) (last_or None xs) ≡ last_or None (xs ++ ys)
  last-unlink xs x [] = ap (λ zs. last_or None zs) (sym (append-nil xs))
  last-unlink xs x (y ∷ ys) = last_or-append None xs (x ∷ y ∷ ys) ∙ sym (last_or-append None xs (y ∷ ys))

  -- ---- how many places there are, and how many hold a node
  pub length-places_after : (o to : Option ℕ) (cs : List (Option (Node X))) → length (places_after o to cs) ≡ length cs
  length-places_after None to cs = refl
  length-places_after (Some p) to cs = length-set cs p (with_after to (get_or cs p None))

  pub length-places_before : (o to : Option ℕ) (cs : List (Option (Node X))) → length (places_before o to cs) ≡ length cs
  length-places_before None to cs = refl
  length-places_before (Some p) to cs = length-set cs p (with_before to (get_or cs p None))

  live-after : (to : Option ℕ) (n : Option (Node X)) → is_some (with_after to n) ≡ is_some n
  live-after to None = refl
  live-after to (Some n) = refl

  live-before : (to : Option ℕ) (n : Option (Node X)) → is_some (with_before to n) ≡ is_some n
  live-before to None = refl
  live-before to (Some n) = refl

  pub same_count : (cs : List (Option (Node X))) (p : ℕ) (v : Option (Node X)) → is_some v ≡ is_some (get_or cs p None) →
      count_by is_some (set cs p v) ≡ count_by is_some cs
  same_count cs p v e = elim (cases_lt p (length cs)) [
    | inl lt ↦
        let s = sum_by-set (λ (x : Option (Node X)). cond (is_some x) 1 0) cs p v None lt in
        let h = ap (λ (b : Bool). count_of b) e in
        omega (arith, s, h)
    | inr le ↦ ap (λ ds. count_by is_some ds) (set_past cs p v le)
  ]

  pub count-places_after : (o to : Option ℕ) (cs : List (Option (Node X))) → count_by is_some (places_after o to cs) ≡ count_by is_some cs
  count-places_after None to cs = refl
  count-places_after (Some p) to cs = same_count cs p (with_after to (get_or cs p None)) (live-after to (get_or cs p None))

  pub count-places_before : (o to : Option ℕ) (cs : List (Option (Node X))) → count_by is_some (places_before o to cs) ≡ count_by is_some cs
  count-places_before None to cs = refl
  count-places_before (Some p) to cs = same_count cs p (with_before to (get_or cs p None)) (live-before to (get_or cs p None))

  -- ---- stamps
  pub stamp-not_at : (p : ℕ) (xs : List (Keyed X)) → NotAt p xs → stamp_at p xs ≡ None
  stamp-not_at p [] n = refl
  stamp-not_at p (x ∷ xs) n = let apart : nat_eq x.key.place p ≡ false = ne_eqb x.key.place p n.0 in rw apart (stamp-not_at p xs n.1)

  pub stamp-append : (p : ℕ) (xs ys : List (Keyed X)) → NotAt p xs → stamp_at p (xs ++ ys) ≡ stamp_at p ys
  stamp-append p [] ys n = refl
  stamp-append p (x ∷ xs) ys n = let apart : nat_eq x.key.place p ≡ false = ne_eqb x.key.place p n.0 in rw apart (stamp-append p xs ys n.1)

  pub stamp-here : (x : Keyed X) (xs : List (Keyed X)) → stamp_at x.key.place (x ∷ xs) ≡ Some x.key.stamp
  stamp-here x xs = let same : nat_eq x.key.place x.key.place ≡ true = eq-eqb x.key.place x.key.place refl in rw same

  -- an entry at another place changes no other stamp
  pub stamp-insert : (p : ℕ) (xs : List (Keyed X)) (x : Keyed X) (ys : List (Keyed X)) → x.key.place ≢ p →
      stamp_at p (xs ++ x ∷ ys) ≡ stamp_at p (xs ++ ys)
  stamp-insert p [] x ys n = let apart : nat_eq x.key.place p ≡ false = ne_eqb x.key.place p n in rw apart
  stamp-insert p (y ∷ xs) x ys n = ap (λ r. cond (nat_eq y.key.place p) (Some y.key.stamp) r) (stamp-insert p xs x ys n)

  -- ---- what a changed link leaves live
  same_live : (cs : List (Option (Node X))) (q p : ℕ) (v : Option (Node X)) → is_some v ≡ is_some (get_or cs q None) →
      is_some (get_or (set cs q v) p None) ≡ is_some (get_or cs p None)
  same_live [] q p v e = refl
  same_live (c ∷ cs) zero zero v e = e
  same_live (c ∷ cs) zero (suc p) v e = refl
  same_live (c ∷ cs) (suc q) zero v e = refl
  same_live (c ∷ cs) (suc q) (suc p) v e = same_live cs q p v e

  pub live-places_after : (o to : Option ℕ) (cs : List (Option (Node X))) (p : ℕ) →
      is_some (get_or (places_after o to cs) p None) ≡ is_some (get_or cs p None)
  live-places_after None to cs p = refl
  live-places_after (Some q) to cs p = same_live cs q p (with_after to (get_or cs q None)) (live-after to (get_or cs q None))

  pub live-places_before : (o to : Option ℕ) (cs : List (Option (Node X))) (p : ℕ) →
      is_some (get_or (places_before o to cs) p None) ≡ is_some (get_or cs p None)
  live-places_before None to cs p = refl
  live-places_before (Some q) to cs p = same_live cs q p (with_before to (get_or cs q None)) (live-before to (get_or cs q None))

  pub live-valued : (w : X) (n : Option (Node X)) → is_some (valued w n) ≡ is_some n
  live-valued w None = refl
  live-valued w (Some n) = refl

  -- ---- the ends of a list are live
  pub live-last : (cs : List (Option (Node X))) (b : Option ℕ) (xs : List (Keyed X)) (a : Option ℕ) →
      IfSome b (λ p. is_some (get_or cs p None) ≡ true) → Linked cs b xs a
      → IfSome (last_or b xs) (λ p. is_some (get_or cs p None) ≡ true)
  live-last cs b [] a h l = h
  live-last cs b (x ∷ xs) a h l = live-last cs (Some x.key.place) xs a (ap is_some l.0) l.1

  live-set : (cs : List (Option (Node X))) (p q : ℕ) (n : Node X) → is_some (get_or cs q None) ≡ true →
      is_some (get_or (set cs p (Some n)) q None) ≡ true
  live-set [] p q n e = e
  live-set (c ∷ cs) zero zero n e = refl
  live-set (c ∷ cs) zero (suc q) n e = e
  live-set (c ∷ cs) (suc p) zero n e = e
  live-set (c ∷ cs) (suc p) (suc q) n e = live-set cs p q n e

  live-set_option : (cs : List (Option (Node X))) (p : ℕ) (n : Node X) (o : Option ℕ) → IfSome o (λ q. is_some (get_or cs q None) ≡ true)
      → IfSome o (λ q. is_some (get_or (set cs p (Some n)) q None) ≡ true)
  live-set_option cs p n None h = h
  live-set_option cs p n (Some q) h = live-set cs p q n h

  pub live-last_set : (cs : List (Option (Node X))) (b : Option ℕ) (xs : List (Keyed X)) (a : Option ℕ) (p : ℕ) (n : Node X) → p < length cs
      → IfSome b (λ q. is_some (get_or cs q None) ≡ true) → Linked cs b xs a →
      IfSome (last_or b xs) (λ q. is_some (get_or (set cs p (Some n)) q None) ≡ true)
  live-last_set cs b xs a p n lt h l = live-set_option cs p n (last_or b xs) (live-last cs b xs a h l)

  pub live-first : (cs : List (Option (Node X))) (o to b : Option ℕ) (xs : List (Keyed X)) → Linked cs b xs None
      → IfSome (first_or xs None) (λ p. is_some (get_or (places_after o to cs) p None) ≡ true)
  live-first cs o to b [] l = tt
  live-first cs o to b (x ∷ xs) l = live-places_after o to cs x.key.place ∙ ap is_some l.0

  pub first-apart : (p : ℕ) (xs : List (Keyed X)) → NotAt p xs → first_or xs None ≢ Some p
  first-apart p [] n = λ e. cc
  first-apart p (x ∷ xs) n = λ e. let at : x.key.place ≡ p = cc in n.0 at

  -- ---- an entry is replaced by one of its key
  pub first-swap : (xs : List (Keyed X)) (x y : Keyed X) (ys : List (Keyed X)) → x.key ≡ y.key →
      first_or (xs ++ x ∷ ys) None ≡ first_or (xs ++ y ∷ ys) None
  first-swap [] x y ys e = ap (λ (k : ChainKey). Some k.place) e
  first-swap (z ∷ xs) x y ys e = refl

  pub last-swap : (b : Option ℕ) (xs : List (Keyed X)) (x y : Keyed X) (ys : List (Keyed X)) → x.key ≡ y.key →
      last_or b (xs ++ x ∷ ys) ≡ last_or b (xs ++ y ∷ ys)
  last-swap b [] x y ys e = ap (λ (k : ChainKey). last_or (Some k.place) ys) e
  last-swap b (z ∷ xs) x y ys e = last-swap (Some z.key.place) xs x y ys e

  NotAt-swap : (p : ℕ) (xs : List (Keyed X)) (x y : Keyed X) (ys : List (Keyed X)) → x.key ≡ y.key → NotAt p (xs ++ x ∷ ys) →
      NotAt p (xs ++ y ∷ ys)
  NotAt-swap p [] x y ys e n = ((λ q. n.0 (ap (λ (k : ChainKey). k.place) e ∙ q)), n.1)
  NotAt-swap p (z ∷ xs) x y ys e n = (n.0, NotAt-swap p xs x y ys e n.1)

  pub Apart-swap : (xs : List (Keyed X)) (x y : Keyed X) (ys : List (Keyed X)) → x.key ≡ y.key → Apart (xs ++ x ∷ ys) → Apart (xs ++ y ∷ ys)
  Apart-swap [] x y ys e a = (subst (λ (k : ChainKey). NotAt k.place ys) e a.0, a.1)
  Apart-swap (z ∷ xs) x y ys e a = (NotAt-swap z.key.place xs x y ys e a.0, Apart-swap xs x y ys e a.1)

  pub stamp-swap : (p : ℕ) (xs : List (Keyed X)) (x y : Keyed X) (ys : List (Keyed X)) → x.key ≡ y.key →
      stamp_at p (xs ++ x ∷ ys) ≡ stamp_at p (xs ++ y ∷ ys)
  stamp-swap p [] x y ys e = ap (λ (k : ChainKey). cond (nat_eq k.place p) (Some k.stamp) (stamp_at p ys)) e
  stamp-swap p (z ∷ xs) x y ys e = ap (λ r. cond (nat_eq z.key.place p) (Some z.key.stamp) r) (stamp-swap p xs x y ys e)

  pub length-swap : (xs : List (Keyed X)) (x y : Keyed X) (ys : List (Keyed X)) → length (xs ++ x ∷ ys) ≡ length (xs ++ y ∷ ys)
  length-swap [] x y ys = refl
  length-swap (z ∷ xs) x y ys = ap (λ n. suc n) (length-swap xs x y ys)
