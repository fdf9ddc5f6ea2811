-- What a chain's calls keep of its fields, and the list that they leave.
use Rattle.std.proofs.Common.{◌≡◌, ℕ, zero, suc, ◌+◌, ◌-◌, ◌<◌, ◌≤◌, Bool, true, false, cond, nat_eq, replicate, List, [], ◌∷◌, ◌++◌}
use Rattle.std.proofs.Common.{length, get_or, set, Option, Some, None, refl, sym, ap, subst, ◌∙◌, inl, inr, arith}
use Rattle.std.proofs.lemmas.Bool.Decides.{eqb_tells}
use Rattle.std.proofs.lemmas.List.{length-set, length-append, get_or-set_same, get_or-set_other, get_or_past, append-nil, length-replicate}
use Rattle.std.proofs.lemmas.List.Sums.{count_by-le-length}
use Rattle.std.specs.Option.{is_some, option_eq, IfSome}
use Rattle.chain_list.specs.declared.chain.ChainKey.{ChainKey}
use Rattle.chain_list.specs.NodeMap.{Node}
use Rattle.chain_list.specs.NodeMap.{NodeMap, node, with_node, with_value, valued, grown, no_nodes}
use Rattle.chain_list.specs.Chain.{Keyed, keyed, value_at, without, changed, first_key, key_after, first_or, last_or, Linked, stamp_at}
use Rattle.chain_list.specs.ChainFields.{stamp_or, IsChain, entries_of}
use Rattle.chain_list.specs.Chain.{NotAt, Apart}
use Rattle.chain_list.specs.Relinked.{places_after, places_before, relinked_after, relinked_before}
use Rattle.chain_list.proofs.NodeLemmas.{count-fill, count-empty, count-empties, live_within}
use Rattle.chain_list.proofs.ChainLemmas
use Rattle.chain_list.proofs.KeyLemmas
use Rattle.chain_list.proofs.PlaceLemmas.{get_or-empties}

-- nothing, as an option of a type
abbrev nothing_in : (Y : Type 0) → Option Y
nothing_in Y = None

get_or-any : {Y : Type 0} (l : List Y) (i : ℕ) (d e : Y) → i < length l → get_or l i d ≡ get_or l i e
get_or-any [] i d e lt = absurd (omega arith)
get_or-any (y ∷ l) zero d e lt = refl
get_or-any (y ∷ l) (suc i) d e lt = get_or-any l i d e (omega arith)

option_eq-stamp : (o : Option ℕ) (s : ℕ) → option_eq nat_eq o (Some s) ≡ KeyLemmas.is_stamp o s
option_eq-stamp None s = refl
option_eq-stamp (Some t) s = refl

module _ {X : Type 0} where
  -- the list is what the fields give
  pub entries-chain : (m : NodeMap X) (ss : List (Option ℕ)) (first last : Option ℕ) (xs : List (Keyed X)) → IsChain m ss first last xs →
      entries_of m ss first ≡ xs
  entries-chain m ss first last xs c =
      let short : length xs ≤ length m.places = omega (arith, c.count, count_by-le-length is_some m.places) in
      ap (λ at. entries_of m ss at) c.first_is
      ∙ KeyLemmas.entries-linked (length m.places) m.places ss None xs c.linked
      (KeyLemmas.Stamped-of ss xs c.apart (λ p s e. c.stamped p ∙ e)) short

  pub settled : (m : NodeMap X) (ss : List (Option ℕ)) (first last : Option ℕ) (xs : List (Keyed X)) → IsChain m ss first last xs →
      IsChain m ss first last (entries_of m ss first)
  settled m ss first last xs c = subst (λ ys. IsChain m ss first last ys) (sym (entries-chain m ss first last xs c)) c

  -- an entry is put after the last
  pub IsChain-push : (m : NodeMap X) (ss : List (Option ℕ)) (first last : Option ℕ) (xs : List (Keyed X)) (p stamp spare : ℕ) (v : X)
      → IsChain m ss first last xs → p < length m.places → get_or m.places p None ≡ None
      → IsChain (relinked_before (Some p) last (relinked_after last (Some p) (with_node p (Some (node v None None)) spare m)))
      (set ss p (Some stamp)) (cond (is_some last) first (Some p)) (Some p)
      (xs ++ keyed (record { place = p; stamp = stamp }) v ∷ [])
  IsChain-push m ss first last xs p stamp spare v c lt none =
      let x : Keyed X = keyed (record { place = p; stamp = stamp }) v in
      let away = ChainLemmas.NotAt-free m.places None xs None p c.linked none in
      let c1 = set m.places p (Some (node v None None)) in
      let c2 = places_after last (Some p) c1 in
      record {
        linked = subst (λ l. Linked (places_before (Some p) l (places_after l (Some p) c1)) None (xs ++ x ∷ []) None) (sym c.last_is)
            (ChainLemmas.Linked-push m.places xs x c.apart c.linked lt away);
        first_is = ap (λ l. cond (is_some l) first (Some p)) c.last_is ∙ ap (λ f. cond (is_some (last_or None xs)) f (Some p)) c.first_is
            ∙ ChainLemmas.first-push xs x;
        last_is = ChainLemmas.last-push xs x;
        apart = ChainLemmas.Apart-push xs x c.apart away;
        stamped = λ q. elim (eqb_tells q p) [
          | inl t ↦ ap (λ i. get_or (set ss p (Some stamp)) i None) t.1 ∙ get_or-set_same ss p (Some stamp) None (omega (arith, c.long))
              ∙ sym (ap (λ i. stamp_at i (xs ++ x ∷ [])) t.1 ∙ ChainLemmas.stamp-append p xs (x ∷ []) away ∙ ChainLemmas.stamp-here x [])
          | inr f ↦ get_or-set_other ss p q (Some stamp) None f.1 ∙ c.stamped q
              ∙ ap (λ ys. stamp_at q ys) (sym (append-nil xs)) ∙ sym (ChainLemmas.stamp-insert q xs x [] (λ e. f.1 (sym e)))
        ];
        long = omega (
          arith,
          length-set ss p (Some stamp),
          c.long,
          ChainLemmas.length-places_before (Some p) last c2,
          ChainLemmas.length-places_after last (Some p) c1,
          length-set m.places p (Some (node v None None)),
        );
        count = omega (
          arith,
          ChainLemmas.count-places_before (Some p) last c2,
          ChainLemmas.count-places_after last (Some p) c1,
          count-fill m.places p (node v None None) lt none,
          c.count,
          length-append xs (x ∷ []),
        );
      }

  -- an entry is taken out
  pub IsChain-unlink : (m : NodeMap X) (ss : List (Option ℕ)) (first last : Option ℕ) (before behind : List (Keyed X)) (x : Keyed X)
      (spare : ℕ)
      → IsChain m ss first last (before ++ x ∷ behind)
      → IsChain (with_node x.key.place None spare (relinked_before (first_or behind None) (last_or None before)
      (relinked_after (last_or None before) (first_or behind None) m))) (set ss x.key.place None)
      (cond (is_some (last_or None before)) first (first_or behind None))
      (cond (is_some (first_or behind None)) last (last_or None before)) (before ++ behind)
  IsChain-unlink m ss first last before behind x spare c =
      let p = x.key.place in
      let b = last_or None before in
      let a = first_or behind None in
      let c1 = places_after b a m.places in
      let c2 = places_before a b c1 in
      let parts = ChainLemmas.Apart-cut before (x ∷ behind) c.apart in
      let away : NotAt p (before ++ behind) = ChainLemmas.NotAt-append p before behind (ChainLemmas.Apart-before before x behind c.apart)
      parts.1.0 in
      let live : is_some (get_or m.places p None) ≡ true = ap is_some (ChainLemmas.Linked-middle m.places before x behind c.linked) in
      let within = live_within m.places p live in
      let still : is_some (get_or c2 p None) ≡ true = ChainLemmas.live-places_before a b c1 p
      ∙ ChainLemmas.live-places_after b a m.places p ∙ live in
      let long2 : length c2 ≡ length m.places = ChainLemmas.length-places_before a b c1 ∙ ChainLemmas.length-places_after b a m.places in
      record {
        linked = ChainLemmas.Linked-unlink m.places before x behind c.apart c.linked;
        first_is = ap (λ f. cond (is_some b) f a) c.first_is ∙ ChainLemmas.first-unlink before x behind;
        last_is = ap (λ l. cond (is_some a) l b) c.last_is ∙ ChainLemmas.last-unlink before x behind;
        apart = ChainLemmas.Apart-without before x behind c.apart;
        stamped = λ q. elim (eqb_tells q p) [
          | inl t ↦ ap (λ i. get_or (set ss p None) i None) t.1 ∙ get_or-set_same ss p None None (omega (arith, c.long))
              ∙ sym (ap (λ i. stamp_at i (before ++ behind)) t.1 ∙ ChainLemmas.stamp-not_at p (before ++ behind) away)
          | inr f ↦ get_or-set_other ss p q None None f.1 ∙ c.stamped q ∙ ChainLemmas.stamp-insert q before x behind (λ e. f.1 (sym e))
        ];
        long = omega (arith, length-set ss p (no_stamp), c.long, long2, length-set c2 p None);
        count = omega (
          arith,
          count-empty c2 p (omega (arith, within, long2)) still,
          ChainLemmas.count-places_before a b c1,
          ChainLemmas.count-places_after b a m.places,
          c.count,
          length-append before (x ∷ behind),
          length-append before behind,
        );
      }
    where
      no_stamp : Option ℕ
      no_stamp = None

  -- ---- what a chain knows of a key
  module _ (m : NodeMap X) (ss : List (Option ℕ)) (first last : Option ℕ) (xs : List (Keyed X)) (c : IsChain m ss first last xs)
      (key : ChainKey) where
    -- the stamp at its place tells whether it is live
    pub live-here : (r : Bool) (o : Option ℕ) → key.place < length ss → r ≡ option_eq nat_eq o (Some key.stamp) →
        o ≡ get_or ss key.place o → r ≡ is_some (value_at key xs)
    live-here r o lt e at =
        e ∙ option_eq-stamp o key.stamp ∙ ap (λ i. KeyLemmas.is_stamp i key.stamp) (at ∙ get_or-any ss key.place o None lt
        ∙ c.stamped key.place) ∙ KeyLemmas.stamp-tells key xs c.apart

    pub live-past : length ss ≤ key.place → false ≡ is_some (value_at key xs)
    live-past le = ap (λ i. KeyLemmas.is_stamp i key.stamp) (sym (get_or_past ss key.place None le) ∙ c.stamped key.place)
        ∙ KeyLemmas.stamp-tells key xs c.apart

    -- a live key's node
    pub record IsSeen : Type 0 where
      pub before : List (Keyed X)
      pub behind : List (Keyed X)
      pub value : X
      pub is : xs ≡ before ++ keyed key value ∷ behind
      pub node_is : get_or m.places key.place None ≡ Some (node value (last_or None before) (first_or behind None))
      pub value_is : value_at key xs ≡ Some value
      pub away : NotAt key.place before
      pub away_behind : NotAt key.place behind

    pub seen : is_some (value_at key xs) ≡ true → IsSeen
    seen live =
        let s = KeyLemmas.split-live key xs live in
        let at : s.entry ≡ keyed key s.entry.value = λ i. keyed (s.key_is i) s.entry.value in
        let is : xs ≡ s.before ++ keyed key s.entry.value ∷ s.behind = s.is ∙ ap (λ e. s.before ++ e ∷ s.behind) at in
        let linked : Linked m.places None (s.before ++ keyed key s.entry.value ∷ s.behind) None =
        subst (λ ys. Linked m.places None ys None) is c.linked in
        let apart : Apart (s.before ++ keyed key s.entry.value ∷ s.behind) = subst (λ ys. Apart ys) is c.apart in
        let away = ChainLemmas.Apart-before s.before (keyed key s.entry.value) s.behind apart in
        record {
          before = s.before;
          behind = s.behind;
          value = s.entry.value;
          is = is;
          node_is = ChainLemmas.Linked-middle m.places s.before (keyed key s.entry.value) s.behind linked;
          value_is = ap (λ ys. value_at key ys) is ∙ KeyLemmas.value-append key s.before (keyed key s.entry.value ∷ s.behind) away
              ∙ KeyLemmas.value-here (keyed key s.entry.value) s.behind;
          away = away;
          away_behind = (ChainLemmas.Apart-cut s.before (keyed key s.entry.value ∷ s.behind) apart).1.0;
        }

    -- the key after it
    pub after-seen : (s : IsSeen) → key_after key xs ≡ first_key s.behind
    after-seen s = ap (λ ys. key_after key ys) s.is ∙ KeyLemmas.after-append key s.before (keyed key s.value ∷ s.behind) s.away
        ∙ KeyLemmas.after-here (keyed key s.value) s.behind

    pub without-seen : (s : IsSeen) → without key xs ≡ s.before ++ s.behind
    without-seen s =
        ap (λ ys. without key ys) s.is ∙ KeyLemmas.without-append key s.before (keyed key s.value ∷ s.behind) s.away
        ∙ ap (λ r. s.before ++ r) (KeyLemmas.without-here (keyed key s.value) s.behind s.away_behind)

    pub changed-seen : (s : IsSeen) (w : X) → changed key w xs ≡ s.before ++ keyed key w ∷ s.behind
    changed-seen s w =
        ap (λ ys. changed key w ys) s.is ∙ KeyLemmas.changed-append key w s.before (keyed key s.value ∷ s.behind) s.away
        ∙ ap (λ r. s.before ++ r) (KeyLemmas.changed-here (keyed key s.value) w s.behind s.away_behind)

    -- the key after it, by the after-link
    pub next-key : (s : IsSeen) (place : ℕ) → first_or s.behind None ≡ Some place
        → (is_some (get_or ss place None) ≡ true) × (key_after key xs ≡ Some
        (record { place = place; stamp = stamp_or (get_or ss place None) }))
    next-key s place e =
        let stamped = KeyLemmas.Stamped-of ss xs c.apart (λ p t q. c.stamped p ∙ q) in
        let rest = KeyLemmas.Stamped-cut ss s.before (keyed key s.value ∷ s.behind) (subst (λ ys. KeyLemmas.Stamped ss ys) s.is stamped) in
        let found = KeyLemmas.first-stamped ss s.behind place rest.1 e in
        (found.0, after-seen s ∙ found.1)

    pub no_next-key : (s : IsSeen) → first_or s.behind None ≡ None → key_after key xs ≡ None
    no_next-key s e = after-seen s ∙ KeyLemmas.first-none s.behind e

    -- its neighbours are live, and apart from it
    pub live-before : (s : IsSeen) → IfSome (last_or None s.before) (λ p. is_some (get_or m.places p None) ≡ true)
    live-before s = ChainLemmas.live-last m.places None s.before _ tt
        (ChainLemmas.Linked-cut m.places None s.before (keyed key s.value ∷ s.behind) None
        (subst (λ ys. Linked m.places None ys None) s.is c.linked)).0

    pub live-behind : (s : IsSeen) (b : Option ℕ) → IfSome (first_or s.behind None)
        (λ p. is_some (get_or (places_after b (first_or s.behind None) m.places) p None) ≡ true)
    live-behind s b =
        ChainLemmas.live-first m.places b (first_or s.behind None) (Some key.place) s.behind
        (ChainLemmas.Linked-cut m.places None s.before (keyed key s.value ∷ s.behind) None
        (subst (λ ys. Linked m.places None ys None) s.is c.linked)).1.1

    pub node-kept : (s : IsSeen)
        → get_or (places_before (first_or s.behind None) (last_or None s.before)
        (places_after (last_or None s.before) (first_or s.behind None) m.places)) key.place None ≡ Some
        (node s.value (last_or None s.before) (first_or s.behind None))
    node-kept s =
        let b = last_or None s.before in
        let a = first_or s.behind None in
        ChainLemmas.places_before-other (places_after b a m.places) a b key.place (ChainLemmas.first-apart key.place s.behind s.away_behind)
        ∙ ChainLemmas.places_after-other m.places b a key.place (ChainLemmas.NotAt-last key.place None s.before s.away (λ e. cc))
        ∙ s.node_is

    -- the chain without it
    pub unlinked : (s : IsSeen) (lk : Option ℕ × Option ℕ) (m1 m2 m3 : NodeMap X) (ss' : List (Option ℕ)) (first' last' : Option ℕ)
        → lk ≡ (last_or None s.before, first_or s.behind None) → m1 ≡ relinked_after lk.0 lk.1 m → first' ≡ cond (is_some lk.0) first lk.1
        → m2 ≡ relinked_before lk.1 lk.0 m1 → last' ≡ cond (is_some lk.1) last lk.0 → m3 ≡ with_node key.place None (m2.spare + 1) m2 →
        ss' ≡ set ss key.place None
        → IsChain m3 ss' first' last' (s.before ++ s.behind) × (m3.spare ≡ m.spare + 1)
    unlinked s lk m1 m2 m3 ss' first' last' l e1 ef e2 el e3 es =
        let b = last_or None s.before in
        let a = first_or s.behind None in
        let f1 : m1 ≡ relinked_after b a m = e1 ∙ ap (λ (k : Option ℕ × Option ℕ). relinked_after k.0 k.1 m) l in
        let f2 : m2 ≡ relinked_before a b (relinked_after b a m) = e2 ∙ (λ i. relinked_before (l i).1 (l i).0 (f1 i)) in
        let f3 : m3 ≡ with_node key.place None (m.spare + 1) (relinked_before a b (relinked_after b a m)) = e3
        ∙ ap (λ (k : NodeMap X). with_node key.place None (k.spare + 1) k) f2 in
        let ff : first' ≡ cond (is_some b) first a = ef ∙ ap (λ (k : Option ℕ × Option ℕ). cond (is_some k.0) first k.1) l in
        let fl : last' ≡ cond (is_some a) last b = el ∙ ap (λ (k : Option ℕ × Option ℕ). cond (is_some k.1) last k.0) l in (
          subst (λ (q : NodeMap X × List (Option ℕ) × Option ℕ × Option ℕ). IsChain q.0 q.1 q.2 q.3 (s.before ++ s.behind))
              (λ i. (sym f3 i, sym es i, sym ff i, sym fl i))
              (IsChain-unlink m ss first last s.before s.behind (keyed key s.value) (m.spare + 1)
              (subst (λ ys. IsChain m ss first last ys) s.is c)),
          ap (λ (k : NodeMap X). k.spare) f3,
        )

    -- the chain with another value at it
    pub valued-seen : (s : IsSeen) (w : X) → IsChain (with_value key.place w m) ss first last (s.before ++ keyed key w ∷ s.behind)
    valued-seen s w =
        let x = keyed key s.value in
        let y = keyed key w in
        let old : IsChain m ss first last (s.before ++ x ∷ s.behind) = subst (λ ys. IsChain m ss first last ys) s.is c in
        let cut = ChainLemmas.Linked-cut m.places None s.before (x ∷ s.behind) None old.linked in
        let v = valued w (get_or m.places key.place None) in
        let ds = set m.places key.place v in
        let within = live_within m.places key.place (ap is_some s.node_is) in
        let here : get_or ds key.place None ≡ Some (node w (last_or None s.before) (first_or s.behind None)) =
        get_or-set_same m.places key.place v None within ∙ ap (valued w) s.node_is in
        record {
          linked = ChainLemmas.Linked-join ds None s.before (y ∷ s.behind) None
              (ChainLemmas.Linked-set m.places None s.before (Some key.place) key.place v s.away cut.0)
              (here, ChainLemmas.Linked-set m.places (Some key.place) s.behind None key.place v s.away_behind cut.1.1);
          first_is = old.first_is ∙ ChainLemmas.first-swap s.before x y s.behind refl;
          last_is = old.last_is ∙ ChainLemmas.last-swap None s.before x y s.behind refl;
          apart = ChainLemmas.Apart-swap s.before x y s.behind refl old.apart;
          stamped = λ p. old.stamped p ∙ ChainLemmas.stamp-swap p s.before x y s.behind refl;
          long = omega (arith, old.long, length-set m.places key.place v);
          count = ChainLemmas.same_count m.places key.place v (ChainLemmas.live-valued w (get_or m.places key.place None)) ∙ old.count
              ∙ ChainLemmas.length-swap s.before x y s.behind;
        }

  -- the chain with one more entry
  pub pushed : (m : NodeMap X) (ss : List (Option ℕ)) (first last : Option ℕ) (xs : List (Keyed X)) (p stamp : ℕ) (v : X)
      (m0 m1 m2 : NodeMap X) (ss' : List (Option ℕ)) (first' : Option ℕ)
      → IsChain m ss first last xs → p < length m.places → get_or m.places p None ≡ None
      → m0 ≡ with_node p (Some (node v None None)) (m.spare - 1) m → m1 ≡ relinked_after last (Some p) m0 →
      first' ≡ cond (is_some last) first (Some p) → m2 ≡ relinked_before (Some p) last m1
      → ss' ≡ set ss p (Some stamp) → IsChain m2 ss' first' (Some p) (xs ++ keyed (record { place = p; stamp = stamp }) v ∷ []) ×
      (m2.spare ≡ m.spare - 1)
  pushed m ss first last xs p stamp v m0 m1 m2 ss' first' c lt none e0 e1 ef e2 es =
      let f2 : m2 ≡ relinked_before (Some p) last (relinked_after last (Some p) (with_node p (Some (node v None None)) (m.spare - 1) m)) =
      e2 ∙ ap (λ k. relinked_before (Some p) last k) (e1 ∙ ap (λ k. relinked_after last (Some p) k) e0) in (
        subst (λ (q : NodeMap X × List (Option ℕ) × Option ℕ). IsChain q.0 q.1 q.2 (Some p)
            (xs ++ keyed (record { place = p; stamp = stamp }) v ∷ [])) (λ i. (sym f2 i, sym es i, sym ef i))
            (IsChain-push m ss first last xs p stamp (m.spare - 1) v c lt none),
        ap (λ (k : NodeMap X). k.spare) f2,
      )

  -- the last is live, also where a further node was made
  pub live-made : (m : NodeMap X) (ss : List (Option ℕ)) (first last : Option ℕ) (xs : List (Keyed X)) (p : ℕ) (n : Node X) →
      IsChain m ss first last xs → p < length m.places
      → IfSome last (λ q. is_some (get_or (set m.places p (Some n)) q None) ≡ true)
  live-made m ss first last xs p n c lt =
      subst (λ l. IfSome l (λ q. is_some (get_or (set m.places p (Some n)) q None) ≡ true)) (sym c.last_is)
      (ChainLemmas.live-last_set m.places None xs None p n lt tt c.linked)

  Linked-empties : (cs : List (Option (Node X))) (k : ℕ) (b : Option ℕ) (xs : List (Keyed X)) (a : Option ℕ) → Linked cs b xs a →
      Linked (cs ++ replicate k None) b xs a
  Linked-empties cs k b [] a l = tt
  Linked-empties cs k b (x ∷ xs) a l = (get_or-empties (Node X) cs k x.key.place ∙ l.0, Linked-empties cs k (Some x.key.place) xs a l.1)

  pub IsChain-grow : (m : NodeMap X) (ss : List (Option ℕ)) (first last : Option ℕ) (xs : List (Keyed X)) (k : ℕ) →
      IsChain m ss first last xs → IsChain (grown k m) (ss ++ replicate k None) first last xs
  IsChain-grow m ss first last xs k c = record {
    linked = Linked-empties m.places k None xs None c.linked;
    first_is = c.first_is;
    last_is = c.last_is;
    apart = c.apart;
    stamped = λ p. get_or-empties ℕ ss k p ∙ c.stamped p;
    long = omega (
      arith,
      c.long,
      length-append m.places (replicate k None),
      length-append ss (replicate k None),
      length-replicate k (nothing_in (Node X)),
      length-replicate k (nothing_in ℕ),
    );
    count = count-empties m.places k ∙ c.count;
  }

  pub IsChain-none : IsChain (no_nodes {X = X}) [] None None []
  IsChain-none = record { linked = tt; first_is = refl; last_is = refl; apart = tt; stamped = λ p. refl; long = refl; count = refl }

  -- the same, by what the calls say
  pub grown-chain : (m m' : NodeMap X) (ss ss' : List (Option ℕ)) (first last : Option ℕ) (xs : List (Keyed X)) (k j : ℕ) →
      IsChain m ss first last xs
      → m' ≡ grown k m → ss' ≡ ss ++ replicate j None → (length m'.places ≡ length m.places + k → j ≡ k) → IsChain m' ss' first last xs
  grown-chain m m' ss ss' first last xs k j c e f more =
      let long : length m'.places ≡ length m.places + k = ap (λ (n : NodeMap X). length n.places) e
      ∙ length-append m.places (replicate k None) ∙ ap (λ n. length m.places + n) (length-replicate k None) in
      subst (λ (q : NodeMap X × List (Option ℕ)). IsChain q.0 q.1 first last xs)
      (λ i. (sym e i, sym (f ∙ ap (λ n. ss ++ replicate n None) (more long)) i)) (IsChain-grow m ss first last xs k c)
