-- The opening, the cutting and joining of views, and the end.
use Rattle.std.proofs.Common.{◌≡◌, ◌≢◌, ℕ, zero, suc, ◌<◌, List, [], ◌∷◌, ◌++◌, map, replicate, length, get_or, set, sym, refl, ap, ◌∙◌}
use Rattle.std.proofs.Common.{subst, ⊎_elim, ◌⊎◌, inl, inr, arith, length-append}
use Rattle.std.proofs.lemmas.List.{length-map, length-replicate}
use mathlib.Core.Option.{some, some-injective, some-ne-none}
use mathlib.Core.List.{IsPrefix}
use native.Mathlib.Decide.{ℕ_discrete}
use lib.ListN.{get_elem?}
use Rattle.std.specs.Prelude.{Option, Some, None, All}
use Rattle.std.proofs.lemmas.List.Elements.{All-head, All-tail}
use Rattle.atomic_table.specs.Table.{State, Splits, Joins, opening, Final, Seen}
use Rattle.atomic_table.proofs.Lists.{at_set, at_snoc, at_map, at_longer}
use Rattle.std.proofs.lemmas.List.Sums.{sum_by-append}
use Rattle.turn_table.specs.declared.views.EndedTurn.{EndedTurn}
use Rattle.turn_table.specs.declared.views.SlotView.{SlotView}
use Rattle.turn_table.specs.declared.views.HandView.{HandView}
use Rattle.turn_table.specs.Views.{times, once_below, places_in, places, unseen, all_unseen, first_view, after_split, new_view, spent_view}
use Rattle.turn_table.specs.Views.{joined_slots, after_join, open_turn}
use Rattle.turn_table.specs.Rules.{Where, home, out, value_of, Shows, SeatOk, KeepsTurns, Ends}
use Rattle.turn_table.proofs.Sums.{sum_set, sum_two, sum_alone, times_append, below_zero}
use Rattle.turn_table.proofs.Cells.{stays}
use Rattle.turn_table.proofs.Steps.{none_held}

at_append : {A : Type 0} (xs ys : List A) (i : ℕ) (b : A) → get_elem? (xs ++ ys) i ≡ some b →
    (get_elem? xs i ≡ some b) ⊎ ((j : ℕ) × (get_elem? ys j ≡ some b))
at_append [] ys i b e = inr (i, e)
at_append (x ∷ xs) ys zero b e = inl e
at_append (x ∷ xs) ys (suc i) b e = at_append xs ys i b e

pub snoc_at : {A : Type 0} (l : List A) (a b : A) (j : ℕ) → get_elem? (l ++ a ∷ []) j ≡ some b →
    (get_elem? l j ≡ some b) ⊎ ((j ≡ length l) × (a ≡ b))
snoc_at [] a b zero e = inr (refl, some-injective a b e)
snoc_at [] a b (suc j) e = absurd (some-ne-none b (sym e))
snoc_at (x ∷ xs) a b zero e = inl e
snoc_at (x ∷ xs) a b (suc j) e = ⊎_elim (λ (t : get_elem? xs j ≡ some b). inl t)
    (λ (t : (j ≡ length xs) × (a ≡ b)). inr (ap suc t.0, t.1)) (snoc_at xs a b j e)

pub begins_with : {A : Type 0} (l : List A) → 0 < length l → (d : A) × (rest : List A) × (l ≡ d ∷ rest)
begins_with [] h = absurd (omega arith)
begins_with (x ∷ l) h = (x, l, refl)

here_or : {A : Type 0} (l : List A) (k : ℕ) (d : A) → k < length l → get_elem? l k ≡ some (get_or l k d)
here_or [] k d h = absurd (omega arith)
here_or (x ∷ l) zero d h = refl
here_or (x ∷ l) (suc k) d h = here_or l k d (omega arith)

-- what holds of all holds of each
pub all_at : {A : Type 0} (P : A → Type 0) (l : List A) → All P l → (k : ℕ) (x : A) → get_elem? l k ≡ some x → P x
all_at P [] h k x e = absurd (some-ne-none x (sym e))
all_at P (y ∷ l) h zero x e = subst P (some-injective y x e) (All-head P y l h)
all_at P (y ∷ l) h (suc k) x e = all_at P l (All-tail P y l h) k x e

pub zeros : (n k : ℕ) → let z : ℕ = 0 in get_or (replicate n z) k z ≡ z
zeros zero k = refl
zeros (suc n) zero = refl
zeros (suc n) (suc k) = zeros n k

module _ {T : Type 0} where
  unseen_at : (l : List T) (k : ℕ) (p : SlotView T) → get_elem? (all_unseen l) k ≡ some p → p.seen ≡ []
  unseen_at [] k p e = absurd (some-ne-none p (sym e))
  unseen_at (x ∷ l) zero p e = ap (λ (q : SlotView T). q.seen) (sym (some-injective unseen p e))
  unseen_at (x ∷ l) (suc k) p e = unseen_at l k p e

  pub unseen_places : (l : List T) (k : ℕ) → places_in (all_unseen l) k ≡ []
  unseen_places [] k = refl
  unseen_places (x ∷ l) zero = refl
  unseen_places (x ∷ l) (suc k) = unseen_places l k

  pub unseen_length : (l : List T) → length (all_unseen l) ≡ length l
  unseen_length [] = refl
  unseen_length (x ∷ l) = ap suc (unseen_length l)

  nothing_seen : (l : List T) (k : ℕ) (p : SlotView T) (i : ℕ) (b : EndedTurn T) → get_elem? (all_unseen l) k ≡ some p →
      get_elem? p.seen i ≡ some b → ⊥
  nothing_seen l k p i b e q = some-ne-none b (sym (ap (λ m. get_elem? m i) (sym (unseen_at l k p e)) ∙ q))

  pub merged_places : (xs ys : List (SlotView T)) (k : ℕ) → length xs ≡ length ys → places_in (joined_slots xs ys) k ≡ places_in xs k ++
      places_in ys k
  merged_places [] [] k e = refl
  merged_places [] (y ∷ ys) k e = absurd (omega arith)
  merged_places (x ∷ xs) [] k e = absurd (omega arith)
  merged_places (x ∷ xs) (y ∷ ys) zero e = refl
  merged_places (x ∷ xs) (y ∷ ys) (suc k) e = merged_places xs ys k (omega arith)

  pub merged_length : (xs ys : List (SlotView T)) → length (joined_slots xs ys) ≡ length xs
  merged_length [] ys = refl
  merged_length (x ∷ xs) [] = refl
  merged_length (x ∷ xs) (y ∷ ys) = ap suc (merged_length xs ys)

  -- who is at the spot k of a joined_slots list stood at that spot of one of the two
  merged_at : (xs ys : List (SlotView T)) (k : ℕ) (p : SlotView T) (i : ℕ) (b : EndedTurn T) → get_elem? (joined_slots xs ys) k ≡ some p →
      get_elem? p.seen i ≡ some b
      → ((q : SlotView T) × (j : ℕ) × (get_elem? xs k ≡ some q) × (get_elem? q.seen j ≡ some b)) ⊎ ((q : SlotView T) × (j : ℕ) ×
      (get_elem? ys k ≡ some q) × (get_elem? q.seen j ≡ some b))
  merged_at [] ys k p i b e s = absurd (some-ne-none p (sym e))
  merged_at (x ∷ xs) [] k p i b e s = inl (p, i, e, s)
  merged_at (x ∷ xs) (y ∷ ys) zero p i b e s = ⊎_elim (λ (t : get_elem? x.seen i ≡ some b). inl (x, i, refl, t))
      (λ (t : (j : ℕ) × (get_elem? y.seen j ≡ some b)). inr (y, t.0, refl, t.1))
      (at_append x.seen y.seen i b (ap (λ (q : SlotView T). get_elem? q.seen i) (some-injective _ p e) ∙ s))
  merged_at (x ∷ xs) (y ∷ ys) (suc k) p i b e s = merged_at xs ys k p i b e s

module _ {T N I : Type 0} (past : T → List I) (name : T → N) (start : List T) where
  abbrev S : Type 0
  S = State (Option T) (HandView T)

  abbrev Rule : S → Type 0
  Rule s = KeepsTurns past name start s

  pub splits : (id : ℕ) (v : HandView T) → 1 < v.parts → Splits (KeepsTurns past name start) id v (after_split v) (new_view v)
  splits id v two s r at =
      let l : HandView T = after_split v in let f : HandView T = new_view v in let mine = r.seat_ok id v at in
      let some_part : 0 < v.parts = omega arith in let vs : List (HandView T) = set s.views id l in
      record {
        cells = r.cells;
        worded = r.worded;
        homed = r.homed;
        parts = (let a = sum_by-append (λ (u : HandView T). u.parts) vs (f ∷ []) in let b =
            sum_set (λ (u : HandView T). u.parts) s.views id
            v l at in let p = r.parts in omega arith);
        slot_ok = λ k near. (let ok = r.slot_ok k near in record {
          shows = ok.shows;
          short = ok.short;
          named = ok.named;
          holder = λ j x e. (let h = ok.holder j x e in let g = stays past name start s.views id k j x v l h.0 at h.1 h.2 (λ _ q. q)
              (ℕ_discrete j id) in (g.0, at_longer vs (f ∷ []) j g.0 g.1, g.2));
        });
        seat_ok = λ j u e. ⊎_elim
            (λ (t : get_elem? vs j ≡ some u). ⊎_elim
            (λ (q : (j ≡ id) × (l ≡ u)). subst (λ (y : ℕ × HandView T). SeatOk past name start r.cells y.0 y.1)
            (λ i. (sym q.0 i, q.1 i)) record {
              alive = λ _. mine.alive some_part;
              idle = λ z. absurd (omega arith);
              turn = mine.turn;
              begun = mine.begun;
            })
            (λ (q : (j ≢ id) × (get_elem? s.views j ≡ some u)). r.seat_ok j u q.1) (at_set s.views id j l u t))
            (λ (t : f ≡ u). subst (λ (y : HandView T). SeatOk past name start r.cells j y) t record {
              alive = λ _. ((mine.alive some_part).0, unseen_length v.start ∙ ap (λ (l : List T). length l) (mine.alive some_part).0);
              idle = λ z. absurd (omega arith);
              turn = λ k x q. absurd (none_held (open_turn k x) q);
              begun = λ k p i b q z. absurd (nothing_seen v.start k p i b q z);
            }) (at_snoc vs f u j e);
        placed = λ k p near. (let a = sum_by-append (λ (u : HandView T). times p (places u k)) vs (f ∷ []) in let b =
            sum_set (λ (u : HandView T). times p (places u k)) s.views id v l at in let c = r.placed k p near in
            let d = ap (λ (q : List ℕ). times p q) (unseen_places v.start k) in omega arith);
        long = λ k near. (let a = sum_by-append (λ (u : HandView T). length (places u k)) vs (f ∷ []) in let b =
            sum_set (λ (u : HandView
            T). length (places u k))
            s.views id v l at in
            let c = r.long k near in
            let d = ap (λ (q : List ℕ). length q) (unseen_places v.start k) in omega arith);
      }

  pub joins : (id : ℕ) (v : HandView T) (other : ℕ) (w : HandView T) → 0 < v.parts → 0 < w.parts → w.turn ≡ None →
      Joins (KeepsTurns past name start) id v other w (after_join v w) spent_view
  joins id v other w some_mine some_theirs idle s r at apart at' =
      let b : HandView T = after_join v w in let vs : List (HandView T) = set s.views id b in let last : HandView T = spent_view in
      let was : get_elem? s.views other ≡ some w = ⊎_elim (λ (t : (other ≡ id) × (b ≡ w)). absurd (apart t.0))
      (λ (t : (other ≢ id) × (get_elem? s.views other ≡ some w)). t.1) (at_set s.views id other b w at') in
      let mine = r.seat_ok id v at in let theirs = r.seat_ok other w was in
      let sized : length v.slots ≡ length w.slots = (mine.alive some_mine).1 ∙ sym (theirs.alive some_theirs).1 in
      record {
        cells = r.cells;
        worded = r.worded;
        homed = r.homed;
        parts = (let a = sum_set (λ (u : HandView T). u.parts) vs other w last at' in let c =
            sum_set (λ (u : HandView T). u.parts) s.views
            id v b at in let p = r.parts in omega arith);
        slot_ok = λ k near. (let ok = r.slot_ok k near in record {
          shows = ok.shows;
          short = ok.short;
          named = ok.named;
          holder = λ j x e. (let h = ok.holder j x e in let g = stays past name start s.views id k j x v b h.0 at h.1 h.2 (λ _ q. q)
              (ℕ_discrete j id) in
              stays past name start vs other k j x w last g.0 at' g.1 g.2 (λ y q. absurd (none_held (open_turn k y) (sym idle ∙ q)))
              (ℕ_discrete j other));
        });
        seat_ok = λ j u e. ⊎_elim
            (λ (t : (j ≡ other) × (last ≡ u)). subst (λ (y : HandView T). SeatOk past name start r.cells j y) t.1 record {
              alive = λ z. absurd (omega arith);
              idle = λ _. (refl, λ k. refl);
              turn = λ k x q. absurd (none_held (open_turn k x) q);
              begun = λ k p i b q z. absurd (some-ne-none p (sym q));
            })
            (λ (t : (j ≢ other) × (get_elem? vs j ≡ some u)). ⊎_elim
            (λ (q : (j ≡ id) × (b ≡ u)). subst (λ (y : ℕ × HandView T). SeatOk past name start r.cells y.0 y.1)
            (λ i. (sym q.0 i, q.1 i)) record {
              alive = λ _. ((mine.alive some_mine).0, merged_length v.slots w.slots ∙ (mine.alive some_mine).1);
              idle = λ z. absurd (omega arith);
              turn = mine.turn;
              begun = λ k p i b q z. ⊎_elim (λ (t : (q : SlotView T) × (j : ℕ) × (get_elem? v.slots k ≡ some q) ×
                  (get_elem? q.seen j ≡ some b)). mine.begun k t.0 t.1 b t.2 t.3)
                  (λ (t : (q : SlotView T) × (j : ℕ) × (get_elem? w.slots k ≡ some q) × (get_elem? q.seen j ≡ some b)). theirs.begun k t.0
                  t.1 b t.2 t.3) (merged_at v.slots w.slots k p i b q z);
            })
            (λ (q : (j ≢ id) × (get_elem? s.views j ≡ some u)). r.seat_ok j u q.1) (at_set s.views id j b u t.1))
            (at_set vs other j last u e);
        placed = λ k p near. (let a = sum_set (λ (u : HandView T). times p (places u k)) vs other w last at' in let c =
            sum_set (λ (u : HandView T). times p (places u k)) s.views id v b at in let d = r.placed k p near in
            let e = ap (λ (q : List ℕ). times p q) (merged_places v.slots w.slots k sized) in let f =
            times_append p (places v k)
            (places w k) in omega arith);
        long = λ k near. (let a = sum_set (λ (u : HandView T). length (places u k)) vs other w last at' in let c =
            sum_set (λ (u : HandView
            T). length (places u k))
            s.views id v b at in
            let d = r.long k near in
            let e = ap (λ (q : List ℕ). length q) (merged_places v.slots w.slots k sized) in let f =
            length-append (places v k) (places w k)
            in omega arith);
      }

  pub opens : (d : T) (rest : List T) → start ≡ d ∷ rest → ((k : ℕ) (x : T) → get_elem? start k ≡ some x → past x ≡ []) →
      Rule (opening (replicate (length start) 0) (map Some start) (first_view start))
  opens d rest some_value empty = record {
    cells = λ k. home (get_or start k d);
    worded = length-replicate (length start) 0;
    homed = simp length-map;
    parts = omega arith;
    slot_ok = λ k near. (let is = here_or start k d near in let none = empty k (get_or start k d) is in record {
      shows = (
        zeros (length start) k ∙ sym (ap (λ (l : List I). length l) none),
        at_map some (map Some start) k (Some (get_or start k d))
            (at_map Some start k (get_or start k d) is),
      );
      short = omega (arith, ap (λ (l : List I). length l) none);
      named = λ x e. ap name (some-injective (get_or start k d) x (sym is ∙ e));
      holder = λ j x e. absurd (home_is (get_or start k d) j x e);
    });
    seat_ok = λ j v e. (let is : first_view start ≡ v = only j v e in
        subst (λ (u : HandView T). SeatOk past name start (λ k. home (get_or start k d)) j u) is record {
          alive = λ _. (refl, unseen_length start);
          idle = λ z. absurd (omega arith);
          turn = λ k x q. absurd (none_held (open_turn k x) q);
          begun = λ k p i b q z. absurd (nothing_seen start k p i b q z);
        });
    placed = λ k p near. (let none = empty k (get_or start k d) (here_or start k d near) in let a =
        ap (λ (q : List ℕ). times p q)
        (unseen_places start k) in let b =
        ap (λ (l : List I). once_below p (length l)) none ∙ below_zero p in omega arith);
    long = λ k near. (let none = empty k (get_or start k d) (here_or start k d near) in let a =
        ap (λ (q : List ℕ). length q)
        (unseen_places start k) in let b =
        ap (λ (l : List I). length l) none in omega arith);
  }
    where
      home_is : (x : T) (i : ℕ) (y : T) → home x ≡ out i y → ⊥
      home_is x i y e = cc

      only : (j : ℕ) (v : HandView T) → get_elem? (first_view start ∷ []) j ≡ some v → first_view start ≡ v
      only zero v e = some-injective (first_view start) v e
      only (suc j) v e = absurd (some-ne-none v (sym e))

  -- what is left of a slot at the end: its value, with its name, whose past begins with each that the hand saw, and whose places are the
  -- hand's
  pub ends : (s : S) → Rule s → (id : ℕ) (v : HandView T) → get_elem? s.views id ≡ some v → v.parts ≡ 4294967296 → v.turn ≡ None →
      (k : ℕ) → k < length start
      → (x : T) × (get_elem? s.homes k ≡ some (some (Some x))) × Ends past name start v k x
  ends s r id v at whole idle k near = go (r.cells k) refl
    where
      others : (j : ℕ) (u : HandView T) → j ≢ id → get_elem? s.views j ≡ some u → u.parts ≡ 0
      others j u apart e = let t = sum_two (λ (w : HandView T). w.parts) s.views id j v u (λ q. apart (sym q)) at e in let p = r.parts in
          omega arith

      same : (u : HandView T) → get_elem? s.views id ≡ some u → v ≡ u
      same u e = some-injective v u (sym at ∙ e)

      go : (c : Where T) → r.cells k ≡ c → (x : T) × (get_elem? s.homes k ≡ some (some (Some x))) × Ends past name start v k x
      go (home x) is = let ok = r.slot_ok k near in let value : value_of (r.cells k) ≡ x = ap value_of is in
          let shown : Shows past name s.words s.homes k (home x) = subst (λ (c : Where T). Shows past name s.words s.homes k c) is
          ok.shows in (
            x,
            shown.1,
            record {
              named = λ y e. ap name (sym value) ∙ ok.named y e;
              begun = λ p i b q z. subst (λ (y : T). IsPrefix (past b.given) (past y)) value ((r.seat_ok id v at).begun k p i b q z);
              placed = λ p. (let t = sum_alone (λ (u : HandView T). times p (places u k)) s.views id v at
                  (λ j u apart e. ap (λ (l : List ℕ). times p l) (((r.seat_ok j u e).idle (others j u apart e)).1 k)) in
                  sym t ∙ (r.placed k p near ∙ ap (λ (y : T). once_below p (length (past y))) value));
              long = (let t = sum_alone (λ (u : HandView T). length (places u k)) s.views id v at
                  (λ j u apart e. ap (λ (l : List ℕ). length l) (((r.seat_ok j u e).idle (others j u apart e)).1 k)) in
                  sym t ∙ (r.long k near ∙ ap (λ (y : T). length (past y)) value));
            },
          )
      go (out j x) is = let h = (r.slot_ok k near).holder j x is in let none : h.0.turn ≡ None = by (ℕ_discrete j id) h.0 h.1 in
          absurd (none_held (open_turn k x) (sym none ∙ h.2))
        where
          by : Dec (j ≡ id) → (u : HandView T) → get_elem? s.views j ≡ some u → u.turn ≡ None
          by (yes e) u q = ap (λ (w : HandView T). w.turn) (sym (same u (ap (λ i. get_elem? s.views i) (sym e) ∙ q))) ∙ idle
          by (no apart) u q = ((r.seat_ok j u q).idle (others j u apart q)).0

  pub finals : (id : ℕ) (v : HandView T) (ws : List ℕ) (xs : List (Option T)) → Final (Seen Rule id v) ws xs → v.parts ≡ 4294967296 →
      v.turn ≡ None → (k : ℕ) → k < length start
      → (x : T) × (get_elem? xs k ≡ some (Some x)) × Ends past name start v k x
  finals id v ws xs f whole idle k near = let t = ends f.0 f.1.0 id v f.1.1 whole idle k near in (t.0, f.4 k (Some t.0) t.1, t.2)
