-- The steps on a slot's word keep the rule.
use Rattle.std.proofs.Common.{◌≡◌, ◌≢◌, ℕ, zero, suc, ◌+◌, ◌-◌, ◌≤◌, ◌<◌, List, [], ◌∷◌, ◌++◌, map, length, get_or, set, sym, refl, ap, ◌∙◌}
use Rattle.std.proofs.Common.{subst, ⊎_elim, arith, length-set, get_or-set_same, length-append}
use mathlib.Core.Option.{some, none, some-injective, some-ne-none}
use mathlib.Core.List.{IsPrefix}
use native.Mathlib.Decide.{ℕ_discrete}
use lib.ListN.{get_elem?}
use lib.Bits.{bit_or}
use Rattle.std.specs.Prelude.{Option, Some, None}
use Rattle.atomic_table.specs.Table.{State, Me, step, Act, keeps, takes, gives, Allows, Valid, carried_after, stepped, rest}
use Rattle.atomic_table.proofs.Lists.{set_here, set_else}
use Rattle.turn_table.specs.declared.views.OpenTurn.{OpenTurn}
use Rattle.turn_table.specs.declared.views.EndedTurn.{EndedTurn}
use Rattle.turn_table.specs.declared.views.SlotView.{SlotView}
use Rattle.turn_table.specs.declared.views.HandView.{HandView}
use Rattle.turn_table.specs.Views.{adjusted, times, once_below, numbers_from, places_in, places, after_busy, busier_slot, busy_in, busy_at}
use Rattle.turn_table.specs.Views.{without_busy, after_take, after_turn, after_give, open_turn}
use Rattle.turn_table.specs.Rules.{Where, home, out, value_of, Shows, Begun, KeepsTurns, try_tells, count_tells}
use Rattle.turn_table.proofs.Sums.{sum_at, adjusted_at, adjusted_length, prefix_refl, times_numbers_from, times_append, set_there}
use Rattle.turn_table.proofs.Words.{taken_word, busy_word}
use Rattle.turn_table.proofs.Cells.{at_put, moved, stays, begun_put}

module _ {T : Type 0} where
  pub some_held : (h g : OpenTurn T) → Some h ≡ Some g → h ≡ g
  some_held h g e = cc

  abbrev first_value : List (ℕ × Option T) → Option T
  first_value [] = None
  first_value (x ∷ xs) = x.1

  some_value : (x y : T) → Some x ≡ Some y → x ≡ y
  some_value x y e = cc

  pub value_is : (k : ℕ) (x y : T) (l m : List (ℕ × Option T)) → (k, Some x) ∷ l ≡ (k, Some y) ∷ m → x ≡ y
  value_is k x y l m e = some_value x y (ap first_value e)

  pub none_held : (h : OpenTurn T) → None ≡ Some h → ⊥
  none_held h e = cc

  home_out : (x : T) (i : ℕ) (y : T) → home x ≡ out i y → ⊥
  home_out x i y e = cc

  out_seat : (i j : ℕ) (x y : T) → out i x ≡ out j y → i ≡ j
  out_seat i j x y e = cc

  out_value : (i j : ℕ) (x y : T) → out i x ≡ out j y → x ≡ y
  out_value i j x y e = cc

  pub places_busier : (l : List (SlotView T)) (k j : ℕ) → places_in (adjusted l k busier_slot) j ≡ places_in l j
  places_busier [] k j = refl
  places_busier (x ∷ xs) zero zero = refl
  places_busier (x ∷ xs) zero (suc j) = refl
  places_busier (x ∷ xs) (suc k) zero = refl
  places_busier (x ∷ xs) (suc k) (suc j) = places_busier xs k j

  abbrev hushed : List (SlotView T) → List (SlotView T)
  hushed l = map (λ s. record { busy = 0; seen = s.seen; places = s.places }) l

  hushed-busier : (l : List (SlotView T)) (k : ℕ) → hushed (adjusted l k busier_slot) ≡ hushed l
  hushed-busier [] k = refl
  hushed-busier (x ∷ xs) zero = refl
  hushed-busier (x ∷ xs) (suc k) = λ i. record { busy = 0; seen = x.seen; places = x.places } ∷ hushed-busier xs k i

  pub without_busy-after_busy : (v : HandView T) (k : ℕ) → without_busy (after_busy v k) ≡ without_busy v
  without_busy-after_busy v k = λ i. record { parts = v.parts; turn = v.turn; slots = hushed-busier v.slots k i; start = v.start }

  busy_in-busier : (l : List (SlotView T)) (k j : ℕ) → j ≢ k → busy_in (adjusted l k busier_slot) j ≡ busy_in l j
  busy_in-busier [] k j other = refl
  busy_in-busier (x ∷ xs) zero zero other = absurd (other refl)
  busy_in-busier (x ∷ xs) zero (suc j) other = refl
  busy_in-busier (x ∷ xs) (suc k) zero other = refl
  busy_in-busier (x ∷ xs) (suc k) (suc j) other = busy_in-busier xs k j (λ e. other (ap suc e))

  pub busy_at-after_busy : (v : HandView T) (k j : ℕ) → j ≢ k → busy_at (after_busy v k) j ≡ busy_at v j
  busy_at-after_busy v k j other = busy_in-busier v.slots k j other

module _ {T N I : Type 0} (past : T → List I) (name : T → N) (start : List T) where
  abbrev S : Type 0
  S = State (Option T) (HandView T)

  abbrev M : Type 0
  M = Me (Option T) (HandView T)

  -- what a step on the word k has to give, where the word becomes n
  abbrev pub Goes : S → ℕ → M → ℕ → ℕ → (M → Type 0) → Type 0
  Goes s id me k n then = (w : HandView T) × (a : Act (Option T)) × Valid s.homes me.1 a ×
      KeepsTurns past name start (stepped s k n id me.1 w a) × then (w, carried_after me.1 a)

  -- a seat with no turn has none after a try that found the slot out
  busies : (s : S) (r : KeepsTurns past name start s) (id k : ℕ) (me : M) (j : ℕ) (x : T) → me.0.turn ≡ None → 0 < me.0.parts →
      k < length start → get_elem? s.views id ≡ some me.0 → r.cells k ≡ out j x
      → Goes s id me k (length (past x) + 9223372036854775808) (try_tells past name (step (length s.homes) k 9223372036854775808 0 none)
      me (length (past x) + 9223372036854775808))
  busies s r id k me j x idle some_part near at is =
      let v = me.0 in let w : HandView T = after_busy v k in let ok = r.slot_ok k near in let mine = r.seat_ok id v at in let n : ℕ =
      length (past x) + 9223372036854775808 in let c = r.cells k in
      let wide = r.worded in
      let shown : Shows past name s.words s.homes k (out j x) = subst (λ (c : Where T). Shows past name s.words s.homes k c) is ok.shows in
      let shown' : Shows past name (set s.words k n) s.homes k (out j x) = (get_or-set_same s.words k n 0 (omega arith), shown.1) in
      let same : IsPrefix (past (value_of c)) (past (value_of c)) = prefix_refl (past (value_of c)) in
      let seen : Begun past name r.cells w.slots = λ k' p i b q l. ⊎_elim
      (λ (t : (k' ≡ k) × ((a : SlotView T) × (get_elem? v.slots k' ≡ some a) × (busier_slot a ≡ p))). mine.begun k' t.1.0 i b t.1.1
      (ap (λ (y : SlotView T). get_elem? y.seen i) t.1.2 ∙ l))
      (λ (t : (k' ≢ k) × (get_elem? v.slots k' ≡ some p)). mine.begun k' p i b t.1 l) (adjusted_at v.slots k k' busier_slot p q) in (
        w,
        keeps,
        tt,
        moved past name start s r id k n v w c s.homes at near refl (λ _ _. refl)
            record {
              shows = subst (λ (c : Where T). Shows past name (set s.words k n) s.homes k c) (sym is) shown';
              short = ok.short;
              named = ok.named;
              holder = λ i y e. (let h = ok.holder i y e in stays past name start s.views id k i y v w h.0 at h.1 h.2 (λ _ q. q)
                  (ℕ_discrete i id));
            }
            (λ _ _ _ q. q) (λ _ _ _ q. q) same
            record {
              alive = λ p. ((mine.alive p).0, adjusted_length v.slots k busier_slot ∙ (mine.alive p).1);
              idle = λ z. absurd (omega arith);
              turn = λ k' y e. absurd (none_held (open_turn k' y) (sym idle ∙ e));
              begun = begun_put past name start r.cells k c w.slots same seen;
            }
            refl (λ p. ap (λ (l : List ℕ). times p l + once_below p (length (past (value_of c)))) (places_busier v.slots k k))
            (ap (λ (l : List ℕ). length l + length (past (value_of c))) (places_busier v.slots k k)) (λ k' _. places_busier v.slots k k'),
        (λ _. refl, λ lt. absurd (omega arith)),
      )

  takes_it : (s : S) (r : KeepsTurns past name start s) (id k : ℕ) (me : M) (x : T) → me.0.turn ≡ None → 0 < me.0.parts →
      k < length start → get_elem? s.views id ≡ some me.0 → r.cells k ≡ home x
      → Goes s id me k (length (past x) + 9223372036854775808) (try_tells past name (step (length s.homes) k 9223372036854775808 0 none)
      me (length (past x)))
  takes_it s r id k me x idle some_part near at is =
      let v = me.0 in let w : HandView T = after_take v k x in let ok = r.slot_ok k near in let mine = r.seat_ok id v at in let n : ℕ =
      length (past x) + 9223372036854775808 in let c : Where T = out id x in
      let wide = r.worded in let homed = r.homed in
      let shown : Shows past name s.words s.homes k (home x) = subst (λ (c : Where T). Shows past name s.words s.homes k c) is ok.shows in
      let value : value_of (r.cells k) ≡ x = ap value_of is in
      let longer : IsPrefix (past (value_of (r.cells k))) (past x) = subst (λ (y : T). IsPrefix (past (value_of (r.cells k))) (past y))
      value (prefix_refl (past (value_of (r.cells k)))) in
      let short : length (past x) < 4611686018427387904 = subst (λ (y : T). length (past y) < 4611686018427387904) value ok.short in
      let named : (y : T) → get_elem? start k ≡ some y → name x ≡ name y = λ y e. ap name (sym value) ∙ ok.named y e in (
        w,
        takes k (Some x),
        shown.1,
        moved past name start s r id k n v w c (set s.homes k none) at near (length-set s.homes k none)
            (λ i other. set_else s.homes k i none other)
            record {
              shows = (get_or-set_same s.words k n 0 (omega arith), set_here s.homes k none (omega arith));
              short = short;
              named = named;
              holder = λ i y e. (
                w,
                ap (λ q. get_elem? (set s.views id w) q) (sym (out_seat id i x y e)) ∙ set_there s.views id v w at,
                ap (λ (q : T). Some (open_turn k q)) (out_value id i x y e),
              );
            }
            (λ k' y _ e. absurd (none_held (open_turn k' y) (sym idle ∙ e)))
            (λ i y _ e. absurd (home_out x i y (sym is ∙ e)))
            longer
            record {
              alive = mine.alive;
              idle = λ z. absurd (omega arith);
              turn = λ k' y e. (let h = some_held (open_turn k x) (open_turn k' y) e in let same : k ≡ k' =
                  ap (λ (q : OpenTurn T). q.slot) h in (
                    subst (λ (i : ℕ). i < length start) same near,
                    at_put r.cells k c (λ (i : ℕ) (d : Where T). d ≡ out id y) k' (λ _. ap (λ (q : OpenTurn T). out id q.value) h)
                        (λ apart. absurd (apart (sym same))),
                  ));
              begun = begun_put past name start r.cells k c v.slots longer mine.begun;
            }
            refl (λ p. ap (λ (y : T). times p (places v k) + once_below p (length (past y))) value)
            (ap (λ (y : T). length (places v k) + length (past y)) value) (λ k' _. refl),
        (
          (λ le. absurd (omega arith)),
          λ _. (
            x,
            refl,
            refl,
            short,
            (let a = r.long k near in let b = sum_at (λ (u : HandView T). length (places u k)) s.views id v at in let e =
                ap (λ (y : T). length (past y)) value in omega arith),
            (λ p i b q l. subst (λ (y : T). IsPrefix (past b.given) (past y)) value (mine.begun k p i b q l)),
            λ y e. named y (ap (λ (l : List T). get_elem? l k) (sym (mine.alive some_part).0) ∙ e),
          ),
        ),
      )

  pub tries : (n id k : ℕ) (me : M) → me.0.turn ≡ None → 0 < me.0.parts → k < length start
      → Allows (KeepsTurns past name start) n id me k (λ w. bit_or w 9223372036854775808)
      (try_tells past name (step n k 9223372036854775808 0 none) me)
  tries n id k me idle some_part near s r wide at _ = subst (λ (m : ℕ). Goes s id me k (bit_or (get_or s.words k 0) 9223372036854775808)
      (try_tells past name (step m k 9223372036854775808 0 none) me (get_or s.words k 0))) wide (go (r.cells k) refl)
    where
      go : (c : Where T) → r.cells k ≡ c → Goes s id me k (bit_or (get_or s.words k 0) 9223372036854775808)
          (try_tells past name (step (length s.homes) k 9223372036854775808 0 none) me (get_or s.words k 0))
      go (home x) is =
          let ok = r.slot_ok k near in
          let shown : Shows past name s.words s.homes k (home x) = subst (λ (c : Where T). Shows past name s.words s.homes k c) is
          ok.shows in
          let short : length (past x) < 4611686018427387904 = subst (λ (y : T). length (past y) < 4611686018427387904) (ap value_of is)
          ok.short in
          let word : bit_or (get_or s.words k 0) 9223372036854775808 ≡ length (past x) + 9223372036854775808 =
          ap (λ m. bit_or m 9223372036854775808) shown.0 ∙ taken_word (length (past x)) (omega arith) in
          subst (λ (y : ℕ × ℕ). Goes s id me k y.0 (try_tells past name (step (length s.homes) k 9223372036854775808 0 none) me y.1))
          (λ i. (sym word i, sym shown.0 i)) (takes_it s r id k me x idle some_part near at is)
      go (out j x) is =
          let ok = r.slot_ok k near in
          let shown : Shows past name s.words s.homes k (out j x) = subst (λ (c : Where T). Shows past name s.words s.homes k c) is
          ok.shows in
          let short : length (past x) < 4611686018427387904 = subst (λ (y : T). length (past y) < 4611686018427387904) (ap value_of is)
          ok.short in
          let word : bit_or (get_or s.words k 0) 9223372036854775808 ≡ length (past x) + 9223372036854775808 =
          ap (λ m. bit_or m 9223372036854775808) shown.0 ∙ busy_word (length (past x)) (omega arith) in
          subst (λ (y : ℕ × ℕ). Goes s id me k y.0 (try_tells past name (step (length s.homes) k 9223372036854775808 0 none) me y.1))
          (λ i. (sym word i, sym shown.0 i)) (busies s r id k me j x idle some_part near at is)

  pub places_after_turn : (l : List (SlotView T)) (k : ℕ) (x y : T) → k < length l → places_in (adjusted l k (after_turn past x y)) k
      ≡ places_in l k ++ numbers_from (length (past x)) (length (past y) - length (past x))
  places_after_turn [] k x y near = absurd (omega arith)
  places_after_turn (a ∷ l) zero x y near = refl
  places_after_turn (a ∷ l) (suc k) x y near = places_after_turn l k x y (omega arith)

  pub places_beside : (l : List (SlotView T)) (k j : ℕ) (x y : T) → j ≢ k → places_in (adjusted l k (after_turn past x y)) j ≡ places_in l j
  places_beside [] k j x y n = refl
  places_beside (a ∷ l) zero zero x y n = absurd (n refl)
  places_beside (a ∷ l) zero (suc j) x y n = refl
  places_beside (a ∷ l) (suc k) zero x y n = refl
  places_beside (a ∷ l) (suc k) (suc j) x y n = places_beside l k j x y (λ e. n (ap suc e))

  pub longer_length : (xs ys : List I) → IsPrefix xs ys → length xs ≤ length ys
  longer_length xs ys p = let e = ap (λ (l : List I). length l) p.1 in omega (arith, length-append xs p.0)

  -- the value y comes home in place of x, which was taken
  counts_at : (s : S) (r : KeepsTurns past name start s) (id k : ℕ) (me : M) (x y : T) → me.0.turn ≡ Some (open_turn k x) →
      me.1 ≡ (k, Some y) ∷ rest me.1 → 0 < me.0.parts → IsPrefix (past x) (past y) → name y ≡ name x → length (past y) < 4611686018427387904
      → k < length start → get_elem? s.views id ≡ some me.0 → r.cells k ≡ out id x
      → KeepsTurns past name start record {
        words = set s.words k (length (past y));
        homes = set s.homes k (some (Some y));
        views =
            set s.views id (after_give past me.0 k x y);
      }
  counts_at s r id k me x y mine_is carried some_part begins same_name short near at is =
      let v = me.0 in let w : HandView T = after_give past v k x y in let ok = r.slot_ok k near in let mine = r.seat_ok id v at in
      let n : ℕ = length (past y) in let c : Where T = home y in
      let wide = r.worded in let homed = r.homed in
      let value : value_of (r.cells k) ≡ x = ap value_of is in
      let longer : IsPrefix (past (value_of (r.cells k))) (past y) = subst (λ (z : T). IsPrefix (past z) (past y)) (sym value) begins in
      let grows : length (past x) ≤ length (past y) = longer_length (past x) (past y) begins in
      let sized : length v.slots ≡ length start = (mine.alive some_part).1 in
      let mine_at : (k' : ℕ) (z : T) → v.turn ≡ Some (open_turn k' z) → k ≡ k' =
      λ k' z e. ap (λ (q : OpenTurn T). q.slot) (some_held (open_turn k x) (open_turn k' z) (sym mine_is ∙ e)) in
      moved past name start s r id k n v w c (set s.homes k (some (Some y))) at near (length-set s.homes k (some (Some y)))
      (λ i other. set_else s.homes k i (some (Some y)) other)
      record {
        shows = (get_or-set_same s.words k n 0 (omega arith), set_here s.homes k (some (Some y)) (omega arith));
        short = short;
        named = λ z e. same_name ∙ (ap name (sym value) ∙ ok.named z e);
        holder = λ i z e. absurd (home_out y i z e);
      }
      (λ k' z apart e. absurd (apart (sym (mine_at k' z e))))
      (λ i z apart e. absurd (apart (sym (out_seat id i x z (sym is ∙ e)))))
      longer
      record {
        alive = λ p. ((mine.alive p).0, adjusted_length v.slots k (after_turn past x y) ∙ (mine.alive p).1);
        idle = λ z. absurd (omega arith);
        turn = λ k' z e. absurd (none_held (open_turn k' z) e);
        begun = λ k' p i b q l. ⊎_elim
            (λ (t : (k' ≡ k) × ((a : SlotView T) × (get_elem? v.slots k' ≡ some a) × (after_turn past x y a ≡ p))).
            let given : y ≡ b.given = some_given x y b i (ap (λ (u : SlotView T). get_elem? u.seen i) t.1.2 ∙ l) in
            at_put r.cells k c (λ (i : ℕ) (d : Where T). IsPrefix (past b.given) (past (value_of d))) k'
            (λ _. subst (λ (z : T). IsPrefix (past z) (past y)) given (prefix_refl (past y))) (λ apart. absurd (apart t.0)))
            (λ (t : (k' ≢ k) × (get_elem? v.slots k' ≡ some p)). begun_put past name start r.cells k c v.slots longer mine.begun k' p i b
            t.1 l)
            (adjusted_at v.slots k k' (after_turn past x y) p q);
      }
      refl
      (λ p. let a = ap (λ (l : List ℕ). times p l) (places_after_turn v.slots k x y (omega arith)) in let b =
      times_append p (places v k)
      (numbers_from (length
      (past x)) (length (past y) -
      length (past x))) in
      let d = times_numbers_from p (length (past x)) (length (past y) - length (past x)) in
      let e : once_below p (length (past x) + (length (past y) - length (past x))) ≡ once_below p (length (past y)) =
      ap (λ m. once_below p m) (whole (length (past x)) (length (past y)) grows) in
      let f : once_below p (length (past (value_of (r.cells k)))) ≡ once_below p (length (past x)) =
      ap (λ (z : T). once_below p (length (past z))) value in omega arith)
      (let a = ap (λ (l : List ℕ). length l) (places_after_turn v.slots k x y (omega arith)) in let b =
      length-append (places v k)
      (numbers_from (length (past x))
      (length (past y) - length (past x)))
      in
      let d = numbers_from_length (length (past x)) (length (past y) - length (past x)) in let f =
      ap (λ (z : T). length (past z)) value in
      omega arith)
      (λ k' apart. places_beside v.slots k k' x y apart)
    where
      some_given : (x y : T) (b : EndedTurn T) (i : ℕ) → get_elem? (record { taken = x; given = y } ∷ []) i ≡ some b → y ≡ b.given
      some_given x y b zero e = ap (λ (u : EndedTurn T). u.given) (some-injective (record { taken = x; given = y }) b e)
      some_given x y b (suc i) e = absurd (some-ne-none b (sym e))

      numbers_from_length : (a d : ℕ) → length (numbers_from a d) ≡ d
      numbers_from_length a zero = refl
      numbers_from_length a (suc d) = ap suc (numbers_from_length (suc a) d)

      whole : (a b : ℕ) → a ≤ b → a + (b - a) ≡ b
      whole a b le = omega arith

  pub counts : (n id k len : ℕ) (me : M) (x y : T) → me.0.turn ≡ Some (open_turn k x) → me.1 ≡ (k, Some y) ∷ rest me.1 → 0 < me.0.parts →
      IsPrefix (past x) (past y) → name y ≡ name x → length (past y) < 4611686018427387904 → len ≡ length (past y)
      → Allows (KeepsTurns past name start) n id me k (λ _. len) (λ _. count_tells past (step n k len 0 none) me len)
  counts n id k len me x y mine_is carried some_part begins same_name short is_len s r wide at _ =
      let mine = r.seat_ok id me.0 at in let t = mine.turn k x mine_is in (
        after_give past me.0 k x y,
        gives,
        tt,
        subst (λ (q : ℕ × List (ℕ × Option T)). KeepsTurns past name start (stepped s k q.0 id q.1 (after_give past me.0 k x y) gives))
            (λ i. (sym is_len i, sym carried i)) (counts_at s r id k me x y mine_is carried some_part begins same_name short t.0 at t.1),
        λ x' y' is have. (let a = same_values x x' (sym mine_is ∙ is) in let b =
            same_slots y y' (rest me.1) (rest me.1)
            (sym carried ∙ have) in
            λ i. (after_give past me.0 k (a i) (b i), rest me.1)),
      )
    where
      same_values : (x x' : T) → Some (open_turn k x) ≡ Some (open_turn k x') → x ≡ x'
      same_values x x' e = ap (λ (q : OpenTurn T). q.value) (some_held (open_turn k x) (open_turn k x') e)

      same_slots : (y y' : T) (l m : List (ℕ × Option T)) → (k, Some y) ∷ l ≡ (k, Some y') ∷ m → y ≡ y'
      same_slots y y' l m e = value_is k y y' l m e
