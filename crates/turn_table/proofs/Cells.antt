-- What stays of the rule when one slot and one seat move.
use Rattle.std.proofs.Common.{◌≡◌, ◌≢◌, ℕ, ◌+◌, ◌<◌, List, length, get_or, set, sym, ap, ◌∙◌, subst, ⊎_elim, arith, length-set}
use Rattle.std.proofs.Common.{get_or-set_other}
use mathlib.Core.Option.{some, some-injective}
use mathlib.Core.Option as maybe
use mathlib.Core.List.{IsPrefix}
use native.Mathlib.Decide.{ℕ_discrete}
use lib.ListN.{get_elem?}
use Rattle.std.specs.Prelude.{Option, Some}
use Rattle.atomic_table.specs.Table.{State}
use Rattle.atomic_table.proofs.Lists.{at_set, set_else}
use Rattle.turn_table.specs.declared.views.SlotView.{SlotView}
use Rattle.turn_table.specs.declared.views.HandView.{HandView}
use Rattle.std.specs.Prelude.{sum_by}
use Rattle.turn_table.specs.Views.{times, once_below, places}
use Rattle.turn_table.specs.Rules.{Where, home, out, value_of, Shows, SlotOk, SeatOk, Begun, KeepsTurns}
use Rattle.turn_table.proofs.Sums.{sum_set, set_there, prefix_trans}

module _ {A : Type 0} where
  abbrev pick : {P : Type 0} → Dec P → A → A → A
  pick (yes _) a b = a
  pick (no _) a b = b

  pub put : (ℕ → A) → ℕ → A → ℕ → A
  put cells i c j = pick (ℕ_discrete j i) c (cells j)

  -- what holds of the new cell at i, and of each other cell, holds after
  pub at_put : (cells : ℕ → A) (i : ℕ) (c : A) (F : ℕ → A → Type 0) (j : ℕ) → (j ≡ i → F j c) → (j ≢ i → F j (cells j)) →
      F j (put cells i c j)
  unfolding put
  at_put cells i c F j here other = go (ℕ_discrete j i)
    where
      go : (d : Dec (j ≡ i)) → F j (pick d c (cells j))
      go (yes e) = here e
      go (no n) = other n

module _ {T N I : Type 0} (past : T → List I) (name : T → N) (start : List T) where
  abbrev S : Type 0
  S = State (Option T) (HandView T)

  abbrev Rule : S → Type 0
  Rule s = KeepsTurns past name start s

  same_shows : (ws ws' : List ℕ) (hs hs' : List (maybe.Option (Option T))) (k : ℕ) (c : Where T) → get_or ws' k 0 ≡ get_or ws k 0 →
      get_elem? hs' k ≡ get_elem? hs k → Shows past name ws hs k c → Shows past name ws' hs' k c
  same_shows ws ws' hs hs' k (home x) a b h = (a ∙ h.0, b ∙ h.1)
  same_shows ws ws' hs hs' k (out j x) a b h = (a ∙ h.0, b ∙ h.1)

  -- what was seen is still a beginning where one past grows
  pub begun_put : (cells : ℕ → Where T) (k : ℕ) (c : Where T) (slots : List (SlotView T)) →
      IsPrefix (past (value_of (cells k))) (past (value_of c)) → Begun past name cells slots → Begun past name (put cells k c) slots
  begun_put cells k c slots longer begun k' p n b q l = at_put cells k c
      (λ (i : ℕ) (d : Where T). IsPrefix (past b.given) (past (value_of (cells i))) → IsPrefix (past b.given) (past (value_of d))) k'
      (λ e g. prefix_trans (past b.given) (past (value_of (cells k))) (past (value_of c))
      (subst (λ (i : ℕ). IsPrefix (past b.given) (past (value_of (cells i)))) e g) longer) (λ _ g. g) (begun k' p n b q l)

  -- the seat i still has its turn
  pub stays : (views : List (HandView T)) (id j i : ℕ) (x : T) (v w u : HandView T) → get_elem? views id ≡ some v →
      get_elem? views i ≡ some u → u.turn ≡ Some (record { slot = j; value = x }) →
      ((y : T) → v.turn ≡ Some (record { slot = j; value = y }) → w.turn ≡ Some (record { slot = j; value = y }))
      → Dec (i ≡ id) → (u' : HandView T) × (get_elem? (set views id w) i ≡ some u') × (u'.turn ≡ Some (record { slot = j; value = x }))
  stays views id j i x v w u at e is keeps (yes same) =
      let was : some v ≡ some u = sym at ∙ (ap (λ k. get_elem? views k) (sym same) ∙ e) in (
        w,
        ap (λ k. get_elem? (set views id w) k) same ∙ set_there views id v w at,
        keeps x (ap (λ (y : HandView T). y.turn) (some-injective v u was) ∙ is),
      )
  stays views id j i x v w u at e is keeps (no apart) = (u, set_else views id i w apart ∙ e, is)

  pub moved : (s : S) (r : Rule s) (id k n : ℕ) (v w : HandView T) (c : Where T) (homes' : List (maybe.Option (Option T)))
      → get_elem? s.views id ≡ some v → k < length start
      → length homes' ≡ length s.homes → ((j : ℕ) → j ≢ k → get_elem? homes' j ≡ get_elem? s.homes j)
      → SlotOk past name start (set s.words k n) homes' (set s.views id w) k c
      → ((k' : ℕ) (x : T) → k' ≢ k → v.turn ≡ Some (record { slot = k'; value = x }) → w.turn ≡ Some (record { slot = k'; value = x }))
      → ((j : ℕ) (x : T) → j ≢ id → r.cells k ≡ out j x → c ≡ out j x)
      → IsPrefix (past (value_of (r.cells k))) (past (value_of c))
      → SeatOk past name start (put r.cells k c) id w
      → w.parts ≡ v.parts
      → ((p : ℕ) → times p (places w k) + once_below p (length (past (value_of (r.cells k)))) ≡ times p (places v k) + once_below p
      (length (past (value_of c))))
      → length (places w k) + length (past (value_of (r.cells k))) ≡ length (places v k) + length (past (value_of c))
      → ((k' : ℕ) → k' ≢ k → places w k' ≡ places v k')
      → Rule record { words = set s.words k n; homes = homes'; views = set s.views id w }
  moved s r id k n v w c homes' at near long elsewhere slot keeps others longer mine parts drawn more undrawn =
      let Cs : ℕ → Where T = put r.cells k c in record {
        cells = Cs;
        worded = length-set s.words k n ∙ r.worded;
        homed = long ∙ r.homed;
        parts = (let t = sum_set (λ (u : HandView T). u.parts) s.views id v w at in let p = r.parts in omega arith);
        slot_ok = λ j in_range. at_put r.cells k c (λ (j : ℕ) (d : Where T). SlotOk past name start (set s.words k n) homes'
            (set s.views id w) j d) j
            (λ e. subst (λ (j : ℕ). SlotOk past name start (set s.words k n) homes' (set s.views id w) j c) (sym e) slot)
            (λ apart. let ok = r.slot_ok j in_range in record {
              shows = same_shows s.words (set s.words k n) s.homes homes' j (r.cells j) (get_or-set_other s.words k j n 0 apart)
                  (elsewhere j apart) ok.shows;
              short = ok.short;
              named = ok.named;
              holder = λ i x is. (let h = ok.holder i x is in stays s.views id j i x v w h.0 at h.1 h.2 (λ y. keeps j y apart)
                  (ℕ_discrete i id));
            });
        seat_ok = λ j u e. ⊎_elim (λ (t : (j ≡ id) × (w ≡ u)). subst (λ (y : ℕ × HandView T). SeatOk past name start Cs y.0 y.1)
            (λ i. (sym t.0 i, t.1 i)) mine)
            (λ (t : (j ≢ id) × (get_elem? s.views j ≡ some u)). let ok = r.seat_ok j u t.1 in record {
              alive = ok.alive;
              idle = ok.idle;
              turn = λ k' x is. (let h = ok.turn k' x is in (
                h.0,
                at_put r.cells k c (λ (i : ℕ) (d : Where T). r.cells i ≡ out j x → d ≡ out j x) k'
                    (λ e q. others j x t.0 (ap r.cells (sym e) ∙ q)) (λ _ q. q) h.1,
              ));
              begun = begun_put r.cells k c u.slots longer ok.begun;
            }) (at_set s.views id j w u e);
        placed = λ j p in_range. at_put r.cells k c (λ (i : ℕ) (d : Where T). sum_by (λ (u : HandView T). times p (places u i))
            (set s.views id w) ≡ once_below p (length (past (value_of d)))) j
            (λ e. subst (λ (i : ℕ). sum_by (λ (u : HandView T). times p (places u i)) (set s.views id w) ≡ once_below p
            (length (past (value_of c)))) (sym e)
            (let t = sum_set (λ (u : HandView T). times p (places u k)) s.views id v w at in let a = r.placed k p near in let d =
            drawn p in omega arith))
            (λ apart. let t = sum_set (λ (u : HandView T). times p (places u j)) s.views id v w at in let a = r.placed j p in_range in
            let d : times p (places w j) ≡ times p (places v j) = ap (λ l. times p l) (undrawn j apart) in omega arith);
        long = λ j in_range. at_put r.cells k c (λ (i : ℕ) (d : Where T). sum_by (λ (u : HandView T). length (places u i))
            (set s.views id w) ≡ length (past (value_of d))) j
            (λ e. subst (λ (i : ℕ). sum_by (λ (u : HandView T). length (places u i)) (set s.views id w) ≡ length (past (value_of c)))
            (sym e)
            (let t = sum_set (λ (u : HandView T). length (places u k)) s.views id v w at in let a = r.long k near in omega arith))
            (λ apart. let t = sum_set (λ (u : HandView T). length (places u j)) s.views id v w at in let a = r.long j in_range in
            let d : length (places w j) ≡ length (places v j) = ap (λ (l : List ℕ). length l) (undrawn j apart) in omega arith);
      }
