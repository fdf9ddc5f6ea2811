-- What a hand keeps stays so at each step.
use Rattle.std.proofs.Common.{◌≡◌, ℕ, zero, suc, ◌+◌, ◌-◌, ◌≤◌, ◌<◌, List, [], ◌∷◌, length, replicate, get_or, set, sym, refl, ap, ◌∙◌}
use Rattle.std.proofs.Common.{subst, arith, Some, None}
use mathlib.Core.Option.{some}
use mathlib.Core.List.{IsPrefix}
use lib.ListN.{get_elem?}
use Rattle.std.specs.Prelude.{Option}
use Rattle.atomic_table.specs.Seated.{TableId}
use Rattle.atomic_table.specs.Table.{Me}
use Rattle.turn_table.specs.declared.views.HandView.{HandView}
use Rattle.turn_table.specs.Views.{adjusted, open_turn, places, busier_slot, after_busy, after_take, after_turn, after_give, after_split}
use Rattle.turn_table.specs.Views.{all_unseen}
use Rattle.turn_table.specs.States.{TableState, HandState, carried_for, HandKeeps}
use Rattle.turn_table.specs.Hands.{IsFree, IsFreeSeat, LastTurn}
use Rattle.turn_table.proofs.Sums.{adjusted_length}
use Rattle.turn_table.proofs.Whole.{unseen_length}
use Rattle.turn_table.proofs.Counting.{counts_busy, counts_hold, counts_same, counts_give, counts_none}

module _ {T I : Type 0} (past : T → List I) where
  abbrev M : Type 0
  M = Me (Option T) (HandView T)

  module _ (n : ℕ) (me : M) (room : List T) (capacity : ℕ) (made seen : List ℕ) (found : ℕ)
      (h : HandKeeps past n me room capacity made seen found) where
    pub keeps_busy : (k n' : ℕ) (me' : M) → me.0.turn ≡ None → me' ≡ (after_busy me.0 k, me.1) → n' ≡ n →
        HandKeeps past n' me' room capacity made seen found
    keeps_busy k n' me' idle is same = subst (λ (y : ℕ × M). HandKeeps past y.0 y.1 room capacity made seen found)
        (λ i. (sym same i, sym is i)) record {
          alive = h.alive;
          slots = adjusted_length me.0.slots k busier_slot ∙ h.slots;
          start = h.start;
          carried = h.carried;
          empty = h.empty;
          roomy = h.roomy;
          counts = counts_busy past made seen n found me.0 k idle h.counts;
        }

    pub keeps_take : (k n' : ℕ) (x : T) (me' : M) (found' : ℕ) → k < n → found' ≡ length (past x) →
        length (places me.0 k) ≤ length (past x) → me'.0 ≡ after_take me.0 k x → me'.1 ≡ (k, None) ∷ [] → n' ≡ n
        → HandKeeps past n' me' room capacity made seen found'
    keeps_take k n' x me' found' near long at_most is carried same =
        subst (λ (y : ℕ × M). HandKeeps past y.0 y.1 room capacity made seen found') (λ i. (sym same i, (sym is i, sym carried i))) record {
          alive = h.alive;
          slots = h.slots;
          start = h.start;
          carried = refl;
          empty = h.empty;
          roomy = h.roomy;
          counts = counts_hold past made seen n found me.0 k x found' near long at_most h.counts;
        }

    pub keeps_give : (k n' : ℕ) (x y : T) (me' : M) (made' seen' : List ℕ) → me.0.turn ≡ Some (open_turn k x) →
        IsPrefix (past x) (past y) → me'.0 ≡ after_give past me.0 k x y → me'.1 ≡ [] → n' ≡ n
        → made' ≡ set made k (get_or made k 0 + (length (past y) - found)) → seen' ≡ set seen k (length (past y)) →
        HandKeeps past n' me' room capacity made' seen' found
    keeps_give k n' x y me' made' seen' turn begins is carried same made_is seen_is =
        subst (λ (z : ℕ × M × List ℕ × List ℕ). HandKeeps past z.0 z.1 room capacity z.2 z.3 found)
        (λ i. (sym same i, (sym is i, sym carried i), sym made_is i, sym seen_is i)) record {
          alive = h.alive;
          slots = adjusted_length me.0.slots k (after_turn past x y) ∙ h.slots;
          start = h.start;
          carried = refl;
          empty = h.empty;
          roomy = h.roomy;
          counts = counts_give past made seen n found me.0 k x y (length (past y) - found) turn begins (h.counts.found_is k x turn).0
              (sym h.slots) refl h.counts;
        }

    pub keeps_split : (n' : ℕ) (me' : M) → 1 < me.0.parts → me' ≡ (after_split me.0, me.1) → n' ≡ n →
        HandKeeps past n' me' room capacity made seen found
    keeps_split n' me' two is same = subst (λ (y : ℕ × M). HandKeeps past y.0 y.1 room capacity made seen found)
        (λ i. (sym same i, sym is i)) record {
          alive = omega arith;
          slots = h.slots;
          start = h.start;
          carried = h.carried;
          empty = h.empty;
          roomy = h.roomy;
          counts = counts_same past made seen n found me.0 (after_split me.0) refl refl h.counts;
        }

    -- the seat of a hand that has no turn
    pub free_seat : (t : TableState T) (hand : HandState T) (table : TableId) → IsFree t hand →
        record { table = table; knows = me.0 } ≡ hand → IsFreeSeat t table me
    free_seat t hand table free is = let started = ap (λ (u : HandState T). u.knows.start) is ∙ free.0.1 in let idle =
        ap (λ (u : HandState T).
        u.knows.turn) is ∙ free.1 in record {
          table_is = ap (λ (u : HandState T). u.table) is ∙ free.0.0;
          alive = h.alive;
          idle = idle;
          slots = h.slots ∙ (sym h.start ∙ ap (λ (l : List T). length l) started);
          start = started;
          carries = h.carried ∙ ap carried_for idle;
        }

  -- a new hand keeps it
  pub keeps_new : (n : ℕ) (me : M) (start : List T) (room : List T) (capacity : ℕ) (made seen : List ℕ) → 0 < me.0.parts →
      me.0.turn ≡ None → me.0.slots ≡ all_unseen start → me.0.start ≡ start → me.1 ≡ [] → length start ≡ n
      → room ≡ [] → n ≤ capacity → made ≡ replicate n 0 → seen ≡ replicate n 0 → HandKeeps past n me room capacity made seen 0
  keeps_new n me start room capacity made seen alive idle slots started none long empty roomy made_is seen_is = record {
    alive = alive;
    slots = ap (λ l. length l) slots ∙ (unseen_length start ∙ long);
    start = ap (λ (l : List T). length l) started ∙ long;
    carried = none ∙ sym (ap carried_for idle);
    empty = empty;
    roomy = roomy;
    counts = counts_none past made seen n me.0 start made_is seen_is slots idle;
  }

adjusted_here : {A : Type 0} (l : List A) (k : ℕ) (f : A → A) → k < length l → (a : A) × (get_elem? (adjusted l k f) k ≡ some (f a))
adjusted_here [] k f h = absurd (omega arith)
adjusted_here (x ∷ l) zero f h = (x, refl)
adjusted_here (x ∷ l) (suc k) f h = adjusted_here l k f (omega arith)

-- a turn that is given back is the last one
pub gives_last : {T I M : Type 0} (past : T → List I) (note : T → M) (v : HandView T) (k : ℕ) (x y : T) (w : HandView T) →
    k < length v.slots → w ≡ after_give past v k x y → LastTurn past note w k (past x, note x) (past y, note y)
gives_last past note v k x y w near is = let a = adjusted_here v.slots k (after_turn past x y) near in record {
  slot = after_turn past x y a.0;
  slot_is = ap (λ u. get_elem? u.slots k) is ∙ a.1;
  turn_is = refl;
}
