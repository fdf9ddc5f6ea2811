-- What a hand counts stays so at each step.
use Rattle.std.proofs.Common.{◌≡◌, ◌≢◌, ℕ, zero, suc, ◌+◌, ◌-◌, ◌≤◌, ◌<◌, List, [], ◌∷◌, replicate, length, get_or, set, sym, refl, ap, ◌∙◌}
use Rattle.std.proofs.Common.{subst, arith, length-set, length-append, get_or-set_same, get_or-set_other, Some, None}
use mathlib.Core.List.{IsPrefix}
use mathlib.Core.Logic.{dite}
use native.Mathlib.Decide.{ℕ_discrete}
use Rattle.std.proofs.lemmas.List.{length-replicate}
use Rattle.turn_table.specs.declared.views.OpenTurn.{OpenTurn}
use Rattle.turn_table.specs.declared.views.SlotView.{SlotView}
use Rattle.turn_table.specs.declared.views.HandView.{HandView}
use Rattle.turn_table.specs.Views.{adjusted, numbers_from, places_in, places, after_busy, busier_slot, after_take, after_turn, after_give}
use Rattle.turn_table.specs.Views.{all_unseen, open_turn, seen_in}
use Rattle.turn_table.specs.States.{Counts}
use Rattle.turn_table.proofs.Steps.{some_held, none_held, places_busier, places_after_turn, places_beside, longer_length}
use Rattle.turn_table.proofs.Whole.{unseen_places, zeros}

numbers_from_length : (a d : ℕ) → length (numbers_from a d) ≡ d
numbers_from_length a zero = refl
numbers_from_length a (suc d) = ap suc (numbers_from_length (suc a) d)

pub or_same : (l : List ℕ) (k d e : ℕ) → k < length l → get_or l k d ≡ get_or l k e
or_same [] k d e h = absurd (omega arith)
or_same (x ∷ l) zero d e h = refl
or_same (x ∷ l) (suc k) d e h = or_same l k d e (omega arith)

module _ {T I : Type 0} (past : T → List I) where
  seen_busier : (l : List (SlotView T)) (k j : ℕ) → seen_in past (adjusted l k busier_slot) j ≡ seen_in past l j
  seen_busier [] k j = refl
  seen_busier (x ∷ xs) zero zero = refl
  seen_busier (x ∷ xs) zero (suc j) = refl
  seen_busier (x ∷ xs) (suc k) zero = refl
  seen_busier (x ∷ xs) (suc k) (suc j) = seen_busier xs k j

  seen_after_turn : (l : List (SlotView T)) (k : ℕ) (x y : T) → k < length l → seen_in past (adjusted l k (after_turn past x y)) k
      ≡ length (past y)
  seen_after_turn [] k x y near = absurd (omega arith)
  seen_after_turn (a ∷ l) zero x y near = refl
  seen_after_turn (a ∷ l) (suc k) x y near = seen_after_turn l k x y (omega arith)

  seen_beside : (l : List (SlotView T)) (k j : ℕ) (x y : T) → j ≢ k → seen_in past (adjusted l k (after_turn past x y)) j ≡ seen_in past l j
  seen_beside [] k j x y n = refl
  seen_beside (a ∷ l) zero zero x y n = absurd (n refl)
  seen_beside (a ∷ l) zero (suc j) x y n = refl
  seen_beside (a ∷ l) (suc k) zero x y n = refl
  seen_beside (a ∷ l) (suc k) (suc j) x y n = seen_beside l k j x y (λ e. n (ap suc e))

  seen_unseen : (l : List T) (k : ℕ) → seen_in past (all_unseen l) k ≡ 0
  seen_unseen [] k = refl
  seen_unseen (x ∷ l) zero = refl
  seen_unseen (x ∷ l) (suc k) = seen_unseen l k

  module _ (made seen : List ℕ) (n : ℕ) where
    pub counts_busy : (found : ℕ) (v : HandView T) (k : ℕ) → v.turn ≡ None → Counts past made seen found v n →
        Counts past made seen found (after_busy v k) n
    counts_busy found v k idle c = record {
      made_long = c.made_long;
      seen_long = c.seen_long;
      made_is = λ j near. c.made_is j near ∙ ap (λ (l : List ℕ). length l) (sym (places_busier v.slots k j));
      seen_is = λ j near. c.seen_is j near ∙ sym (seen_busier v.slots k j);
      found_is = λ j x e. absurd (none_held (open_turn j x) (sym idle ∙ e));
    }

    pub counts_hold : (found : ℕ) (v : HandView T) (k : ℕ) (x : T) (found' : ℕ) → k < n → found' ≡ length (past x) →
        length (places v k) ≤ length (past x) → Counts past made seen found v n → Counts past made seen found' (after_take v k x) n
    counts_hold found v k x found' near is at_most c = record {
      made_long = c.made_long;
      seen_long = c.seen_long;
      made_is = c.made_is;
      seen_is = c.seen_is;
      found_is = λ j y e. (let h = some_held (open_turn k x) (open_turn j y) e in
          subst (λ (d : OpenTurn T). (d.slot < n) × (found' ≡ length (past d.value)) × (length (places v d.slot) ≤ length (past d.value)))
          h (near, is, at_most));
    }

    pub counts_same : (found : ℕ) (v u : HandView T) → u.slots ≡ v.slots → u.turn ≡ v.turn → Counts past made seen found v n →
        Counts past made seen found u n
    counts_same found v u slots turn c = record {
      made_long = c.made_long;
      seen_long = c.seen_long;
      made_is = λ j near. c.made_is j near ∙ ap (λ (l : List (SlotView T)). length (places_in l j)) (sym slots);
      seen_is = λ j near. c.seen_is j near ∙ ap (λ (l : List (SlotView T)). seen_in past l j) (sym slots);
      found_is = λ j x e. (let h = c.found_is j x (sym turn ∙ e) in
          (h.0, h.1, subst (λ (l : List (SlotView T)). length (places_in l j) ≤ length (past x)) (sym slots) h.2));
    }

    pub counts_give : (found : ℕ) (v : HandView T) (k : ℕ) (x y : T) (more : ℕ) → v.turn ≡ Some (open_turn k x) →
        IsPrefix (past x) (past y) → k < n → n ≡ length v.slots → more ≡ length (past y) - found
        → Counts past made seen found v n → Counts past (set made k (get_or made k 0 + more)) (set seen k (length (past y))) found
        (after_give past v k x y) n
    counts_give found v k x y more turn begins near sized is c =
        let f = (c.found_is k x turn).1 in let grows = longer_length past (λ (t : T). t) [] (past x) (past y) begins in
        let a = ap (λ (l : List ℕ). length l) (places_after_turn past (λ (t : T). t) [] v.slots k x y (omega arith)) in let b =
        length-append (places v k) (numbers_from (length (past x)) (length (past y) - length (past x))) in
        let d = numbers_from_length (length (past x)) (length (past y) - length (past x)) in let m = c.made_is k near in let ml =
        c.made_long in let sl = c.seen_long in record {
          made_long = length-set made k (get_or made k 0 + more) ∙ c.made_long;
          seen_long = length-set seen k (length (past y)) ∙ c.seen_long;
          made_is = λ j at. dite (ℕ_discrete j k)
              (λ e. subst (λ (i : ℕ). get_or (set made k (get_or made k 0 + more)) i 0 ≡ length (places (after_give past v k x y) i))
              (sym e) (get_or-set_same made k (get_or made k 0 + more) 0 (omega arith) ∙ omega arith))
              (λ apart. get_or-set_other made k j (get_or made k 0 + more) 0 apart
              ∙ (c.made_is j at ∙ ap (λ (l : List ℕ). length l) (sym (places_beside past (λ (t : T). t) [] v.slots k j x y apart))));
          seen_is = λ j at. dite (ℕ_discrete j k)
              (λ e. subst (λ (i : ℕ). get_or (set seen k (length (past y))) i 0 ≡ seen_in past (after_give past v k x y).slots i) (sym e)
              (get_or-set_same seen k (length (past y)) 0 (omega arith) ∙ sym (seen_after_turn v.slots k x y (omega arith))))
              (λ apart. get_or-set_other seen k j (length (past y)) 0 apart ∙ (c.seen_is j at ∙ sym (seen_beside v.slots k j x y apart)));
          found_is = λ j z e. absurd (none_held (open_turn j z) e);
        }

  -- a new hand has count_tells nothing
  pub counts_none : (made seen : List ℕ) (n : ℕ) (v : HandView T) (l : List T) → made ≡ replicate n 0 → seen ≡ replicate n 0 →
      v.slots ≡ all_unseen l → v.turn ≡ None → Counts past made seen 0 v n
  counts_none made seen n v l m s slots idle = record {
    made_long = ap (λ (q : List ℕ). length q) m ∙ length-replicate n 0;
    seen_long = ap (λ (q : List ℕ). length q) s ∙ length-replicate n 0;
    made_is = λ j near. ap (λ (q : List ℕ). get_or q j 0) m ∙ (zeros n j
        ∙ sym (ap (λ (q : List (SlotView T)). length (places_in q j)) slots ∙ ap (λ (q : List ℕ). length q) (unseen_places l j)));
    seen_is = λ j near. ap (λ (q : List ℕ). get_or q j 0) s ∙ (zeros n j
        ∙ sym (ap (λ (q : List (SlotView T)). seen_in past q j) slots ∙ seen_unseen l j));
    found_is = λ j x e. absurd (none_held (open_turn j x) (sym idle ∙ e));
  }
