-- What is known of the lists of a counting event, and what moving an operation between them keeps.
use Rattle.std.proofs.Common.{◌≡◌, ℕ, ◌+◌, ◌*◌, ◌<◌, ◌≤◌, Bool, true, false, cond, nat_eq, ◌||◌, List, [], ◌∷◌, ◌++◌, length, Option, Some}
use Rattle.std.proofs.Common.{None, refl, sym, ap, subst, ◌∙◌, inl, inr, arith}
use Rattle.std.specs.Prelude.{IfSome, is_some, option_map}
use Rattle.std.proofs.lemmas.Bool.{eq-eqb}
use Rattle.std.proofs.lemmas.Bool.Decides.{eqb_tells}
use Rattle.std.proofs.lemmas.List.{append_assoc, append-nil}
use Rattle.ptl_types.specs.declared.handles.Handle.{Handle}
use Rattle.ptl_types.specs.Handles.{same_handle}
use Rattle.chain_list.specs.threads.Threads.{Woven, thread, is_on, is_threaded, first_place, last_place, without, without_place, with_place}
use Rattle.chain_list.specs.threads.Threads.{with_place_after}
use Rattle.chain_list.proofs.threads.ThreadLemmas.{on_one, off_all}
use Rattle.triggered_ops.specs.declared.spots.Wait.{Wait}
use Rattle.triggered_ops.specs.Hung.{belongs, home, threshold_of, Ascending, IsHung, WaitsOn}
use Rattle.triggered_ops.proofs.Hanging.{on-either, on-here, on-one, left-on, first-cons, first-none, last-snoc, last-none, asc-left}
use Rattle.triggered_ops.proofs.Hanging.{asc-right, asc-above, asc-below, thread-without, handle-same, belongs-within, belongs-same}
use Rattle.triggered_ops.proofs.Hanging.{home-due, home-waiting, home-within, hung-home, home-hung, none-on, unhung, rehung, hung-same}
use Rattle.triggered_ops.proofs.Places.{with_due, waits-is, is-waits}

-- ---- which list says what
module _ (stamps : List ℕ) (c : Handle) (d : Bool) (s : ℕ) where
  pub home-back_waiting : home stamps c d ≡ 2 * s + 1 → (belongs stamps c ≡ true) × (c.slot ≡ s) × (d ≡ false)
  home-back_waiting e = elim (belongs stamps c) as (λ b. belongs stamps c ≡ b → cond b (2 * c.slot + cond d 0 1) (2 * length stamps) ≡ 2 *
      s + 1 → (belongs stamps c ≡ true) × (c.slot ≡ s) × (d ≡ false)) [
        | true ↦ λ is f. elim d as (λ v. 2 * c.slot + cond v 0 1 ≡ 2 * s + 1 → (belongs stamps c ≡ true) × (c.slot ≡ s) × (v ≡ false)) [
          | true ↦ λ g. absurd (omega (arith, g))
          | false ↦ λ g. (is, omega (arith, g), refl)
        ] f
        | false ↦ λ is f. absurd (omega (arith, f))
      ] refl e

  pub home-back_due : s < length stamps → home stamps c d ≡ 2 * s → (belongs stamps c ≡ true) × (c.slot ≡ s) × (d ≡ true)
  home-back_due lt e = elim (belongs stamps c) as (λ b. belongs stamps c ≡ b → cond b (2 * c.slot + cond d 0 1) (2 * length stamps) ≡ 2 *
      s → (belongs stamps c ≡ true) × (c.slot ≡ s) × (d ≡ true)) [
        | true ↦ λ is f. elim d as (λ v. 2 * c.slot + cond v 0 1 ≡ 2 * s → (belongs stamps c ≡ true) × (c.slot ≡ s) × (v ≡ true)) [
          | true ↦ λ g. (is, omega (arith, g), refl)
          | false ↦ λ g. absurd (omega (arith, g))
        ] f
        | false ↦ λ is f. absurd (omega (arith, f, lt))
      ] refl e

module _ (at : ℕ → Option Wait) (w : Woven) (stamps : List ℕ) (h : IsHung at w stamps) where
  pub waits-on : (k p : ℕ) → is_on p (thread k w) ≡ true → is_some (at p) ≡ true
  waits-on k p on = let x = hung-home at w stamps h k p on in ap is_some x.1

  pub on-first : (k p : ℕ) → first_place (thread k w) ≡ Some p → is_on p (thread k w) ≡ true
  on-first k p e = let f = first-cons (thread k w) p e in ap (is_on p) f.1 ∙ ap (λ b. b || is_on p f.0) (eq-eqb p p refl)

  pub on-last : (k p : ℕ) → last_place (thread k w) ≡ Some p → is_on p (thread k w) ≡ true
  on-last k p e = let f = last-snoc (thread k w) p e in ap (is_on p) f.1 ∙ on-here p f.0 []

  pub threaded : (k p : ℕ) → is_on p (thread k w) ≡ true → is_threaded p w ≡ true
  threaded k p on = on_one p w.threads k on

  pub threaded-at : (p : ℕ) → is_some (at p) ≡ true → is_threaded p w ≡ true
  threaded-at p e = go (at p) refl e
    where
      go : (o : Option Wait) → at p ≡ o → is_some o ≡ true → is_threaded p w ≡ true
      go None e is = cc
      go (Some x) e is = threaded (home stamps x.ct x.due) p (home-hung at w stamps h (home stamps x.ct x.due) p x e refl)

  pub not-threaded : (p : ℕ) → at p ≡ None → is_threaded p w ≡ false
  not-threaded p e = off_all p w.threads (λ j lt. none-on at w stamps h j p e)

  pub home-thread : (ct : Handle) (due : Bool) → home stamps ct due < length w.threads
  home-thread ct due = let lt = home-within stamps ct due in omega (arith, lt, h.many)

  -- ---- those of a counting event that has lists
  module _ (ct : Handle) (b : belongs stamps ct ≡ true) where
    abbrev waiting : List ℕ
    waiting = thread (2 * ct.slot + 1) w

    abbrev due : List ℕ
    due = thread (2 * ct.slot) w

    waiting_home : (x : Wait) → same_handle x.ct ct ≡ true → x.due ≡ false → home stamps x.ct x.due ≡ 2 * ct.slot + 1
    waiting_home x is d = (λ i. home stamps (handle-same x.ct ct is i) (d i)) ∙ home-waiting stamps ct b

    due_home : (x : Wait) → same_handle x.ct ct ≡ true → x.due ≡ true → home stamps x.ct x.due ≡ 2 * ct.slot
    due_home x is d = (λ i. home stamps (handle-same x.ct ct is i) (d i)) ∙ home-due stamps ct b

    pub on-waiting : (p : ℕ) (x : Wait) → at p ≡ Some x → same_handle x.ct ct ≡ true → x.due ≡ false → is_on p waiting ≡ true
    on-waiting p x e is d = home-hung at w stamps h (2 * ct.slot + 1) p x e (waiting_home x is d)

    pub on-due : (p : ℕ) (x : Wait) → at p ≡ Some x → same_handle x.ct ct ≡ true → x.due ≡ true → is_on p due ≡ true
    on-due p x e is d = home-hung at w stamps h (2 * ct.slot) p x e (due_home x is d)

    pub first-waits : (p : ℕ) → first_place waiting ≡ Some p → (x : Wait) × (at p ≡ Some x) × (same_handle x.ct ct ≡ true)
    first-waits p e =
        let x = hung-home at w stamps h (2 * ct.slot + 1) p (on-first (2 * ct.slot + 1) p e) in
        let back = home-back_waiting stamps x.0.ct x.0.due ct.slot x.2 in
        (x.0, x.1, belongs-same stamps x.0.ct ct back.0 b back.1)

    pub last-waits : (p : ℕ) → last_place due ≡ Some p → (x : Wait) × (at p ≡ Some x) × (same_handle x.ct ct ≡ true)
    last-waits p e =
        let x = hung-home at w stamps h (2 * ct.slot) p (on-last (2 * ct.slot) p e) in
        let back = home-back_due stamps x.0.ct x.0.due ct.slot (belongs-within stamps ct b) x.2 in
        (x.0, x.1, belongs-same stamps x.0.ct ct back.0 b back.1)

    sorted : Ascending at (due ++ waiting)
    sorted = h.ordered ct.slot (belongs-within stamps ct b)

    -- each of its lists is in order
    pub home-ordered : (d : Bool) → Ascending at (thread (home stamps ct d) w)
    home-ordered d = elim d as (λ d. Ascending at (thread (home stamps ct d) w)) [
      | true ↦ subst (λ k. Ascending at (thread k w)) (sym (home-due stamps ct b)) (asc-left at due waiting sorted)
      | false ↦ subst (λ k. Ascending at (thread k w)) (sym (home-waiting stamps ct b)) (asc-right at due waiting sorted)
    ]

    pub none-waiting : first_place waiting ≡ None → (p : ℕ) (x : Wait) → at p ≡ Some x → same_handle x.ct ct ≡ true → x.due ≡ false → ⊥
    none-waiting e p x f is d = let on : is_on p [] ≡ true = subst (λ l. is_on p l ≡ true) (first-none waiting e) (on-waiting p x f is d)
        in cc

    pub none-due : last_place due ≡ None → (p : ℕ) (x : Wait) → at p ≡ Some x → same_handle x.ct ct ≡ true → x.due ≡ true → ⊥
    none-due e p x f is d = let on : is_on p [] ≡ true = subst (λ l. is_on p l ≡ true) (last-none due e) (on-due p x f is d) in cc

    pub first-high : (q sum : ℕ) → first_place waiting ≡ Some q → sum < threshold_of (at q) → (p : ℕ) (x : Wait) → at p ≡ Some x →
        same_handle x.ct ct ≡ true → x.due ≡ false → sum < x.threshold
    first-high q sum e lt p x f is d =
        let c = first-cons waiting q e in
        let on : is_on p (q ∷ c.0) ≡ true = subst (λ l. is_on p l ≡ true) c.1 (on-waiting p x f is d) in
        let asc : Ascending at (q ∷ c.0) = subst (Ascending at) c.1 (asc-right at due waiting sorted) in
        let here : threshold_of (at p) ≡ x.threshold = ap threshold_of f in
        elim (on-either p (q ∷ []) c.0 on) [
          | inl first ↦ let same = on-one p q first in let t : threshold_of (at q) ≡ threshold_of (at p) =
              ap (λ i. threshold_of (at i)) same in omega (arith, lt, here, t)
          | inr later ↦ let le = asc.0 p later in omega (arith, lt, here, le)
        ]

    pub last-low : (q sum : ℕ) → last_place due ≡ Some q → threshold_of (at q) ≤ sum → (p : ℕ) (x : Wait) → at p ≡ Some x →
        same_handle x.ct ct ≡ true → x.due ≡ true → x.threshold ≤ sum
    last-low q sum e le p x f is d =
        let c = last-snoc due q e in
        let on : is_on p (c.0 ++ q ∷ []) ≡ true = subst (λ l. is_on p l ≡ true) c.1 (on-due p x f is d) in
        let asc : Ascending at (c.0 ++ q ∷ []) = subst (Ascending at) c.1 (asc-left at due waiting sorted) in
        let here : threshold_of (at p) ≡ x.threshold = ap threshold_of f in
        elim (on-either p c.0 (q ∷ []) on) [
          | inl before ↦ let b = asc-below at c.0 q [] asc p before in omega (arith, le, here, b)
          | inr last ↦ let same = on-one p q last in let t : threshold_of (at q) ≡ threshold_of (at p) =
              ap (λ i. threshold_of (at i)) same in omega (arith, le, here, t)
        ]

    -- the first of a list waits on it
    pub first-of_waiting : (o : Option ℕ) → o ≡ first_place waiting → IfSome o (λ p. WaitsOn ct (at p))
    first-of_waiting None e = tt
    first-of_waiting (Some p) e = let x = first-waits p (sym e) in is-waits ct (at p) x.0 x.1 x.2

    pub first-of_due : (o : Option ℕ) → o ≡ first_place due → IfSome o (λ p. WaitsOn ct (at p))
    first-of_due None e = tt
    first-of_due (Some p) e =
        let x = hung-home at w stamps h (2 * ct.slot) p (on-first (2 * ct.slot) p (sym e)) in
        let back = home-back_due stamps x.0.ct x.0.due ct.slot (belongs-within stamps ct b) x.2 in
        is-waits ct (at p) x.0 x.1 (belongs-same stamps x.0.ct ct back.0 b back.1)

    -- and where both are empty none does
    pub none-on_lists : first_place waiting ≡ None → first_place due ≡ None → (p : ℕ) → WaitsOn ct (at p) → ⊥
    none-on_lists e f p on =
        let x = waits-is ct (at p) on in
        elim x.0.due as (λ d. x.0.due ≡ d → ⊥) [
          | true ↦ λ d. let there : is_on p [] ≡ true = subst (λ l. is_on p l ≡ true) (first-none due f) (on-due p x.0 x.1 x.2 d) in cc
          | false ↦ λ d. none-waiting e p x.0 x.1 x.2 d
        ] refl

    -- ---- one is moved
    module _ (p : ℕ) where
      abbrev off : ℕ → Option Wait
      off q = cond (nat_eq q p) None (at q)

      abbrev left : Woven
      left = without_place p w

      hung_left : IsHung off left stamps
      hung_left = unhung at w stamps h p

      empty : off p ≡ None
      empty = ap (λ v. cond v None (at p)) (eq-eqb p p refl)

      same_off : (q : ℕ) → nat_eq q p ≡ false → threshold_of (off q) ≡ threshold_of (at q)
      same_off q e = ap (λ v. threshold_of (cond v None (at q))) e

      pub left-free : is_threaded p left ≡ false
      left-free = off_all p left.threads (λ j lt. none-on off left stamps hung_left j p empty)

      moved_at : (v : Bool) (x : Wait) (new : ℕ → Option Wait) → at p ≡ Some x →
          ((q : ℕ) → new q ≡ cond (nat_eq q p) (option_map (with_due v) (at q)) (at q))
          → (q : ℕ) → new q ≡ cond (nat_eq q p) (Some (with_due v x)) (off q)
      moved_at v x new e n q = n q ∙ elim (eqb_tells q p) [
        | inl same ↦ let here : at q ≡ Some x = ap at same.1 ∙ e in rw (same.0, here) refl
        | inr other ↦ rw other.0 refl
      ]

      pub made-due : first_place waiting ≡ Some p → (new : ℕ → Option Wait) (w2 : Woven) →
          ((q : ℕ) → new q ≡ cond (nat_eq q p) (option_map (with_due true) (at q)) (at q))
          → w2 ≡ with_place (2 * ct.slot) p left → IsHung new w2 stamps
      made-due e new w2 n is =
          let x = hung-home at w stamps h (2 * ct.slot + 1) p (on-first (2 * ct.slot + 1) p e) in
          let back = home-back_waiting stamps x.0.ct x.0.due ct.slot x.2 in
          let k = 2 * ct.slot in
          let c = first-cons waiting p e in
          let asc : Ascending at (due ++ p ∷ c.0) = subst (λ l. Ascending at (due ++ l)) c.1 sorted in
          let here : threshold_of (at p) ≡ x.0.threshold = ap threshold_of x.1 in
          hung-same (λ q. cond (nat_eq q p) (Some (with_due true x.0)) (off q)) new w2 stamps (moved_at true x.0 new x.1 n)
          (rehung off left stamps hung_left k p (with_due true x.0) (thread k left) [] w2
          (sym (home-due stamps x.0.ct back.0 ∙ ap (λ s. 2 * s) back.1)) empty (ap (λ (v : Woven). v.threads) is)
          (sym (append-nil (thread k left))) (record {
            due_below = λ j ej lt q on.
                let was = left-on q p due (subst (λ l. is_on q l ≡ true) (thread-without k p w) on) in
                let le = asc-below at due p c.0 asc q was.1 in
                let s = same_off q was.0 in
                omega (arith, le, here, s);
            due_above = λ j ej lt q on.
                let sj : j ≡ ct.slot = omega (arith, ej) in
                let there : is_on q (without p waiting) ≡ true =
                subst (λ l. is_on q l ≡ true) (ap (λ i. thread (2 * i + 1) left) sj ∙ thread-without (2 * ct.slot + 1) p w) on in
                let was = left-on q p waiting there in
                let le = asc-above at due p c.0 asc q (elim (on-either q (p ∷ []) c.0 (subst (λ l. is_on q l ≡ true) c.1 was.1)) [
                  | inl first ↦ let same = on-one q p first in let no : nat_eq q p ≡ true = eq-eqb q p (sym same) in
                      let f : true ≡ false = sym no ∙ was.0 in cc
                  | inr later ↦ later
                ]) in
                let s = same_off q was.0 in
                omega (arith, le, here, s);
            waiting_below = λ j ej lt q on. absurd (omega (arith, ej));
            waiting_above = λ j ej lt q on. absurd (omega (arith, ej));
          }))

      pub made-undue : last_place due ≡ Some p → (new : ℕ → Option Wait) (w2 : Woven) →
          ((q : ℕ) → new q ≡ cond (nat_eq q p) (option_map (with_due false) (at q)) (at q))
          → w2 ≡ with_place_after (2 * ct.slot + 1) None p left → IsHung new w2 stamps
      made-undue e new w2 n is =
          let x = hung-home at w stamps h (2 * ct.slot) p (on-last (2 * ct.slot) p e) in
          let back = home-back_due stamps x.0.ct x.0.due ct.slot (belongs-within stamps ct b) x.2 in
          let k = 2 * ct.slot + 1 in
          let c = last-snoc due p e in
          let asc : Ascending at (c.0 ++ p ∷ waiting) = subst (Ascending at) (ap (λ l. l ++ waiting) c.1
          ∙ append_assoc c.0 (p ∷ []) waiting) sorted in
          let here : threshold_of (at p) ≡ x.0.threshold = ap threshold_of x.1 in
          hung-same (λ q. cond (nat_eq q p) (Some (with_due false x.0)) (off q)) new w2 stamps (moved_at false x.0 new x.1 n)
          (rehung off left stamps hung_left k p (with_due false x.0) [] (thread k left) w2
          (sym (home-waiting stamps x.0.ct back.0 ∙ ap (λ s. 2 * s + 1) back.1)) empty (ap (λ (v : Woven). v.threads) is) refl (record {
            due_below = λ j ej lt q on. absurd (omega (arith, ej));
            due_above = λ j ej lt q on. absurd (omega (arith, ej));
            waiting_below = λ j ej lt q on.
                let sj : j ≡ ct.slot = omega (arith, ej) in
                let there : is_on q (without p due) ≡ true =
                subst (λ l. is_on q l ≡ true) (append-nil (thread (2 * j) left) ∙ ap (λ i. thread (2 * i) left) sj
                ∙ thread-without (2 * ct.slot) p w) on in
                let was = left-on q p due there in
                let le = asc-below at c.0 p waiting asc q (elim (on-either q c.0 (p ∷ []) (subst (λ l. is_on q l ≡ true) c.1 was.1)) [
                  | inl before ↦ before
                  | inr last ↦ let same = on-one q p last in let no : nat_eq q p ≡ true = eq-eqb q p (sym same) in let f : true ≡ false =
                      sym no ∙ was.0 in cc
                ]) in
                let s = same_off q was.0 in
                omega (arith, le, here, s);
            waiting_above = λ j ej lt q on.
                let was = left-on q p waiting (subst (λ l. is_on q l ≡ true) (thread-without k p w) on) in
                let le = asc-above at c.0 p waiting asc q was.1 in
                let s = same_off q was.0 in
                omega (arith, le, here, s);
          }))
