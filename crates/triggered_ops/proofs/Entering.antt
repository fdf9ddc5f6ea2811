-- How operations come on their lists and off them, and which lists a counting event has.
use Rattle.std.proofs.Common.{◌≡◌, ◌≢◌, ℕ, zero, suc, ◌+◌, ◌*◌, ◌<◌, ◌≤◌, Bool, true, false, cond, nat_eq, List, [], ◌∷◌, ◌++◌, length, set}
use Rattle.std.proofs.Common.{replicate, Option, Some, None, refl, sym, ap, subst, ◌∙◌, inl, inr, arith, length-set}
use Rattle.std.specs.Prelude.{option_map, slice_get}
use Rattle.std.proofs.lemmas.Bool.{ne_eqb}
use Rattle.std.proofs.lemmas.Bool.Decides.{eqb_tells}
use Rattle.std.proofs.lemmas.List.{append_assoc, append-nil, length-replicate, get_or-set_same}
use Rattle.chain_list.proofs.threads.ThreadLemmas.{on_one}
use Rattle.ptl_types.specs.declared.handles.Handle.{Handle}
use Rattle.ptl_types.specs.Handles.{same_handle}
use Rattle.chain_list.specs.threads.Threads.{Woven, woven, thread, is_on, is_threaded, first_place, without_place, with_place, placed_after}
use Rattle.chain_list.specs.threads.Threads.{with_place_after}
use Rattle.triggered_ops.specs.declared.spots.Wait.{Wait}
use Rattle.triggered_ops.specs.Hung.{is_stamp, belongs, home, is_home, threshold_of, Ascending, IsHung, IsGap}
use Rattle.triggered_ops.proofs.Hanging.{on-either, on-here, on-one, first-none, asc-same, asc-above, asc-below, handle-same, belongs-same}
use Rattle.triggered_ops.proofs.Hanging.{home-due, home-waiting, home-stray, home-within, hung-home, home-hung, unhung, rehung, hung-same}
use Rattle.triggered_ops.proofs.Hanging.{put-middle}
use Rattle.triggered_ops.proofs.Moving.{home-back_waiting, home-back_due}
use Rattle.triggered_ops.proofs.Places.{with_due}

-- the first that stands on a list
pub split-first : (p : ℕ) (ps : List ℕ) → is_on p ps ≡ true → (before : List ℕ) × (behind : List ℕ) × (ps ≡ before ++ p ∷ behind) ×
    (is_on p before ≡ false)
split-first p [] on = cc
split-first p (q ∷ ps) on = elim (eqb_tells q p) [
  | inl same ↦ ([], ps, ap (λ i. i ∷ ps) same.1, refl)
  | inr other ↦ let r = split-first p ps (rw other.0 at on) in (q ∷ r.0, r.1, ap (λ l. q ∷ l) r.2, rw other.0 r.3)
]

module _ (at : ℕ → Option Wait) (w : Woven) (stamps : List ℕ) (h : IsHung at w stamps) where
  -- ---- one is hung
  module _ (p : ℕ) (x : Wait) (empty : at p ≡ None) (w2 : Woven) where
    -- the others of its slot wait on the same counting event
    other_waiting : (j : ℕ) → home stamps x.ct x.due ≡ 2 * j → j < length stamps → (q : ℕ) → is_on q (thread (2 * j + 1) w) ≡ true
        → (y : Wait) × (at q ≡ Some y) × (same_handle y.ct x.ct ≡ true) × (x.due ≡ true) × (y.due ≡ false)
    other_waiting j e lt q on =
        let y = hung-home at w stamps h (2 * j + 1) q on in
        let a = home-back_waiting stamps y.0.ct y.0.due j y.2 in
        let b = home-back_due stamps x.ct x.due j lt e in
        (y.0, y.1, belongs-same stamps y.0.ct x.ct a.0 b.0 (a.1 ∙ sym b.1), b.2, a.2)

    other_due : (j : ℕ) → home stamps x.ct x.due ≡ 2 * j + 1 → j < length stamps → (q : ℕ) → is_on q (thread (2 * j) w) ≡ true
        → (y : Wait) × (at q ≡ Some y) × (same_handle y.ct x.ct ≡ true) × (x.due ≡ false) × (y.due ≡ true)
    other_due j e lt q on =
        let y = hung-home at w stamps h (2 * j) q on in
        let a = home-back_due stamps y.0.ct y.0.due j lt y.2 in
        let b = home-back_waiting stamps x.ct x.due j e in
        (y.0, y.1, belongs-same stamps y.0.ct x.ct a.0 b.0 (a.1 ∙ sym b.1), b.2, a.2)

    pub entered : (k : ℕ) (b : Option ℕ) → k ≡ home stamps x.ct x.due → IsGap at x.threshold b (thread k w) → w2 ≡ with_place_after k b p w
        → ((q : ℕ) (y : Wait) → at q ≡ Some y → same_handle y.ct x.ct ≡ true → x.due ≡ true → y.due ≡ false → x.threshold ≤ y.threshold)
        → ((q : ℕ) (y : Wait) → at q ≡ Some y → same_handle y.ct x.ct ≡ true → x.due ≡ false → y.due ≡ true → y.threshold ≤ x.threshold)
        → IsHung (λ q. cond (nat_eq q p) (Some x) (at q)) w2 stamps
    entered k b kh g is low high =
        rehung at w stamps h k p x g.before g.behind w2 kh empty (ap (λ (v : Woven). v.threads) is ∙ ap (set w.threads k) (g.put p)) g.is
        (record {
          due_below = λ j ej lt q on. g.below q on;
          due_above = λ j ej lt q on. elim (on-either q g.behind (thread (2 * j + 1) w) on) [
            | inl here ↦ g.above q here
            | inr there ↦
                let y = other_waiting j (sym kh ∙ ej) lt q there in
                let le = low q y.0 y.1 y.2 y.3 y.4 in
                let t : threshold_of (at q) ≡ y.0.threshold = ap threshold_of y.1 in
                omega (arith, le, t)
          ];
          waiting_below = λ j ej lt q on. elim (on-either q (thread (2 * j) w) g.before on) [
            | inl there ↦
                let y = other_due j (sym kh ∙ ej) lt q there in
                let le = high q y.0 y.1 y.2 y.3 y.4 in
                let t : threshold_of (at q) ≡ y.0.threshold = ap threshold_of y.1 in
                omega (arith, le, t)
            | inr here ↦ g.below q here
          ];
          waiting_above = λ j ej lt q on. g.above q on;
        })

    pub entered-stray : (k : ℕ) → belongs stamps x.ct ≡ false → k ≡ home stamps x.ct x.due → w2 ≡ with_place k p w →
        IsHung (λ q. cond (nat_eq q p) (Some x) (at q)) w2 stamps
    entered-stray k b kh is =
        let last : k ≡ 2 * length stamps = kh ∙ home-stray stamps x.ct x.due b in
        rehung at w stamps h k p x (thread k w) [] w2 kh empty (ap (λ (v : Woven). v.threads) is) (sym (append-nil (thread k w))) (record {
          due_below = λ j ej lt q on. absurd (omega (arith, ej, lt, last));
          due_above = λ j ej lt q on. absurd (omega (arith, ej, lt, last));
          waiting_below = λ j ej lt q on. absurd (omega (arith, ej, lt, last));
          waiting_above = λ j ej lt q on. absurd (omega (arith, ej, lt, last));
        })

  -- ---- one is carried to another place
  pub carried : (from to : ℕ) (x : Wait) (k : ℕ) (new : ℕ → Option Wait) (w1 w2 : Woven) → from ≢ to → at from ≡ Some x → at to ≡ None →
      k ≡ home stamps x.ct x.due → w1 ≡ with_place_after k (Some from) to w → w2 ≡ without_place from w1
      → ((q : ℕ) → new q ≡ cond (nat_eq q to) (at from) (cond (nat_eq q from) (at to) (at q))) → IsHung new w2 stamps
  carried from to x k new w1 w2 apart some none kh is1 is2 n =
      let on = home-hung at w stamps h k from x some (sym kh) in
      let s = split-first from (thread k w) on in
      let before = s.0 in
      let behind = s.1 in
      let front = before ++ from ∷ [] in
      let split : thread k w ≡ front ++ behind = s.2 ∙ sym (append_assoc before (from ∷ []) behind) in
      let put : placed_after (Some from) to (thread k w) ≡ front ++ to ∷ behind = ap (placed_after (Some from) to) s.2
      ∙ put-middle before from to behind s.3 ∙ sym (append_assoc before (from ∷ []) (to ∷ behind)) in
      let here : threshold_of (at from) ≡ x.threshold = ap threshold_of some in
      let first : (j : ℕ) → k ≡ 2 * j → j < length stamps → Ascending at (before ++ from ∷ (behind ++ thread (2 * j + 1) w)) =
      λ j ej lt. subst (Ascending at) (ap (λ l. l ++ thread (2 * j + 1) w) (ap (λ i. thread i w) (sym ej) ∙ s.2)
      ∙ append_assoc before (from ∷ behind) (thread (2 * j + 1) w)) (h.ordered j lt) in
      let second : (j : ℕ) → k ≡ 2 * j + 1 → j < length stamps → Ascending at ((thread (2 * j) w ++ before) ++ from ∷ behind) =
      λ j ej lt. subst (Ascending at) (ap (λ l. thread (2 * j) w ++ l) (ap (λ i. thread i w) (sym ej) ∙ s.2)
      ∙ sym (append_assoc (thread (2 * j) w) before (from ∷ behind))) (h.ordered j lt) in
      let low_of : (xs : List ℕ) (q : ℕ) → ((r : ℕ) → is_on r xs ≡ true → threshold_of (at r) ≤ threshold_of (at from)) →
      is_on q (xs ++ from ∷ []) ≡ true → threshold_of (at q) ≤ x.threshold =
      λ xs q below on. elim (on-either q xs (from ∷ []) on) [
        | inl there ↦ let le = below q there in omega (arith, le, here)
        | inr last ↦ let same = on-one q from last in let t : threshold_of (at q) ≡ threshold_of (at from) =
            ap (λ i. threshold_of (at i)) (sym same) in omega (arith, t, here)
      ] in
      let both = rehung at w stamps h k to x front behind w1 kh none (ap (λ (v : Woven). v.threads) is1 ∙ ap (set w.threads k) put) split
      (record {
        due_below = λ j ej lt q on. low_of before q (asc-below at before from (behind ++ thread (2 * j + 1) w) (first j ej lt)) on;
        due_above = λ j ej lt q on. let le = asc-above at before from (behind ++ thread (2 * j + 1) w) (first j ej lt) q on in
            omega (arith, le, here);
        waiting_below = λ j ej lt q on. low_of (thread (2 * j) w ++ before) q
            (asc-below at (thread (2 * j) w ++ before) from behind (second j ej lt))
            (ap (is_on q) (append_assoc (thread (2 * j) w) before (from ∷ [])) ∙ on);
        waiting_above = λ j ej lt q on. let le = asc-above at (thread (2 * j) w ++ before) from behind (second j ej lt) q on in
            omega (arith, le, here);
      }) in
      let off = unhung (λ q. cond (nat_eq q to) (Some x) (at q)) w1 stamps both from in
      hung-same (λ q. cond (nat_eq q from) None (cond (nat_eq q to) (Some x) (at q))) new w2 stamps
      (λ q. n q ∙ elim (eqb_tells q to) [
        | inl a ↦ let no : nat_eq q from ≡ false = ne_eqb q from (λ e. apart (sym e ∙ a.1)) in rw (a.0, no) some
        | inr a ↦ elim (eqb_tells q from) [
          | inl b ↦ rw (a.0, b.0) none
          | inr b ↦ rw (a.0, b.0) refl
        ]
      ])
      (subst (λ v. IsHung (λ q. cond (nat_eq q from) None (cond (nat_eq q to) (Some x) (at q))) v stamps) (sym is2) off)

  -- ---- those whose counting event has no lists
  pub on-strays : (ct : Handle) → belongs stamps ct ≡ false → (p : ℕ) (x : Wait) → at p ≡ Some x → same_handle x.ct ct ≡ true →
      is_on p (thread (2 * length stamps) w) ≡ true
  on-strays ct b p x f is = home-hung at w stamps h (2 * length stamps) p x f (ap (λ c. home stamps c x.due) (handle-same x.ct ct is)
      ∙ home-stray stamps ct x.due b)

  pub no-stray : (ct : Handle) → belongs stamps ct ≡ false → first_place (thread (2 * length stamps) w) ≡ None → (p : ℕ) (x : Wait) →
      at p ≡ Some x → same_handle x.ct ct ≡ true → ⊥
  no-stray ct b e p x f is =
      let none : is_on p [] ≡ true = subst (λ l. is_on p l ≡ true) (first-none (thread (2 * length stamps) w) e) (on-strays ct b p x f is)
      in
      cc

  pub stray-noted : (ct : Handle) (p : ℕ) (x : Wait) (v : Bool) (new : ℕ → Option Wait) → belongs stamps ct ≡ false → at p ≡ Some x →
      same_handle x.ct ct ≡ true
      → ((q : ℕ) → new q ≡ cond (nat_eq q p) (option_map (with_due v) (at q)) (at q)) → IsHung new w stamps
  stray-noted ct p x v new b e is n =
      let away : belongs stamps x.ct ≡ false = ap (belongs stamps) (handle-same x.ct ct is) ∙ b in
      let homes : home stamps x.ct v ≡ home stamps x.ct x.due = home-stray stamps x.ct v away ∙ sym (home-stray stamps x.ct x.due away) in
      let same : (q k : ℕ) → is_home stamps k (at q) ≡ is_home stamps k (new q) =
      λ q k. sym (ap (is_home stamps k) (n q) ∙ elim (eqb_tells q p) [
        | inl a ↦ let here : at q ≡ Some x = ap at a.1 ∙ e in rw (a.0, here) (ap (λ i. nat_eq i k) homes)
        | inr a ↦ rw a.0 refl
      ]) in
      let thresholds : (q : ℕ) → threshold_of (new q) ≡ threshold_of (at q) = λ q. ap threshold_of (n q) ∙ elim (eqb_tells q p) [
        | inl a ↦ let here : at q ≡ Some x = ap at a.1 ∙ e in rw (a.0, here) refl
        | inr a ↦ rw a.0 refl
      ] in
      record {
        many = h.many;
        hung = λ k q. h.hung k q ∙ same q k;
        ordered = λ j lt. asc-same at new (thread (2 * j) w ++ thread (2 * j + 1) w) (λ q on. thresholds q) (h.ordered j lt);
      }

  -- ---- the lists of a slot are given to another counting event
  get-set_other : (xs : List ℕ) (i k v : ℕ) → k ≢ i → slice_get (set xs i v) k ≡ slice_get xs k
  get-set_other [] i k v n = refl
  get-set_other (x ∷ xs) zero zero v n = absurd (n refl)
  get-set_other (x ∷ xs) zero (suc k) v n = refl
  get-set_other (x ∷ xs) (suc i) zero v n = refl
  get-set_other (x ∷ xs) (suc i) (suc k) v n = get-set_other xs i k v (λ e. n (ap (λ j. suc j) e))

  pub adopted : (s v : ℕ) → s < length stamps → first_place (thread (2 * length stamps) w) ≡ None →
      first_place (thread (2 * s) w) ≡ None → first_place (thread (2 * s + 1) w) ≡ None → IsHung at w (set stamps s v)
  adopted s v lt strays due waiting =
      let new = set stamps s v in
      let long = length-set stamps s v in
      let nowhere : (k p : ℕ) (x : Wait) → first_place (thread k w) ≡ None → at p ≡ Some x → home stamps x.ct x.due ≡ k → ⊥ =
      λ k p x e f is. let on : is_on p [] ≡ true = subst (λ l. is_on p l ≡ true) (first-none (thread k w) e)
      (home-hung at w stamps h k p x f is) in cc in
      let kept : (p : ℕ) (x : Wait) → at p ≡ Some x → home new x.ct x.due ≡ home stamps x.ct x.due =
      λ p x f. elim (belongs stamps x.ct) as (λ b. belongs stamps x.ct ≡ b → home new x.ct x.due ≡ home stamps x.ct x.due) [
        | true ↦ λ is.
            let other : x.ct.slot ≢ s = λ e. elim x.due as (λ d. x.due ≡ d → ⊥) [
              | true ↦ λ d. nowhere (2 * s) p x due f (ap (home stamps x.ct) d ∙ home-due stamps x.ct is ∙ ap (λ i. 2 * i) e)
              | false ↦ λ d. nowhere (2 * s + 1) p x waiting f (ap (home stamps x.ct) d ∙ home-waiting stamps x.ct is
                  ∙ ap (λ i. 2 * i + 1) e)
            ] refl in
            let same : belongs new x.ct ≡ belongs stamps x.ct = ap (λ o. is_stamp o x.ct.stamp) (get-set_other stamps s x.ct.slot v other)
            in
            (λ i. cond (same i) (2 * x.ct.slot + cond x.due 0 1) (2 * long i))
        | false ↦ λ is. absurd (nowhere (2 * length stamps) p x strays f (home-stray stamps x.ct x.due is))
      ] refl in
      let same : (k p : ℕ) (o : Option Wait) → at p ≡ o → is_home stamps k o ≡ is_home new k o =
      λ k p o. elim o as (λ o. at p ≡ o → is_home stamps k o ≡ is_home new k o) [
        | None ↦ λ f. refl
        | Some x ↦ λ f. ap (λ i. nat_eq i k) (sym (kept p x f))
      ] in
      record {
        many = omega (arith, h.many, long);
        hung = λ k p. h.hung k p ∙ same k p (at p) refl;
        ordered = λ j l. h.ordered j (omega (arith, l, long));
      }

-- ---- nothing hangs at first
thread-none : (n k : ℕ) (places : ℕ) → thread k (woven (replicate n []) places) ≡ []
thread-none zero k places = refl
thread-none (suc n) zero places = refl
thread-none (suc n) (suc k) places = thread-none n k places

pub none-hung : (w : Woven) (stamps : List ℕ) (n places : ℕ) → w ≡ woven (replicate n []) places → n ≡ 2 * length stamps + 1 →
    IsHung (λ q. None) w stamps
none-hung w stamps n places is long = subst (λ v. IsHung (λ q. None) v stamps) (sym is) (record {
  many = length-replicate n [] ∙ long;
  hung = λ k p. ap (is_on p) (thread-none n k places);
  ordered = λ j lt. subst (Ascending (λ q. None)) (λ i. sym (thread-none n (2 * j) places) i ++ sym (thread-none n (2 * j + 1) places) i)
      tt;
})

-- a place before which another is put stays on its list
pub entered-threaded : (at : ℕ → Option Wait) (w : Woven) (stamps : List ℕ) → IsHung at w stamps → (from to : ℕ) (x : Wait) (k : ℕ) →
    at from ≡ Some x → k ≡ home stamps x.ct x.due
    → is_threaded from (with_place_after k (Some from) to w) ≡ true
entered-threaded at w stamps h from to x k some kh =
    let on = home-hung at w stamps h k from x some (sym kh) in
    let lt : k < length w.threads = let l = home-within stamps x.ct x.due in omega (arith, l, kh, h.many) in
    let s = split-first from (thread k w) on in
    let put : placed_after (Some from) to (thread k w) ≡ s.0 ++ from ∷ to ∷ s.1 = ap (placed_after (Some from) to) s.2
    ∙ put-middle s.0 from to s.1 s.3 in
    let here : thread k (with_place_after k (Some from) to w) ≡ placed_after (Some from) to (thread k w) =
    get_or-set_same w.threads k (placed_after (Some from) to (thread k w)) [] lt in
    on_one from (set w.threads k (placed_after (Some from) to (thread k w))) k (ap (is_on from) (here ∙ put) ∙ on-here from s.0 (to ∷ s.1))
