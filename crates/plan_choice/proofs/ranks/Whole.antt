-- Step by step, and all calls together.
use Rattle.std.proofs.Common.{ℕ, suc, Bool, true, false, ◌==◌, ◌+◌, ◌≡◌, ◌≤◌, ◌<◌, ◌∙◌, List, [], ◌∷◌, ◌++◌, None, ap, arith, flat_map}
use Rattle.std.proofs.Common.{if◌then◌else◌, length, map, refl, subst, sym}
use Rattle.std.specs.Prelude.{sum_by}
use Rattle.std.proofs.lemmas.List.{map-append}
use Rattle.std.proofs.lemmas.List.Sums.{sum_by-cons}
use Rattle.coll_lang.specs.declared.choices.ChoiceKind.{ChoiceKind}
use Rattle.ptl_types.specs.declared.calls.Limits.{Limits}
use Rattle.ni_model.specs.Calls.{with_index}
use Rattle.ni_model.specs.State.{State}
use Rattle.plan_core.specs.Plan.{from_to}
use Rattle.rank_node.specs.Calls.{NewCounter}
use Rattle.rank_node.specs.Handles.{AreAllOf, Counted, Handles, no_handles, room_under}
use Rattle.plan_choice.specs.texts.machine.Choices.{choice_at}
use Rattle.plan_choice.specs.texts.view.Calls.{Call, install_calls, step_calls, word_calls}
use Rattle.plan_choice.specs.texts.view.Calls.Call.{CtAlloc, MeAppend, PtAlloc, Trigger}
use Rattle.plan_choice.specs.texts.view.Install.{RankOp, before, counters_in, limits_of, steps, things_in, rank_ops, works_of}
use Rattle.plan_choice.specs.texts.view.Install.Counter.{Done, Go}
use Rattle.plan_choice.proofs.texts.view.Stamps.{before-le}
use Rattle.plan_choice.proofs.texts.view.Unrefused.{before_le, counters_two, things_three}
use Rattle.plan_choice.specs.ranks.Given.{AreMade, HasRoom, IsWide, counters_by, descriptors_by}
use Rattle.plan_choice.proofs.ranks.Made.{made-both, made-counter}
use Rattle.plan_choice.proofs.ranks.Numbers.{counters_made, descriptors_made, entries_made, flat-more}

pub before-more : (many : ChoiceKind → ℕ) (ks : List ChoiceKind) (t : ℕ) → before many ks (t + 1) ≡ before many ks t + many (choice_at ks t)
before-more many ks t = ap (before many ks) (let e : t + 1 ≡ suc t = omega arith in e)

-- what is seen of an interface by its conditions stays
pub wide_on : (s t : State) → IsWide s → t.ranks ≡ s.ranks → t.limits ≡ s.limits → IsWide t
wide_on s t w e f = record {
  some = subst (λ n. 0 < n) (sym e) w.some;
  whole = subst (λ (x : Limits). 8 ≤ x.msg) (sym f) w.whole;
  fetches = subst (λ (x : Limits). 8 ≤ x.fetch_atomic) (sym f) w.fetches;
}

-- ---- the counters and descriptors of step t after those of the steps before it
module _ (ks : List ChoiceKind) (at_most : length ks ≤ 64) (s0 s : State) (a b : Handles) (t : ℕ) (two : length a.counters ≡ 2)
    (none : length a.descriptors ≡ 0) (room : HasRoom (flat_map (step_calls ks) (steps ks)) a)
    (made : AreMade ks (flat_map (step_calls ks) (from_to 0 t)) s0 s a b) where
  pub counters_now : length b.counters ≡ 2 + before counters_in ks t
  counters_now = let m = made.counters in let k = counters_made ks t in omega (arith, m, k, two)

  pub descriptors_now : length b.descriptors ≡ before things_in ks t
  descriptors_now = let m = made.descriptors in let k = descriptors_made ks t in omega (arith, m, k, none)

  pub room_counters : t < length ks → length b.counters + counters_in (choice_at ks t) ≤ b.room.counters
  room_counters h =
      let m = counters_now in
      let k = counters_made ks (length ks) in
      let r = room.counters in
      let e = ap (λ (v : Counted). v.counters) made.room in
      let l = before-le counters_in ks t (length ks) h in
      omega (arith, m, k, r, e, l, two)

  pub room_descriptors : t < length ks → length b.descriptors + things_in (choice_at ks t) ≤ b.room.descriptors
  room_descriptors h =
      let m = descriptors_now in
      let k = descriptors_made ks (length ks) in
      let r = room.descriptors in
      let e = ap (λ (v : Counted). v.descriptors) made.room in
      let l = before-le things_in ks t (length ks) h in
      omega (arith, m, k, r, e, l, none)

  pub made_more : (u : State) (c : Handles) → AreMade ks (step_calls ks t) s u b c
      → AreMade ks (flat_map (step_calls ks) (from_to 0 (t + 1))) s0 u a c
  made_more u c m =
      subst (λ calls. AreMade ks calls s0 u a c) (sym (flat-more (step_calls ks) t))
      (made-both ks (flat_map (step_calls ks) (from_to 0 t)) (step_calls ks t) s0 s u a b c made m)

pub counters_small : (ks : List ChoiceKind) (t : ℕ) → t < 64 → 2 + before counters_in ks t ≤ 130
counters_small ks t h = let l = before_le counters_in 2 counters_two ks t in omega (arith, l, h)

pub descriptors_small : (ks : List ChoiceKind) (t : ℕ) → t < 64 → before things_in ks t ≤ 192
descriptors_small ks t h = let l = before_le things_in 3 things_three ks t in omega (arith, l, h)

-- ---- the operations of step t after those of the steps before it
-- those of the first steps
abbrev pub works_until : List ChoiceKind → ℕ → List RankOp
works_until ks t = flat_map (λ s. works_of (choice_at ks s) s) (from_to 0 t)

pub posted_more : (ks : List ChoiceKind) (t : ℕ) (s0 s u : State) (hs : Handles) → AreMade ks (map Trigger (works_until ks t)) s0 s hs hs
    → AreMade ks (map Trigger (works_of (choice_at ks t) t)) s u hs hs → AreMade ks (map Trigger (works_until ks (t + 1))) s0 u hs hs
posted_more ks t s0 s u hs made m =
    subst (λ calls. AreMade ks calls s0 u hs hs)
    (sym (ap (map Trigger) (flat-more (λ s. works_of (choice_at ks s) s) t)
    ∙ map-append Trigger (works_until ks t) (works_of (choice_at ks t) t)))
    (made-both ks (map Trigger (works_until ks t)) (map Trigger (works_of (choice_at ks t) t)) s0 s u hs hs hs made m)

-- ---- the portal table index
pub made-index : (ks : List ChoiceKind) (s t : State) (hs : Handles) → t ≡ with_index 0 None s → AreAllOf s hs
    → AreMade ks (PtAlloc ∷ []) s t hs hs
made-index ks s t hs e all =
    subst (λ (v : State). AreMade ks (PtAlloc ∷ []) s v hs hs) (sym e) there
  where
    same : (n : ℕ) → n ≡ n + 0
    same n = omega arith

    there : AreMade ks (PtAlloc ∷ []) s (with_index 0 None s) hs hs
    there = record {
      state = λ k g. refl;
      kept = λ k g. g;
      all = record { counters = all.counters; entries = all.entries; descriptors = all.descriptors; live = all.live };
      counters = same (length hs.counters);
      entries = same (length hs.entries);
      descriptors = same (length hs.descriptors);
      room = refl;
      ranks = refl;
      limits = refl;
    }

-- ---- all calls
pub all_made : (ks : List ChoiceKind) (r : ℕ) (s0 s1 s2 s3 s4 s5 s6 : State) (h0 h1 h2 h3 h4 : Handles)
    → AreMade ks (PtAlloc ∷ []) s0 s1 h0 h0 → AreMade ks (CtAlloc Go ∷ []) s1 s2 h0 h1 → AreMade ks (CtAlloc Done ∷ []) s2 s3 h1 h2
    → AreMade ks (flat_map (step_calls ks) (steps ks)) s3 s4 h2 h3 → AreMade ks (word_calls ks r) s4 s5 h3 h4
    → AreMade ks (map Trigger (rank_ops ks)) s5 s6 h4 h4 → AreMade ks (install_calls ks r) s0 s6 h0 h4
all_made ks r s0 s1 s2 s3 s4 s5 s6 h0 h1 h2 h3 h4 a b c d e f =
    let es = flat_map (step_calls ks) (steps ks) in
    let fs = word_calls ks r ++ map Trigger (rank_ops ks) in
    made-both ks (PtAlloc ∷ []) (CtAlloc Go ∷ CtAlloc Done ∷ (es ++ fs)) s0 s1 s6 h0 h0 h4 a
    (made-both ks (CtAlloc Go ∷ []) (CtAlloc Done ∷ (es ++ fs)) s1 s2 s6 h0 h1 h4 b
    (made-both ks (CtAlloc Done ∷ []) (es ++ fs) s2 s3 s6 h1 h2 h4 c
    (made-both ks es fs s3 s4 s6 h2 h3 h4 d
    (made-both ks (word_calls ks r) (map Trigger (rank_ops ks)) s4 s5 s6 h3 h4 h4 e f))))

-- ---- words make no counting event and no descriptor
none_by : (f : Call → ℕ) → ((t : ℕ) → f (MeAppend t) ≡ 0) → (ts : List ℕ) → sum_by f (map MeAppend ts) ≡ 0
none_by f none [] = refl
none_by f none (t ∷ ts) =
    let e = sum_by-cons f (MeAppend t) (map MeAppend ts) in
    let z = none t in
    let rest = none_by f none ts in
    omega (arith, e, z, rest)

none_in_words : (f : Call → ℕ) → ((t : ℕ) → f (MeAppend t) ≡ 0) → (ks : List ChoiceKind) (r : ℕ) → sum_by f (word_calls ks r) ≡ 0
none_in_words f none ks r = at (r == 0)
  where
    at : (b : Bool) → sum_by f (if b then map MeAppend (steps ks) else []) ≡ 0
    at true = none_by f none (steps ks)
    at false = refl

-- ---- call by call
module _ (ks : List ChoiceKind) (s0 s1 s2 s3 : State) (h0 h1 h2 : Handles) (none : h0 ≡ no_handles (room_under (limits_of ks)))
    (all : AreAllOf s0 h0) (index : s1 ≡ with_index 0 None s0) where
  pub first_made : AreMade ks (PtAlloc ∷ []) s0 s1 h0 h0
  first_made = made-index ks s0 s1 h0 index all

  pub first_room : length h0.counters < h0.room.counters
  first_room =
      let a = ap (λ (h : Handles). length h.counters) none in
      let b = ap (λ (h : Handles). h.room.counters) none in
      omega (arith, a, b)

  module _ (go : NewCounter s1 s2 h0 h1) where
    pub go_made : AreMade ks (CtAlloc Go ∷ []) s1 s2 h0 h1
    go_made = made-counter ks Go s1 s2 h0 h1 go first_made.all

    pub go_room : length h1.counters < h1.room.counters
    go_room =
        let a = ap (λ (h : Handles). length h.counters) none in
        let b = ap (λ (h : Handles). h.room.counters) none in
        let m : length h1.counters ≡ length h0.counters + 1 = go_made.counters in
        let r = ap (λ (v : Counted). v.counters) go_made.room in
        omega (arith, a, b, m, r)

    module _ (done : NewCounter s2 s3 h1 h2) where
      pub done_made : AreMade ks (CtAlloc Done ∷ []) s2 s3 h1 h2
      done_made = made-counter ks Done s2 s3 h1 h2 done go_made.all

      pub two_made : length h2.counters ≡ 2
      two_made =
          let a = ap (λ (h : Handles). length h.counters) none in
          let m : length h1.counters ≡ length h0.counters + 1 = go_made.counters in
          let n : length h2.counters ≡ length h1.counters + 1 = done_made.counters in
          omega (arith, a, m, n)

      pub none_bound : length h2.descriptors ≡ 0
      none_bound =
          let a = ap (λ (h : Handles). length h.descriptors) none in
          let m : length h1.descriptors ≡ length h0.descriptors + 0 = go_made.descriptors in
          let n : length h2.descriptors ≡ length h1.descriptors + 0 = done_made.descriptors in
          omega (arith, a, m, n)

      none_linked : length h2.entries ≡ 0
      none_linked =
          let a = ap (λ (h : Handles). length h.entries) none in
          let m : length h1.entries ≡ length h0.entries + 0 = go_made.entries in
          let n : length h2.entries ≡ length h1.entries + 0 = done_made.entries in
          omega (arith, a, m, n)

      room_is : h2.room ≡ room_under (limits_of ks)
      room_is = done_made.room ∙ go_made.room ∙ ap (λ (h : Handles). h.room) none

      pub steps_room : HasRoom (flat_map (step_calls ks) (steps ks)) h2
      steps_room = record {
        counters =
            let a = two_made in
            let b = counters_made ks (length ks) in
            let c = before_le counters_in 2 counters_two ks (length ks) in
            let d = ap (λ (v : Counted). v.counters) room_is in
            omega (arith, a, b, c, d);
        entries =
            let a = none_linked in
            let b = entries_made ks (length ks) in
            omega (arith, a, b);
        descriptors =
            let a = none_bound in
            let b = descriptors_made ks (length ks) in
            let c = before_le things_in 3 things_three ks (length ks) in
            let d = ap (λ (v : Counted). v.descriptors) room_is in
            omega (arith, a, b, c, d);
      }

      module _ (s4 : State) (h3 : Handles) (stepped : AreMade ks (flat_map (step_calls ks) (steps ks)) s3 s4 h2 h3) where
        pub words_room : length h3.entries + length ks ≤ h3.room.entries
        words_room =
            let a = none_linked in
            let b = entries_made ks (length ks) in
            let m = stepped.entries in
            let d = ap (λ (v : Counted). v.entries) (stepped.room ∙ room_is) in
            omega (arith, a, b, m, d)

        module _ (r : ℕ) (s5 : State) (h4 : Handles) (worded : AreMade ks (word_calls ks r) s4 s5 h3 h4) where
          pub counters_all : length h4.counters ≡ 2 + before counters_in ks (length ks)
          counters_all =
              let a = two_made in
              let b = counters_made ks (length ks) in
              let m = stepped.counters in
              let n = worded.counters in
              let z = none_in_words counters_by (λ t. refl) ks r in
              omega (arith, a, b, m, n, z)

          pub descriptors_all : length h4.descriptors ≡ before things_in ks (length ks)
          descriptors_all =
              let a = none_bound in
              let b = descriptors_made ks (length ks) in
              let m = stepped.descriptors in
              let n = worded.descriptors in
              let z = none_in_words descriptors_by (λ t. refl) ks r in
              omega (arith, a, b, m, n, z)

          pub still_wide : IsWide s0 → IsWide s5
          still_wide w =
              wide_on s0 s5 w (worded.ranks ∙ stepped.ranks ∙ done_made.ranks ∙ go_made.ranks ∙ first_made.ranks)
              (worded.limits ∙ stepped.limits ∙ done_made.limits ∙ go_made.limits ∙ first_made.limits)
