-- None of the calls that install a choice text is refused.
use Rattle.std.proofs.Common.{ℕ, zero, suc, Bool, true, false, not, ◌&&◌, ◌||◌, ◌+◌, ◌-◌, ◌*◌, ◌^◌, ◌≡◌, ◌≤◌, ◌<◌, ◌==◌, nat_le, List, []}
use Rattle.std.proofs.Common.{◌∷◌, ◌++◌, refl, length, map, ap, ap₂, ◌∙◌, sym, subst, inl, inr, arith, Some, None, le-leb, is_some, suc-mul}
use Rattle.std.proofs.Common.{add-zero, append-nil, lit≤, flat_map, length-append, if◌then◌else◌}
use Rattle.std.specs.Prelude.{sum_by}
use Rattle.std.proofs.lemmas.Bool.{leb-true, false_from_ne_true}
use Rattle.std.proofs.lemmas.List.{length-map, map-append}
use Rattle.std.proofs.lemmas.List.Sums.{sum_by-cons}
use Rattle.ptl_types.specs.declared.calls.NiFault.{NiFault}
use Rattle.ptl_types.specs.declared.calls.NiFault.TheVariants.{Stale, NoSpace, OutOfRegion, CountFull}
use Rattle.ptl_types.specs.declared.calls.TriggeredOp.{TriggeredOp}
use Rattle.ptl_types.specs.Handles.{top}
use Rattle.ni_model.specs.declared.Linked.{Linked}
use Rattle.ni_model.specs.Tables.{is_live_or_none, lookup}
use Rattle.ni_model.specs.Append.{append_fault, is_within, need}
use Rattle.ni_model.specs.Counts.{successes}
use Rattle.ni_model.specs.Lists.{entries_in}
use Rattle.ni_model.specs.Calls.{with_counter}
use Rattle.ni_model.specs.Conditions.{MayStart}
use Rattle.ni_model.specs.Refusals.{alloc_fault, bind_fault, counts_on_live, action_fits, action_is_live, action_passes, holds_part}
use Rattle.ni_model.specs.Refusals.{pt_alloc_fault, triggered_fault}
use Rattle.ni_model.specs.State.{State, opened, parts_of as target_parts, side_of}
use Rattle.plan_core.specs.Members.{In}
use Rattle.plan_core.specs.Plan.{from_to}
use Rattle.plan_core.proofs.Lists.{In-append_right, In-append_cases}
use Rattle.coll_lang.specs.declared.choices.ChoiceKind.{ChoiceKind}
use Rattle.plan_choice.specs.texts.machine.Choices.{choice_at}
use Rattle.coll_lang.specs.declared.choices.ChoiceKind.TheVariants.{Elect, Tickets}
use Rattle.plan_choice.proofs.texts.machine.Words.{length-from_to}
use Rattle.plan_choice.specs.texts.view.Install.{Counter, Part, Slots, RankOp, before, counters, counters_in, counters_of, ct_of, ct_stamp}
use Rattle.plan_choice.specs.texts.view.Install.{action_of}
use Rattle.plan_choice.specs.texts.view.Install.{descriptor_of, entries_of, entry_of, first_action, limits_of, md_of, md_stamp, number_of}
use Rattle.plan_choice.specs.texts.view.Install.{operation}
use Rattle.plan_choice.specs.texts.view.Install.{part_start, parts, parts_of, result_counter, step_bytes, steps, things_in, word_entry}
use Rattle.plan_choice.specs.texts.view.Install.{work_counter}
use Rattle.plan_choice.specs.texts.view.Install.{rank_ops, works_of}
use Rattle.plan_choice.specs.texts.view.Install.Counter.{Done, First, Go}
use Rattle.plan_choice.specs.texts.view.Install.Part.{Given, Old, Result}
use Rattle.plan_choice.specs.texts.view.Install.RankOp.{Look, Send, ForDone}
use Rattle.plan_choice.specs.texts.view.Calls.{no_seat}
use Rattle.plan_choice.proofs.texts.view.Folds.{counters_all, entered, entries_all, fresh, indexed, made_all, made_part, operations_all}
use Rattle.plan_choice.proofs.texts.view.Folds.{parts_all}
use Rattle.plan_choice.specs.texts.view.Install.{view}
use Rattle.plan_choice.proofs.texts.view.Named.{flat-In, lookup_named}
use Rattle.plan_choice.proofs.texts.view.Memory.{inside_step}
use Rattle.plan_choice.proofs.texts.view.StepStart.{length-step}
use Rattle.plan_choice.proofs.texts.view.StepFire.{lookup_ct, lookup_md}
use Rattle.plan_choice.proofs.texts.view.Stamps.{IsCounter, IsWork, In-done, In-given, In-old, In-result, In-work_counter, ct_one}
use Rattle.plan_choice.proofs.texts.view.Stamps.{rank_ops-In}
use Rattle.plan_choice.proofs.texts.view.Installed.{Runs, Runs-left, after_counters, after_entries, after_made, after_operations}
use Rattle.plan_choice.proofs.texts.view.Installed.{after_parts}
use Rattle.plan_choice.proofs.texts.view.Installed.{all_counters_run, all_parts_run, all_works_run, bare, counters_long, counters_run}
use Rattle.plan_choice.proofs.texts.view.Installed.{cts_with}
use Rattle.plan_choice.proofs.texts.view.Installed.{entered_is, made_is, mds_with, new_counter, new_part, parts_long, parts_run, steps_run}
use Rattle.plan_choice.proofs.texts.view.Installed.{tables_with, works_long}

-- ---- small facts
above : (n m : ℕ) → n < m → nat_le m n ≡ false
above n m h = false_from_ne_true _ (λ e. let l = leb-true _ _ e in absurd (omega arith))

room : (limit n given : ℕ) → n < limit → given < top → not (nat_le limit n || nat_le top given) ≡ true
room limit n given h k = ap₂ (λ x y. not (x || y)) (above n limit h) (above given top k)

need2 : (a b : Bool) (x y : NiFault) → a ≡ true → b ≡ true → need a x (need b y None) ≡ None
need2 true true x y e f = refl
need2 true false x y e f = cc
need2 false b x y e f = cc

need3 : (a b c : Bool) (x y z : NiFault) → a ≡ true → b ≡ true → c ≡ true → need a x (need b y (need c z None)) ≡ None
need3 true b c x y z e f g = need2 b c y z f g
need3 false b c x y z e f g = cc

need4 : (a b c d : Bool) (w x y z : NiFault) → a ≡ true → b ≡ true → c ≡ true → d ≡ true
    → need a w (need b x (need c y (need d z None))) ≡ None
need4 true b c d w x y z e f g h = need3 b c d x y z f g h
need4 false b c d w x y z e f g h = cc

length-split : {X : Type 0} (front : List X) (x : X) (back : List X) → length front < length (front ++ x ∷ back)
length-split [] x back = omega arith
length-split (y ∷ front) x back = let q = length-split front x back in omega arith

pub In-split : {X : Type 0} (front : List X) (x : X) (back : List X) → In x (front ++ x ∷ back)
In-split [] x back = inl refl
In-split (y ∷ front) x back = inr (In-split front x back)

-- ---- how many things the steps before one have
pub counters_two : (k : ChoiceKind) → counters_in k ≤ 2
counters_two Elect = omega arith
counters_two Tickets = omega arith

pub things_three : (k : ChoiceKind) → things_in k ≤ 3
things_three Elect = omega arith
things_three Tickets = omega arith

pub before_le : (many : ChoiceKind → ℕ) (n : ℕ) → ((k : ChoiceKind) → many k ≤ n) → (ks : List ChoiceKind) (t : ℕ)
    → before many ks t ≤ t * n
before_le many n h ks zero = omega arith
before_le many n h ks (suc t) =
    let a = before_le many n h ks t in
    let b = h (choice_at ks t) in
    let c : suc t * n ≡ t * n + n = suc-mul t n in
    omega (arith, a, b, c)

flat_long : {X : Type 0} (many : ChoiceKind → ℕ) (ks : List ChoiceKind) (g : ℕ → List X) → ((t : ℕ) → length (g t) ≡ many (choice_at ks t))
    → (a n : ℕ) → before many ks a + length (flat_map g (from_to a n)) ≡ before many ks (a + n)
flat_long many ks g h a zero = let q : a + 0 ≡ a = omega arith in add-zero (before many ks a) ∙ ap (before many ks) (sym q)
flat_long many ks g h a (suc n) =
    let l = length-append (g a) (flat_map g (from_to (suc a) n)) in
    let m = h a in
    let rest = flat_long many ks g h (suc a) n in
    let q : suc a + n ≡ a + suc n = omega arith in
    let e = ap (before many ks) q in
    omega (arith, l, m, rest, e)

module _ (k : Slots) (ranks : ℕ) (ks : List ChoiceKind) (r : ℕ) (at_most : 3 * length ks < 2 ^ 32 - 1) where
  -- ---- the first calls
  pub index_made : pt_alloc_fault 0 None (side_of (opened r ranks (limits_of ks) (flat_map (step_bytes ks r (no_seat ks r)) (steps ks))))
      (opened r ranks (limits_of ks) (flat_map (step_bytes ks r (no_seat ks r)) (steps ks))).eqs ≡ None
  index_made = refl

  pub go_made : alloc_fault (indexed ranks ks r).cts ≡ None
  go_made = ap (λ b. need b NoSpace None) (room (2 * length ks + 2) 0 0 (omega arith) (omega arith))

  pub done_made : alloc_fault (with_counter (k.ct 0) (indexed ranks ks r)).cts ≡ None
  done_made = ap (λ b. need b NoSpace None) (room (2 * length ks + 2) 1 (0 + 1) (omega arith) (omega arith))

  -- ---- the counters and descriptors of step t
  module _ (t : ℕ) (h : t < length ks) where
    -- those of the steps before
    abbrev pub counters_before : List Counter
    counters_before = flat_map (λ s. counters_of (choice_at ks s) s) (from_to 0 t)

    abbrev pub parts_before : List Part
    parts_before = flat_map (λ s. parts_of (choice_at ks s) s) (from_to 0 t)

    counters_long_before : length counters_before ≡ before counters_in ks t
    counters_long_before = let a =
        flat_long counters_in ks (λ s. counters_of (choice_at ks s) s) (λ s. counters_long ks (choice_at ks s) s) 0 t in let q : 0 + t ≡ t =
        omega arith in let e = ap (before counters_in ks) q in omega (arith, a, e)

    parts_long_before : length parts_before ≡ before things_in ks t
    parts_long_before = let a = flat_long things_in ks (λ s. parts_of (choice_at ks s) s) (λ s. parts_long ks (choice_at ks s) s) 0 t in
        let q : 0 + t ≡ t = omega arith in let e = ap (before things_in ks) q in omega (arith, a, e)

    -- the state after them
    abbrev pub made_before : State
    made_before = tables_with (fresh k ranks ks r) (map (new_counter k ks) (Go ∷ Done ∷ counters_before)) (2 + length counters_before)
        (map (new_part k ks) parts_before) (0 + length parts_before)

    made_before_is : made_all k ks (from_to 0 t) (fresh k ranks ks r) ≡ made_before
    made_before_is = after_made k ks (from_to 0 t) (fresh k ranks ks r) (all_counters_run ks 0 t) (all_parts_run ks 0 t)

    -- some counters of this step more
    counters_here : (cs back : List Counter) → cs ++ back ≡ counters_of (choice_at ks t) t
        → counters_all k cs made_before
        ≡ cts_with made_before (map (new_counter k ks) (Go ∷ Done ∷ counters_before) ++ map (new_counter k ks) cs)
        (2 + length counters_before + length cs)
    counters_here cs back e =
        after_counters k ks cs made_before
        (Runs-left (ct_stamp ks) (2 + length counters_before) cs back
        (subst (λ v. Runs (ct_stamp ks) v (cs ++ back)) (ap (λ n. 2 + n) (sym counters_long_before))
        (subst (Runs (ct_stamp ks) (2 + before counters_in ks t)) (sym e) (counters_run ks (choice_at ks t) t refl))))

    pub counter_made : (cs : List Counter) (c : Counter) (back : List Counter) → cs ++ c ∷ back ≡ counters_of (choice_at ks t) t
        → alloc_fault (made_part k ks t cs [] (fresh k ranks ks r)).cts ≡ None
    counter_made cs c back e =
        ap (λ (s : State). alloc_fault s.cts) (ap (counters_all k cs) made_before_is ∙ counters_here cs (c ∷ back) e)
        ∙ ap (λ b. need b NoSpace None)
        (room (2 * length ks + 2) (length (map (new_counter k ks) (Go ∷ Done ∷ counters_before) ++ map (new_counter k ks) cs))
        (2 + length counters_before + length cs) (omega (arith, live, total)) (omega (arith, total)))
      where
        live : length (map (new_counter k ks) (Go ∷ Done ∷ counters_before) ++ map (new_counter k ks) cs)
            ≡ 2 + length counters_before + length cs
        live =
            let a = length-append (map (new_counter k ks) (Go ∷ Done ∷ counters_before)) (map (new_counter k ks) cs) in
            let b = length-map (Go ∷ Done ∷ counters_before) (new_counter k ks) in
            let d = length-map cs (new_counter k ks) in
            omega (arith, a, b, d)

        total : 2 + length counters_before + length cs < 2 * length ks + 2
        total =
            let a = length-split cs c back in
            let b = ap length e in
            let d = counters_long ks (choice_at ks t) t in
            let f = counters_two (choice_at ks t) in
            let g = before_le counters_in 2 counters_two ks t in
            let l = counters_long_before in
            omega (arith, a, b, d, f, g, l)

    -- all counters of this step
    abbrev pub here_counters : List Counter
    here_counters = counters_of (choice_at ks t) t

    abbrev pub counted_here : State
    counted_here = cts_with made_before (map (new_counter k ks) (Go ∷ Done ∷ counters_before) ++ map (new_counter k ks) here_counters)
        (2 + length counters_before + length here_counters)

    -- and some descriptors more
    parts_here : (xs back : List Part) → xs ++ back ≡ parts_of (choice_at ks t) t
        → made_part k ks t here_counters xs (fresh k ranks ks r)
        ≡ mds_with counted_here (map (new_part k ks) parts_before ++ map (new_part k ks) xs) (0 + length parts_before + length xs)
    parts_here xs back e =
        ap (λ s. parts_all k ks xs (counters_all k here_counters s)) made_before_is
        ∙ ap (parts_all k ks xs) (counters_here here_counters [] (append-nil here_counters))
        ∙ after_parts k ks xs counted_here
        (Runs-left (md_stamp ks) (0 + length parts_before) xs back
        (subst (λ v. Runs (md_stamp ks) v (xs ++ back))
        (let l = parts_long_before in let q : before things_in ks t ≡ 0 + length parts_before = omega (arith, l) in q)
        (subst (Runs (md_stamp ks) (before things_in ks t)) (sym e) (parts_run ks (choice_at ks t) t refl))))

    -- a counter of this step is live by then
    counter_fits : (c : Counter) (s : ℕ) (x : ChoiceKind) → choice_at ks s ≡ x → In c (counters_of x s) → IsCounter ks c
    counter_fits c s Elect e (inl i) = subst (IsCounter ks) i tt
    counter_fits c s Elect e (inr (inl i)) = subst (IsCounter ks) i e
    counter_fits c s Elect e (inr (inr i)) = absurd i
    counter_fits c s Tickets e (inl i) = subst (IsCounter ks) i tt
    counter_fits c s Tickets e (inr i) = absurd i

    so_far_fits : (c : Counter) → In c ((Go ∷ Done ∷ counters_before) ++ here_counters) → IsCounter ks c
    so_far_fits c (inl i) = subst (IsCounter ks) i tt
    so_far_fits c (inr (inl i)) = subst (IsCounter ks) i tt
    so_far_fits c (inr (inr i)) = elim (In-append_cases c counters_before here_counters i) [
      | inl j ↦ (let q = flat-In (λ s. counters_of (choice_at ks s) s) c (from_to 0 t) j in counter_fits c q.0 (choice_at ks q.0) refl q.2)
      | inr j ↦ counter_fits c t (choice_at ks t) refl j
    ]

    live_here : (c : Counter) → In c here_counters → is_some (lookup (ct_of k ks c) counted_here.cts.live) ≡ true
    live_here c i =
        let j : In c ((Go ∷ Done ∷ counters_before) ++ here_counters) = In-append_right c (Go ∷ Done ∷ counters_before) here_counters i in
        ap (λ xs. is_some (lookup (ct_of k ks c) xs)) (sym (map-append (new_counter k ks) (Go ∷ Done ∷ counters_before) here_counters))
        ∙ ap is_some (lookup_named k.ct (ct_stamp ks) (λ d. successes 0) ((Go ∷ Done ∷ counters_before) ++ here_counters) c j
        (λ d l e. ct_one ks d c (so_far_fits d l) (so_far_fits c j) e))

    first_here : (x : ChoiceKind) → In (First t) (counters_of x t)
    first_here Elect = inl refl
    first_here Tickets = inl refl

    result_here : (x : ChoiceKind) → In (result_counter x t) (counters_of x t)
    result_here Elect = inr (inl refl)
    result_here Tickets = inl refl

    -- what a descriptor of this step names is live, and its part lies in the region
    part_live : (x : Part) (c : ChoiceKind) → In x (parts_of c t) → c ≡ choice_at ks t
        → (is_live_or_none (descriptor_of k ks x).ct counted_here.cts ≡ true) × (part_start x + 8 ≤ 32 * t + 32)
    part_live x Elect (inl i) e = subst (λ v. (is_live_or_none (descriptor_of k ks v).ct counted_here.cts ≡ true)
        × (part_start v + 8 ≤ 32 * t + 32)) i (refl, omega arith)
    part_live x Elect (inr (inl i)) e =
        subst (λ v. (is_live_or_none (descriptor_of k ks v).ct counted_here.cts ≡ true) × (part_start v + 8 ≤ 32 * t + 32)) i
        (live_here (First t) (first_here (choice_at ks t)), omega arith)
    part_live x Elect (inr (inr (inl i))) e =
        subst (λ v. (is_live_or_none (descriptor_of k ks v).ct counted_here.cts ≡ true) × (part_start v + 8 ≤ 32 * t + 32)) i
        (live_here (result_counter (choice_at ks t) t) (result_here (choice_at ks t)), omega arith)
    part_live x Elect (inr (inr (inr i))) e = absurd i
    part_live x Tickets (inl i) e =
        subst (λ v. (is_live_or_none (descriptor_of k ks v).ct counted_here.cts ≡ true) × (part_start v + 8 ≤ 32 * t + 32)) i
        (refl, omega arith)
    part_live x Tickets (inr (inl i)) e =
        subst (λ v. (is_live_or_none (descriptor_of k ks v).ct counted_here.cts ≡ true) × (part_start v + 8 ≤ 32 * t + 32)) i
        (live_here (result_counter (choice_at ks t) t) (result_here (choice_at ks t)), omega arith)
    part_live x Tickets (inr (inr i)) e = absurd i

    pub part_made : (xs : List Part) (x : Part) (back : List Part) → xs ++ x ∷ back ≡ parts_of (choice_at ks t) t
        → (let s = made_part k ks t here_counters xs (fresh k ranks ks r) in
        bind_fault (descriptor_of k ks x) (length s.memory) s.cts s.eqs s.mds) ≡ None
    part_made xs x back e =
        let i : In x (parts_of (choice_at ks t) t) = subst (In x) e (In-split xs x back) in
        let live = part_live x (choice_at ks t) i refl in
        let size = inside_step ks t h (step_bytes ks r (no_seat ks r)) (λ d j. length-step ks r (no_seat ks r) d) in
        let last = live.1 in
        ap (λ (s : State). bind_fault (descriptor_of k ks x) (length s.memory) s.cts s.eqs s.mds) (parts_here xs (x ∷ back) e)
        ∙ need3 _ _ _ Stale NoSpace OutOfRegion live.0
        (room (3 * length ks) (length (map (new_part k ks) parts_before ++ map (new_part k ks) xs)) (0 + length parts_before + length xs)
        (omega (arith, many, total)) (omega (arith, total)))
        (le-leb _ _ (omega (arith, last, size)))
      where
        many : length (map (new_part k ks) parts_before ++ map (new_part k ks) xs) ≡ length parts_before + length xs
        many =
            let a = length-append (map (new_part k ks) parts_before) (map (new_part k ks) xs) in
            let b = length-map parts_before (new_part k ks) in
            let d = length-map xs (new_part k ks) in
            omega (arith, a, b, d)

        total : length parts_before + length xs < 3 * length ks
        total =
            let a = length-split xs x back in
            let b = ap length e in
            let d = parts_long ks (choice_at ks t) t in
            let f = things_three (choice_at ks t) in
            let g = before_le things_in 3 things_three ks t in
            let l = parts_long_before in
            omega (arith, a, b, d, f, g, l)

    -- ---- the entry of step t
    pub entry_made : append_fault 0 (word_entry t)
        (target_parts (entries_all k (from_to 0 t) (made_all k ks (steps ks) (fresh k ranks ks r)))) ≡ None
    entry_made =
        ap (λ s. append_fault 0 (word_entry t) (target_parts (entries_all k (from_to 0 t) s))) (made_is k ranks ks r)
        ∙ ap (λ s. append_fault 0 (word_entry t) (target_parts s))
        (after_entries k (from_to 0 t) (bare k ranks ks r [] 0) [] 0 (steps_run 0 t))
        ∙ need4 true true _ (is_within (32 * t) 8 (length (flat_map (step_bytes ks r (no_seat ks r)) (steps ks)))) Stale Stale NoSpace
        OutOfRegion refl refl
        (room (length ks) (linked (map (entry_of k) (from_to 0 t))) (0 + length (from_to 0 t))
        (let a = linked_is (map (entry_of k) (from_to 0 t)) in let b = length-map (from_to 0 t) (entry_of k) in let d =
        length-from_to 0 t in omega (arith, a, b, d, h)) (let d = length-from_to 0 t in omega (arith, d, at_most, h)))
        (le-leb _ _ (let size = inside_step ks t h (step_bytes ks r (no_seat ks r)) (λ d j. length-step ks r (no_seat ks r) d) in
        omega (arith, size)))
      where
        linked : List Linked → ℕ
        linked xs = sum_by entries_in (Some (record { eq = None; priority = xs; overflow = [] }) ∷ [])

        linked_is : (xs : List Linked) → linked xs ≡ length xs
        linked_is xs = sum_by-cons entries_in (Some (record { eq = None; priority = xs; overflow = [] })) []
            ∙ (let q : length xs + 0 + 0 ≡ length xs = omega arith in q)

  -- ---- the operations: each names what is live, and eight bytes of its descriptors
  live_ct : (c : Counter) → In c (counters ks) → is_some (lookup (ct_of k ks c) (view k ranks ks r (no_seat ks r)).cts.live) ≡ true
  live_ct c i = ap is_some (lookup_ct k ranks ks r (no_seat ks r) c i)

  live_md : (x : Part) → In x (parts ks) → (is_some (lookup (md_of k ks x) (view k ranks ks r (no_seat ks r)).mds.live) ≡ true)
      × (holds_part (lookup (md_of k ks x) (view k ranks ks r (no_seat ks r)).mds.live) 0 8 ≡ true)
  live_md x i = (
    ap is_some (lookup_md k ranks ks r (no_seat ks r) x i),
    ap (λ b. holds_part b 0 8)
        (lookup_md k ranks ks r (no_seat ks r) x i),
  )

  -- what an action of this rank needs
  pub record MayPost (d : TriggeredOp) : Type 0 where
    pub live : (counts_on_live d (view k ranks ks r (no_seat ks r)).cts && action_is_live d (view k ranks ks r (no_seat ks r)).mds) ≡ true
    pub fits : action_fits d (view k ranks ks r (no_seat ks r)).mds ≡ true
    pub small : not (action_passes d) ≡ true
    pub may : 0 < ranks → MayStart d ranks (limits_of ks)

  may_send : (s : ℕ) → s < length ks → (c : ChoiceKind) → choice_at ks s ≡ c → MayPost (first_action k ks c s)
  may_send s h Elect e =
      let a = live_md (Old s) (In-old ks s h e) in
      let b = live_md (Given s) (In-given ks s h) in
      record {
        live = ap₂ (λ x y. x && y) a.0 b.0;
        fits = ap₂ (λ x y. x && y) a.1 b.1;
        small = refl;
        may =
            λ some. (
              record { target_known = some; short = lit≤ tt },
              refl,
              record
                  { length = refl; target = refl; pt = refl; match_bits = refl; remote_offset = refl; no_ack = refl },
            );
      }
  may_send s h Tickets e =
      let a = live_md (Result s) (In-result ks s h) in
      let b = live_md (Given s) (In-given ks s h) in
      record {
        live = ap₂ (λ x y. x && y) a.0 b.0;
        fits = ap₂ (λ x y. x && y) a.1 b.1;
        small = refl;
        may =
            λ some. (
              record { target_known = some; short = lit≤ tt },
              record { whole = refl; at_most = lit≤ tt },
              record
                  { length = refl; target = refl; pt = refl; match_bits = refl; remote_offset = refl; no_ack = refl },
            );
      }

  pub may_post : (w : RankOp) → IsWork ks w → MayPost (action_of k ks w)
  may_post (Send s) h = may_send s h (choice_at ks s) refl
  may_post (Look s) h = let a = live_md (Result s) (In-result ks s h.0) in
      record { live = a.0; fits = a.1; small = refl; may = λ some. record { target_known = some; short = lit≤ tt } }
  may_post (ForDone s) h = record { live = ap (λ b. b && true) (live_ct Done (In-done ks)); fits = refl; small = refl; may = λ some. tt }

  pub operation_made : (front : List RankOp) (w : RankOp) (back : List RankOp) → front ++ w ∷ back ≡ rank_ops ks
      → (let s = operations_all k ks front (entered k ranks ks r) in
      triggered_fault (action_of k ks w) (ct_of k ks (work_counter ks w)) s.cts s.mds s.pending) ≡ None
  operation_made front w back e =
      let i : In w (rank_ops ks) = subst (In w) e (In-split front w back) in
      let ours = rank_ops-In ks w i in
      let may = may_post w ours in
      ap (λ (s : State). triggered_fault (action_of k ks w) (ct_of k ks (work_counter ks w)) s.cts s.mds s.pending)
      (ap (operations_all k ks front) (entered_is k ranks ks r)
      ∙ after_operations k ks front (bare k ranks ks r (entries_of k ks r) (if r == 0 then length ks else 0))
      (Runs-left (number_of ks) 0 front (w ∷ back) (subst (Runs (number_of ks) 0) (sym e) (all_works_run ks 0 (length ks)))))
      ∙ need4 _ _ _ _ Stale NoSpace OutOfRegion CountFull
      (ap₂ (λ x y. x && y) (live_ct (work_counter ks w) (In-work_counter ks w ours)) may.live)
      (numbers (3 * length ks) (length (map (operation k ks) front)) (0 + length front)
      (let a = length-map front (operation k ks) in omega (arith, a, total)) (omega (arith, total, at_most)))
      may.fits
      may.small
    where
      numbers : (limit n given : ℕ) → n < limit → given < 2 ^ 32 - 1 → not (nat_le limit n || nat_le (2 ^ 32 - 1) given) ≡ true
      numbers limit n given h i = ap₂ (λ x y. not (x || y)) (above n limit h) (above given (2 ^ 32 - 1) i)

      total : length front < 3 * length ks
      total =
          let a = length-split front w back in
          let b = ap length e in
          let d = flat_long things_in ks (λ s. works_of (choice_at ks s) s) (λ s. works_long ks (choice_at ks s) s) 0 (length ks) in
          let f : 0 + length ks ≡ length ks = omega arith in
          let g = ap (before things_in ks) f in
          let l = before_le things_in 3 things_three ks (length ks) in
          omega (arith, a, b, d, g, l)
