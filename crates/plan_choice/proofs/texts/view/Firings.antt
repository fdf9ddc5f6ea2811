-- What each operation of a choice text does when it fires.
use Rattle.std.proofs.Common.{ℕ, suc, true, false, not, ◌+◌, ◌*◌, ◌≡◌, ◌≤◌, ◌<◌, ◌⊎◌, List, refl, length, map, filter, ap, ap₂, ◌∙◌, sym}
use Rattle.std.proofs.Common.{subst, inl, inr, arith, flat_map, count_by, min, Some, None, add-zero}
use Rattle.std.proofs.lemmas.Bool.{cases_eq}
use Rattle.ptl_types.specs.declared.elements.AtomicOp.TheVariants.{Sum}
use Rattle.ptl_types.specs.declared.elements.SwapOp.TheVariants.{Cswap}
use Rattle.ptl_types.specs.declared.elements.ElemType.TheVariants.{U64}
use Rattle.ptl_types.specs.Handles.{top, one_more}
use Rattle.ptl_types.specs.Elements.{part}
use Rattle.ptl_types.specs.Messages.{message}
use Rattle.ni_model.specs.State.{Posted, State}
use Rattle.ni_model.specs.Tables.{change, changed, lookup}
use Rattle.ni_model.specs.Counts.{bump, successes}
use Rattle.ni_model.specs.Starts.{bytes_at, get_header, one_awaited}
use Rattle.ni_model.specs.Ready.{done, fired, fired_op, fires, is_ready, is_number}
use Rattle.plan_core.specs.Members.{In}
use Rattle.plan_core.proofs.Links.{Distinct-from_to}
use Rattle.cuts.proofs.view.Tables.{bump-successes}
use Rattle.cuts.proofs.view.StepFire.{fired_pair}
use Rattle.coll_lang.specs.declared.choices.ChoiceKind.{ChoiceKind}
use Rattle.plan_choice.specs.texts.machine.Choices.{choice_at}
use Rattle.coll_lang.specs.declared.choices.ChoiceKind.TheVariants.{Elect, Tickets}
use Rattle.plan_choice.specs.texts.machine.Machine.{Phase, advanced, put, value_of, is_ready as is_ready_phase}
use Rattle.plan_choice.specs.texts.machine.Machine.Phase.{Answered, Asked, Idle, Learned, Read, Reading, Served, Told}
use Rattle.plan_choice.proofs.texts.machine.Places.{count_as, count_put, put-other, put-same}
use Rattle.plan_choice.proofs.texts.machine.Words.{put_as}
use Rattle.plan_choice.specs.texts.view.Install.{Counter, Part, ChoiceRank, Slots, RankOp, awaits_of, awaits_result, count_of, counters}
use Rattle.plan_choice.specs.texts.view.Install.{ct_of}
use Rattle.plan_choice.specs.texts.view.Install.{ct_stamp, action_of, first_action, first_header, get_args, given_word, has_first}
use Rattle.plan_choice.specs.texts.view.Install.{has_result}
use Rattle.plan_choice.specs.texts.view.Install.{is_out}
use Rattle.plan_choice.specs.texts.view.Install.{is_reading, is_told, live_counter, live_part, md_of, md_stamp, none_or_one, number_of}
use Rattle.plan_choice.specs.texts.view.Install.{old_of}
use Rattle.plan_choice.specs.texts.view.Install.{operation, parts, put_args, result_counter, step_bytes, steps, view, was_fired, was_read}
use Rattle.plan_choice.specs.texts.view.Install.{was_sent}
use Rattle.plan_choice.specs.texts.view.Install.{word, work_counter, rank_ops}
use Rattle.plan_choice.specs.texts.view.Install.Counter.{Done, First, Go, Second}
use Rattle.plan_choice.specs.texts.view.Install.Part.{Given, Old, Result}
use Rattle.plan_choice.specs.texts.view.Install.RankOp.{Look, Send, ForDone}
use Rattle.plan_choice.specs.texts.view.Steps.{sent_message, with_phase}
use Rattle.plan_choice.proofs.texts.view.Looks.{first_advanced, old_advanced, result_advanced, value_advanced}
use Rattle.plan_choice.proofs.texts.view.Memory.{read_given, read_part}
use Rattle.plan_choice.proofs.texts.view.Named.{changed_named}
use Rattle.plan_choice.proofs.texts.view.Stamps.{In-given, In-old, In-result, In-steps, IsWork, counters-In, ct_one, md_one, parts-In}
use Rattle.plan_choice.proofs.texts.view.StepStart.{bound_for, bound_with, counts_as, memory_as, length-step, parts_as, view_with}
use Rattle.plan_choice.proofs.texts.view.StepFire.{IsAnswered, IsLearned, IsReadyWork, done_fetch, done_get, done_swap, left_waiting}
use Rattle.plan_choice.proofs.texts.view.StepFire.{lookup_md}
use Rattle.plan_choice.proofs.texts.view.StepFire.{read_answered, ready_work, sent_idle, sent_state, told_learned, true_one, one_true}
use Rattle.plan_choice.proofs.texts.view.StepFire.{work_ready}

-- the descriptor that awaits the first answer
abbrev pub home_part : ChoiceKind → ℕ → Part
home_part Elect s = Old s
home_part Tickets s = Result s

pub In-home : (ks : List ChoiceKind) (s : ℕ) → s < length ks → In (home_part (choice_at ks s) s) (parts ks)
In-home ks s h = at (choice_at ks s) refl
  where
    at : (c : ChoiceKind) → choice_at ks s ≡ c → In (home_part c s) (parts ks)
    at Elect e = In-old ks s h e
    at Tickets e = In-result ks s h

module _ (k : Slots) (ranks : ℕ) (ks : List ChoiceKind) (r : ℕ) (seat : ChoiceRank) (s : ℕ) (h : s < length ks) where
  -- the seat after a firing in step s
  abbrev pub next : ChoiceRank
  next = with_phase s (advanced (seat.phase s)) seat

  -- the interface in which these operations wait
  abbrev pub waiting_view : List Posted → State
  waiting_view ws = record (view k ranks ks r seat) { pending = record (view k ranks ks r seat).pending { waiting = ws } }

  look_next : {X : Type 0} (look : Phase → X) → look (advanced (seat.phase s)) ≡ look (seat.phase s) → (t : ℕ)
      → look (next.phase t) ≡ look (seat.phase t)
  look_next look e t = put_as look s (advanced (seat.phase s)) seat.phase e t

  next_here : (p : Phase) → seat.phase s ≡ p → next.phase s ≡ advanced p
  next_here p e = put-same s (advanced (seat.phase s)) seat.phase ∙ ap advanced e

  memory_next : flat_map (step_bytes ks r seat) (steps ks) ≡ flat_map (step_bytes ks r next) (steps ks)
  memory_next = memory_as ks r seat next (λ t. refl) (look_next old_of (old_advanced (seat.phase s)))
      (look_next value_of (value_advanced (seat.phase s)))

  -- the counters but for the done counter
  count_next : (c : Counter) → (c ≡ Done → ⊥) → count_of ks next c ≡ count_of ks seat c
  count_next Go n = refl
  count_next Done n = absurd (n refl)
  count_next (First t) n = ap (λ b. none_or_one b) (look_next (has_first (choice_at ks t))
      (first_advanced (choice_at ks t) (seat.phase s)) t)
  count_next (Second t) n = ap (λ b. none_or_one b) (look_next has_result (result_advanced (seat.phase s)) t)

  -- where the step isn't told, the done counter too
  counts_next : is_told (advanced (seat.phase s)) ≡ is_told (seat.phase s)
      → map (live_counter k ks seat) (counters ks) ≡ map (live_counter k ks next) (counters ks)
  counts_next e = counts_as k ks seat next (λ c i. at c)
    where
      at : (c : Counter) → count_of ks next c ≡ count_of ks seat c
      at Go = refl
      at Done = ap (λ n. min n top) (count_as (λ t. is_told (seat.phase t)) (λ t. is_told (next.phase t)) (steps ks)
          (λ t i. look_next is_told e t))
      at (First t) = count_next (First t) (λ e. cc)
      at (Second t) = count_next (Second t) (λ e. cc)

  -- the descriptor that awaits an answer more
  mds_next : (x : Part) → In x (parts ks) → awaits_of ks next x ≡ one_more (awaits_of ks seat x)
      → ((y : Part) → In y (parts ks) → (y ≡ x → ⊥) → awaits_of ks next y ≡ awaits_of ks seat y)
      → change (md_of k ks x) one_awaited (map (live_part k ks seat) (parts ks)) ≡ map (live_part k ks next) (parts ks)
  mds_next x i here there =
      changed_named k.md (md_stamp ks) one_awaited (bound_for k ks seat) (bound_for k ks next) (parts ks) x
      (λ y j e. md_one ks y x (parts-In ks y j) (parts-In ks x i) e)
      (ap (bound_with k ks x) here)
      (λ y j n. ap (bound_with k ks y) (there y j n))

  -- ---- the first request
  module _ (idle : seat.phase s ≡ Idle) where
    asked : next.phase s ≡ Asked
    asked = next_here Idle idle

    home_more : (c : ChoiceKind) → choice_at ks s ≡ c → awaits_of ks next (home_part c s) ≡ one_more (awaits_of ks seat (home_part c s))
    home_more Elect e = ap (λ p. none_or_one (is_out p)) asked ∙ sym (ap (λ p. one_more (none_or_one (is_out p))) idle)
    home_more Tickets e =
        ap₂ (λ c p. none_or_one (awaits_result c p)) e asked ∙ sym (ap₂ (λ c p. one_more (none_or_one (awaits_result c p))) e idle)

    others_await : (c : ChoiceKind) → choice_at ks s ≡ c → (y : Part) → In y (parts ks) → (y ≡ home_part c s → ⊥)
        → awaits_of ks next y ≡ awaits_of ks seat y
    others_await c e (Given t) i n = refl
    others_await c e (Old t) i n = at c e n (cases_eq t s)
      where
        no_old : (t ≡ s) → choice_at ks s ≡ Tickets → ⊥
        no_old q e = let f : choice_at ks s ≡ Elect = subst (λ v. choice_at ks v ≡ Elect) q (parts-In ks (Old t) i) in cc

        at : (c : ChoiceKind) → choice_at ks s ≡ c → (Old t ≡ home_part c s → ⊥) → ((t ≡ s) ⊎ (t ≡ s → ⊥))
            → awaits_of ks next (Old t) ≡ awaits_of ks seat (Old t)
        at Elect e n (inl q) = absurd (n (ap Old q))
        at Tickets e n (inl q) = absurd (no_old q e)
        at c e n (inr m) = ap (λ p. none_or_one (is_out p)) (put-other s (advanced (seat.phase s)) seat.phase t m)
    others_await c e (Result t) i n = at c e n (cases_eq t s)
      where
        at : (c : ChoiceKind) → choice_at ks s ≡ c → (Result t ≡ home_part c s → ⊥) → ((t ≡ s) ⊎ (t ≡ s → ⊥))
            → awaits_of ks next (Result t) ≡ awaits_of ks seat (Result t)
        at Elect e n (inl q) =
            let f : choice_at ks t ≡ Elect = ap (choice_at ks) q ∙ e in
            ap₂ (λ c p. none_or_one (awaits_result c p)) f (ap next.phase q ∙ asked)
            ∙ sym (ap₂ (λ c p. none_or_one (awaits_result c p)) f (ap seat.phase q ∙ idle))
        at Tickets e n (inl q) = absurd (n (ap Result q))
        at c e n (inr m) = ap (λ p. none_or_one (awaits_result (choice_at ks t) p)) (put-other s (advanced (seat.phase s)) seat.phase t m)

    others_sent : (v : RankOp) → (v ≡ Send s → ⊥) → was_fired next v ≡ was_fired seat v
    others_sent (Send t) n = ap was_sent (put-other s (advanced (seat.phase s)) seat.phase t (λ e. n (ap Send e)))
    others_sent (Look t) n = look_next was_read (ap (λ p. was_read (advanced p)) idle ∙ sym (ap was_read idle)) t
    others_sent (ForDone t) n = look_next is_told (ap (λ p. is_told (advanced p)) idle ∙ sym (ap is_told idle)) t

    -- the action, by the step
    send_done : (c : ChoiceKind) (v : State)
        → done v (first_action k ks c s)
        ≡ fires (sent_state v (lookup (md_of k ks (Given s)) v.mds.live) (first_header k ks c v.rank s)
        (changed (md_of k ks (home_part c s)) one_awaited v.mds))
        (Some (message (first_header k ks c v.rank s) (bytes_at (lookup (md_of k ks (Given s)) v.mds.live) 0 8 v.memory)))
    send_done Elect v = done_swap v (get_args k ks s (Old s)) (put_args k ks s) Cswap U64 top
    send_done Tickets v = done_fetch v (get_args k ks s (Result s)) (put_args k ks s) Sum U64

    given_bytes : bytes_at (lookup (md_of k ks (Given s)) (view k ranks ks r seat).mds.live) 0 8 (view k ranks ks r seat).memory
        ≡ word (given_word (choice_at ks s) r)
    given_bytes =
        ap (λ b. bytes_at b 0 8 (view k ranks ks r seat).memory) (lookup_md k ranks ks r seat (Given s) (In-given ks s h))
        ∙ ap (λ n. part n 8 (view k ranks ks r seat).memory) (add-zero (32 * s + 8))
        ∙ read_part ks s h (step_bytes ks r seat) 8 8 (λ t i. length-step ks r seat t) (omega arith)
        ∙ read_given (seat.word s) (given_word (choice_at ks s) r) (old_of (seat.phase s)) (value_of (seat.phase s))

    pub fire_send : (waits : List Posted) → waits ≡ map (operation k ks) (filter (λ v. not (was_fired next v)) (rank_ops ks))
        → done (waiting_view waits) (action_of k ks (Send s)) ≡ fires (view k ranks ks r next) (sent_message k ks r s (seat.phase s))
    fire_send waits e =
        send_done (choice_at ks s) (waiting_view waits)
        ∙ fired_pair _ _ _ _
        (ap (λ b. sent_state (waiting_view waits) b (first_header k ks (choice_at ks s) r s)
        (changed (md_of k ks (home_part (choice_at ks s) s)) one_awaited (view k ranks ks r seat).mds))
        (lookup_md k ranks ks r seat (Given s) (In-given ks s h))
        ∙ (λ d. view_with k ranks ks r seat (memory_next d) (counts_next (ap (λ p. is_told (advanced p)) idle ∙ sym (ap is_told idle)) d)
        (mds_next (home_part (choice_at ks s) s) (In-home ks s h) (home_more (choice_at ks s) refl)
        (others_await (choice_at ks s) refl) d) (e d)))
        (ap (λ bs. Some (message (first_header k ks (choice_at ks s) r s) bs)) given_bytes ∙ sym (ap (sent_message k ks r s) idle))

  -- ---- the get
  module _ (answered : IsAnswered (seat.phase s)) (elect : choice_at ks s ≡ Elect) where
    reading : next.phase s ≡ Reading answered.old
    reading = next_here (Answered answered.old) answered.is

    result_more : awaits_of ks next (Result s) ≡ one_more (awaits_of ks seat (Result s))
    result_more = ap₂ (λ c p. none_or_one (awaits_result c p)) elect reading
        ∙ sym (ap₂ (λ c p. one_more (none_or_one (awaits_result c p))) elect answered.is)

    others_look : (y : Part) → (y ≡ Result s → ⊥) → awaits_of ks next y ≡ awaits_of ks seat y
    others_look (Given t) n = refl
    others_look (Old t) n = ap (λ b. none_or_one b) (look_next is_out
        (ap (λ p. is_out (advanced p)) answered.is ∙ sym (ap is_out answered.is)) t)
    others_look (Result t) n = ap (λ p. none_or_one (awaits_result (choice_at ks t) p))
        (put-other s (advanced (seat.phase s)) seat.phase t (λ e. n (ap Result e)))

    others_read : (v : RankOp) → (v ≡ Look s → ⊥) → was_fired next v ≡ was_fired seat v
    others_read (Send t) n = look_next was_sent (ap (λ p. was_sent (advanced p)) answered.is ∙ sym (ap was_sent answered.is)) t
    others_read (Look t) n = ap was_read (put-other s (advanced (seat.phase s)) seat.phase t (λ e. n (ap Look e)))
    others_read (ForDone t) n = look_next is_told (ap (λ p. is_told (advanced p)) answered.is ∙ sym (ap is_told answered.is)) t

    pub fire_look : (waits : List Posted) → waits ≡ map (operation k ks) (filter (λ v. not (was_fired next v)) (rank_ops ks))
        → done (waiting_view waits) (action_of k ks (Look s)) ≡ fires (view k ranks ks r next) (sent_message k ks r s (seat.phase s))
    fire_look waits e =
        done_get (waiting_view waits) (get_args k ks s (Result s))
        ∙ fired_pair _ _ _ _
        (ap (λ b. sent_state (waiting_view waits) b (get_header r (get_args k ks s (Result s)))
        (changed (md_of k ks (Result s)) one_awaited (view k ranks ks r seat).mds))
        (lookup_md k ranks ks r seat (Result s) (In-result ks s h))
        ∙ (λ d. view_with k ranks ks r seat (memory_next d)
        (counts_next (ap (λ p. is_told (advanced p)) answered.is ∙ sym (ap is_told answered.is)) d)
        (mds_next (Result s) (In-result ks s h) result_more (λ y j n. others_look y n) d) (e d)))
        (sym (ap (sent_message k ks r s) answered.is))

  -- ---- the telling
  module _ (learned : IsLearned (seat.phase s)) where
    told : next.phase s ≡ Told learned.old learned.value
    told = next_here (Learned learned.old learned.value) learned.is

    done_more : count_by (λ t. is_told (next.phase t)) (steps ks) ≡ suc (count_by (λ t. is_told (seat.phase t)) (steps ks))
    done_more = count_put (λ t. is_told (seat.phase t)) (λ t. is_told (next.phase t)) s (steps ks) (Distinct-from_to 0 (length ks))
        (In-steps ks s h) (ap is_told learned.is) (ap is_told told)
        (λ t n. ap is_told (put-other s (advanced (seat.phase s)) seat.phase t n))

    done_rises : change (ct_of k ks Done) (bump (successes 1)) (map (live_counter k ks seat) (counters ks))
        ≡ map (live_counter k ks next) (counters ks)
    done_rises =
        changed_named k.ct (ct_stamp ks) (bump (successes 1)) (λ c. successes (count_of ks seat c)) (λ c. successes (count_of ks next c))
        (counters ks) Done
        (λ c i e. ct_one ks c Done (counters-In ks c i) tt e)
        (ap (λ n. successes (min n top)) done_more ∙ sym (bump-successes (count_by (λ t. is_told (seat.phase t)) (steps ks))))
        (λ c i n. ap successes (count_next c n))

    out_stays : (c : ChoiceKind) (t : ℕ) → awaits_result c (next.phase t) ≡ awaits_result c (seat.phase t)
    out_stays Elect t = look_next is_reading (ap (λ p. is_reading (advanced p)) learned.is ∙ sym (ap is_reading learned.is)) t
    out_stays Tickets t = look_next is_out (ap (λ p. is_out (advanced p)) learned.is ∙ sym (ap is_out learned.is)) t

    await_stays : (y : Part) → awaits_of ks next y ≡ awaits_of ks seat y
    await_stays (Given t) = refl
    await_stays (Old t) = ap (λ b. none_or_one b) (look_next is_out
        (ap (λ p. is_out (advanced p)) learned.is ∙ sym (ap is_out learned.is)) t)
    await_stays (Result t) = ap (λ b. none_or_one b) (out_stays (choice_at ks t) t)

    others_told : (v : RankOp) → (v ≡ ForDone s → ⊥) → was_fired next v ≡ was_fired seat v
    others_told (Send t) n = look_next was_sent (ap (λ p. was_sent (advanced p)) learned.is ∙ sym (ap was_sent learned.is)) t
    others_told (Look t) n = look_next was_read (ap (λ p. was_read (advanced p)) learned.is ∙ sym (ap was_read learned.is)) t
    others_told (ForDone t) n = ap is_told (put-other s (advanced (seat.phase s)) seat.phase t (λ e. n (ap ForDone e)))

    pub fire_tell : (waits : List Posted) → waits ≡ map (operation k ks) (filter (λ v. not (was_fired next v)) (rank_ops ks))
        → done (waiting_view waits) (action_of k ks (ForDone s)) ≡ fires (view k ranks ks r next) (sent_message k ks r s (seat.phase s))
    fire_tell waits e =
        fired_pair _ _ None _
        (λ d. view_with k ranks ks r seat (memory_next d) (done_rises d) (parts_as k ks seat next (λ y j. await_stays y) d) (e d))
        (sym (ap (sent_message k ks r s) learned.is))

-- ---- any ready operation
pub record IsFiring (k : Slots) (ranks : ℕ) (ks : List ChoiceKind) (r : ℕ) (seat : ChoiceRank) (t s : ℕ) : Type 0 where
  pub known : s < length ks
  pub ready : is_ready_phase (choice_at ks s) (seat.phase s) ≡ true
  pub does : fired (view k ranks ks r seat) t
      ≡ fires (view k ranks ks r (with_phase s (advanced (seat.phase s)) seat)) (sent_message k ks r s (seat.phase s))

ready_answered : (c : ChoiceKind) (p : Phase) → c ≡ Elect → IsAnswered p → is_ready_phase c p ≡ true
ready_answered c p e h = ap₂ is_ready_phase e h.is

ready_learned : (c : ChoiceKind) (p : Phase) → IsLearned p → is_ready_phase c p ≡ true
ready_learned Elect p h = ap (is_ready_phase Elect) h.is
ready_learned Tickets p h = ap (is_ready_phase Tickets) h.is

ready_idle : (c : ChoiceKind) (p : Phase) → p ≡ Idle → is_ready_phase c p ≡ true
ready_idle Elect p h = ap (is_ready_phase Elect) h
ready_idle Tickets p h = ap (is_ready_phase Tickets) h

pub step_fire : (k : Slots) (ranks : ℕ) (ks : List ChoiceKind) (r : ℕ) (seat : ChoiceRank) (t : ℕ) →
    is_ready (view k ranks ks r seat) t ≡ true
    → (s : ℕ) × IsFiring k ranks ks r seat t s
unfolding fired
step_fire k ranks ks r seat t e = let w = ready_work k ranks ks r seat t e in by_kind w.0 w.1
  where
    left : (w : RankOp) → IsReadyWork k ranks ks r seat t w → (next : ChoiceRank) → was_fired next w ≡ true
        → ((v : RankOp) → (v ≡ w → ⊥) → was_fired next v ≡ was_fired seat v)
        → filter (λ q. not (is_number (number_of ks w) q)) (view k ranks ks r seat).pending.waiting
        ≡ map (operation k ks) (filter (λ v. not (was_fired next v)) (rank_ops ks))
    left w h next a b = left_waiting k ks seat next w h.ours a b

    result_of : (c : ChoiceKind) (s : ℕ) → choice_at ks s ≡ c → 1 ≤ count_of ks seat (result_counter (choice_at ks s) s)
        → has_result (seat.phase s) ≡ true
    result_of Elect s e h = one_true _ (subst (λ c. 1 ≤ count_of ks seat (result_counter c s)) e h)
    result_of Tickets s e h = one_true _ (subst (λ c. 1 ≤ none_or_one (has_first c (seat.phase s))) e
        (subst (λ c. 1 ≤ count_of ks seat (result_counter c s)) e h))

    put_here : (s : ℕ) (p : Phase) → seat.phase s ≡ p → put s (advanced (seat.phase s)) seat.phase s ≡ advanced p
    put_here s p e = put-same s (advanced (seat.phase s)) seat.phase ∙ ap advanced e

    by_kind : (w : RankOp) → IsReadyWork k ranks ks r seat t w → (s : ℕ) × IsFiring k ranks ks r seat t s
    by_kind (Send s) h =
        let idle = sent_idle (seat.phase s) h.waits in (
          s,
          record {
            known = h.ours;
            ready = ready_idle (choice_at ks s) (seat.phase s) idle;
            does = ap (fired_op (view k ranks ks r seat)) h.found
                ∙ fire_send k ranks ks r seat s h.ours idle _
                (left (Send s) h (with_phase s (advanced (seat.phase s)) seat) (ap was_sent (put_here s Idle idle))
                (others_sent k ranks ks r seat s h.ours idle));
          },
        )
    by_kind (Look s) h =
        let answered = read_answered (seat.phase s) h.waits
        (subst (λ c. has_first c (seat.phase s) ≡ true) h.ours.1 (one_true (has_first (choice_at ks s) (seat.phase s)) h.reached)) in (
          s,
          record {
            known = h.ours.0;
            ready = ready_answered (choice_at ks s) (seat.phase s) h.ours.1 answered;
            does = ap (fired_op (view k ranks ks r seat)) h.found
                ∙ fire_look k ranks ks r seat s h.ours.0 answered h.ours.1 _
                (left (Look s) h (with_phase s (advanced (seat.phase s)) seat)
                (ap was_read (put_here s (Answered answered.old) answered.is))
                (others_read k ranks ks r seat s h.ours.0 answered h.ours.1));
          },
        )
    by_kind (ForDone s) h =
        let learned = told_learned (seat.phase s) h.waits (result_of (choice_at ks s) s refl h.reached) in (
          s,
          record {
            known = h.ours;
            ready = ready_learned (choice_at ks s) (seat.phase s) learned;
            does = ap (fired_op (view k ranks ks r seat)) h.found
                ∙ fire_tell k ranks ks r seat s h.ours learned _
                (left (ForDone s) h (with_phase s (advanced (seat.phase s)) seat)
                (ap is_told (put_here s (Learned learned.old learned.value) learned.is)) (others_told k ranks ks r seat s h.ours learned));
          },
        )

-- ---- where no operation is ready, no phase of a started rank is
pub idle_phase : (k : Slots) (ranks : ℕ) (ks : List ChoiceKind) (r : ℕ) (seat : ChoiceRank)
    → ((t : ℕ) → is_ready (view k ranks ks r seat) t ≡ false) → seat.started ≡ true → (s : ℕ) → s < length ks
    → is_ready_phase (choice_at ks s) (seat.phase s) ≡ false
idle_phase k ranks ks r seat idle begun s h = at (choice_at ks s) (seat.phase s) refl refl
  where
    no_both : {X : Type 0} (w : RankOp) → IsWork ks w → was_fired seat w ≡ false → 1 ≤ count_of ks seat (work_counter ks w) → X
    no_both w i e n = let f = work_ready k ranks ks r seat w i e n in let g = idle (number_of ks w) in cc

    -- the result's counter stands at one
    counted : (c : ChoiceKind) → choice_at ks s ≡ c → has_result (seat.phase s) ≡ true
        → 1 ≤ count_of ks seat (result_counter (choice_at ks s) s)
    counted Elect e f = subst (λ c. 1 ≤ count_of ks seat (result_counter c s)) (sym e) (true_one _ f)
    counted Tickets e f = subst (λ c. 1 ≤ count_of ks seat (result_counter c s)) (sym e)
        (subst (λ c. 1 ≤ none_or_one (has_first c (seat.phase s))) (sym e) (true_one _ f))

    at : (c : ChoiceKind) (p : Phase) → choice_at ks s ≡ c → seat.phase s ≡ p → is_ready_phase c p ≡ false
    at c Idle e f = no_both (Send s) h (ap was_sent f) (true_one seat.started begun)
    at c (Learned old value) e f = no_both (ForDone s) h (ap is_told f) (counted c e (ap has_result f))
    at Elect (Answered old) e f = no_both (Look s) (h, e) (ap was_read f) (true_one _ (ap₂ has_first e f))
    at Tickets (Answered old) e f = refl
    at Elect Asked e f = refl
    at Tickets Asked e f = refl
    at Elect (Served old) e f = refl
    at Tickets (Served old) e f = refl
    at Elect (Reading old) e f = refl
    at Tickets (Reading old) e f = refl
    at Elect (Read old value) e f = refl
    at Tickets (Read old value) e f = refl
    at Elect (Told old value) e f = refl
    at Tickets (Told old value) e f = refl
