-- Which operations are ready at a seat, and of which step of the text each is, doesn't depend on the slots.
use Rattle.std.proofs.Common.{ℕ, Bool, true, false, not, ◌≡◌, List, refl, map, filter, ap, ◌∙◌, sym, subst, inl, inr, Option, Some, None}
use Rattle.std.proofs.Common.{eqb-true}
use Rattle.std.proofs.lemmas.Bool.{cases_eq, not-true}
use Rattle.std.proofs.lemmas.Option.{none-some}
use Rattle.std.proofs.lemmas.Simd.{map-map}
use Rattle.ptl_types.specs.declared.elements.AtomicOp.TheVariants.{Sum}
use Rattle.ptl_types.specs.declared.elements.SwapOp.TheVariants.{Cswap}
use Rattle.ptl_types.specs.declared.elements.ElemType.TheVariants.{U64}
use Rattle.ptl_types.specs.Handles.{top}
use Rattle.ni_model.specs.Ready.{Fires, done, fired, fired_op, is_number, is_ready, posted_at, ready_numbers, without_number}
use Rattle.ni_model.specs.State.{Operations, Posted, State}
use Rattle.plan_core.proofs.Lists.{In-filter_cases}
use Rattle.cuts.proofs.view.Tables.{find-In}
use Rattle.coll_lang.specs.declared.choices.ChoiceKind.{ChoiceKind}
use Rattle.coll_lang.specs.declared.choices.ChoiceKind.TheVariants.{Elect, Tickets}
use Rattle.plan_choice.specs.texts.machine.Choices.{choice_at}
use Rattle.plan_choice.specs.texts.machine.Machine.{Phase, advanced}
use Rattle.plan_choice.proofs.texts.machine.Places.{put-other}
use Rattle.plan_choice.specs.texts.view.Install.{ChoiceRank, Slots, RankOp, action_of, first_action, get_args, is_told, number_of}
use Rattle.plan_choice.specs.texts.view.Install.{operation}
use Rattle.plan_choice.specs.texts.view.Install.{put_args}
use Rattle.plan_choice.specs.texts.view.Install.{view, was_fired, was_read, was_sent, rank_ops}
use Rattle.plan_choice.specs.texts.view.Install.Part.{Old, Result}
use Rattle.plan_choice.specs.texts.view.Install.RankOp.{Look, Send, ForDone}
use Rattle.plan_choice.specs.texts.view.Steps.{with_phase}
use Rattle.plan_choice.proofs.texts.view.Stamps.{number_one}
use Rattle.plan_choice.proofs.texts.view.StepFire.{IsReadyWork, done_fetch, done_get, done_swap, find_work, ready_work, work_ready}
use Rattle.plan_choice.proofs.texts.view.Firings.{IsFiring}

-- the step of the text that an operation is of
abbrev pub step_of : RankOp → ℕ
step_of (Send s) = s
step_of (Look s) = s
step_of (ForDone s) = s

-- a phase of another step has no part in it
fired_apart : (seat : ChoiceRank) (s : ℕ) (p : Phase) (w : RankOp) → (step_of w ≡ s → ⊥) →
    was_fired (with_phase s p seat) w ≡ was_fired seat w
fired_apart seat s p (Send t) n = ap was_sent (put-other s p seat.phase t n)
fired_apart seat s p (Look t) n = ap was_read (put-other s p seat.phase t n)
fired_apart seat s p (ForDone t) n = ap is_told (put-other s p seat.phase t n)

-- an action leaves the operations that wait
waits_first : (k : Slots) (ks : List ChoiceKind) (c : ChoiceKind) (s : ℕ) (v : State)
    → (done v (first_action k ks c s)).state.pending ≡ v.pending
waits_first k ks Elect s v = ap (λ (f : Fires). f.state.pending) (done_swap v (get_args k ks s (Old s)) (put_args k ks s) Cswap U64 top)
waits_first k ks Tickets s v = ap (λ (f : Fires). f.state.pending) (done_fetch v (get_args k ks s (Result s)) (put_args k ks s) Sum U64)

waits_done : (k : Slots) (ks : List ChoiceKind) (w : RankOp) (v : State) → (done v (action_of k ks w)).state.pending ≡ v.pending
waits_done k ks (Send s) v = waits_first k ks (choice_at ks s) s v
waits_done k ks (Look s) v = ap (λ (f : Fires). f.state.pending) (done_get v (get_args k ks s (Result s)))
waits_done k ks (ForDone s) v = refl

-- an operation that was taken away isn't found
gone : (t : ℕ) (ops : Operations) → posted_at t (without_number t ops) ≡ None
gone t ops = at (posted_at t (without_number t ops)) refl
  where
    no_both : {b : Bool} → b ≡ false → b ≡ true → ⊥
    no_both e f = cc

    at : (o : Option Posted) → posted_at t (without_number t ops) ≡ o → o ≡ None
    at None e = refl
    at (Some p) e =
        let f = find-In (is_number t) (filter (λ q. not (is_number t q)) ops.waiting) p e in
        absurd (no_both (not-true _ (In-filter_cases (λ q. not (is_number t q)) p ops.waiting f.0).1) f.1)

module _ (ranks : ℕ) (ks : List ChoiceKind) (r : ℕ) (seat : ChoiceRank) where
  -- a ready operation's number
  numbered : (k : Slots) (t : ℕ) (w : RankOp) → IsReadyWork k ranks ks r seat t w → number_of ks w ≡ t
  numbered k t w h = eqb-true _ _ (find-In (is_number t) (view k ranks ks r seat).pending.waiting (operation k ks w) h.found).1

  -- ---- the same operations are ready
  ready_too : (k l : Slots) (t : ℕ) → is_ready (view k ranks ks r seat) t ≡ true → is_ready (view l ranks ks r seat) t ≡ true
  ready_too k l t e =
      let w = ready_work k ranks ks r seat t e in
      subst (λ n. is_ready (view l ranks ks r seat) n ≡ true) (numbered k t w.0 w.1)
      (work_ready l ranks ks r seat w.0 w.1.ours w.1.waits w.1.reached)

  same_ready : (k l : Slots) (t : ℕ) → is_ready (view k ranks ks r seat) t ≡ is_ready (view l ranks ks r seat) t
  same_ready k l t = at (is_ready (view k ranks ks r seat) t) (is_ready (view l ranks ks r seat) t) (ready_too k l t) (ready_too l k t)
    where
      at : (a b : Bool) → (a ≡ true → b ≡ true) → (b ≡ true → a ≡ true) → a ≡ b
      at true b f g = sym (f refl)
      at false true f g = g refl
      at false false f g = refl

  waiting_numbers : (k : Slots)
      → map (λ (p : Posted). p.number) (view k ranks ks r seat).pending.waiting
      ≡ map (number_of ks) (filter (λ w. not (was_fired seat w)) (rank_ops ks))
  waiting_numbers k = map-map (λ (p : Posted). p.number) (operation k ks) (filter (λ w. not (was_fired seat w)) (rank_ops ks))

  pub same_numbers : (k l : Slots) → ready_numbers (view k ranks ks r seat) ≡ ready_numbers (view l ranks ks r seat)
  same_numbers k l = λ i. filter (λ t. same_ready k l t i) ((waiting_numbers k ∙ sym (waiting_numbers l)) i)

  -- ---- and each is of the same step
  module _ (k : Slots) (t s : ℕ) (firing : IsFiring k ranks ks r seat t s) where
    -- the interface before and after the firing
    abbrev before : State
    before = view k ranks ks r seat

    abbrev next : ChoiceRank
    next = with_phase s (advanced (seat.phase s)) seat

    -- what was fired waits no more
    waits_no_more : (w : RankOp) → IsReadyWork k ranks ks r seat t w → posted_at t (view k ranks ks r next).pending ≡ None
    unfolding fired
    waits_no_more w h =
        ap (λ (f : Fires). posted_at t f.state.pending) (sym firing.does ∙ ap (fired_op before) h.found)
        ∙ ap (posted_at t) (waits_done k ks w (record before { pending = without_number (number_of ks w) before.pending }))
        ∙ ap (λ n. posted_at t (without_number n before.pending)) (numbered k t w h)
        ∙ gone t before.pending

    firing_of : (w : RankOp) → IsReadyWork k ranks ks r seat t w → step_of w ≡ s
    firing_of w h = elim (cases_eq (step_of w) s) [
      | inl e ↦ e
      | inr n ↦ absurd (none-some (operation k ks w)
          (sym (waits_no_more w h)
          ∙ ap (λ m. posted_at m (view k ranks ks r next).pending) (sym (numbered k t w h))
          ∙ find_work k ranks ks r next w h.ours (fired_apart seat s (advanced (seat.phase s)) w n ∙ h.waits)))
    ]

  pub same_step : (k l : Slots) (t s u : ℕ) → is_ready (view k ranks ks r seat) t ≡ true → is_ready (view l ranks ks r seat) t ≡ true
      → IsFiring k ranks ks r seat t s → IsFiring l ranks ks r seat t u → s ≡ u
  same_step k l t s u e f a b =
      let v = ready_work k ranks ks r seat t e in
      let w = ready_work l ranks ks r seat t f in
      sym (firing_of k t s a v.0 v.1)
      ∙ ap step_of (number_one ks v.0 w.0 v.1.ours w.1.ours (numbered k t v.0 v.1 ∙ sym (numbered l t w.0 w.1)))
      ∙ firing_of l t u b w.0 w.1
