-- How long an interleaving is, and that it ends exactly where nothing is left.
use Rattle.std.proofs.Common.{ℕ, Bool, true, false, ◌≡◌, ◌≤◌, ◌<◌, ◌⊎◌, List, [], refl, length, map, ap, ◌∙◌, sym, inl, inr, arith}
use Rattle.std.proofs.Common.{count_by}
use Rattle.std.proofs.lemmas.Bool.{cases_eq}
use Rattle.std.proofs.lemmas.List.{length-map}
use Rattle.ptl_types.specs.declared.headers.Lane.{Lane}
use Rattle.ptl_types.specs.declared.headers.Lane.TheVariants.{Request, Answer as AnswerLane}
use Rattle.ni_model.specs.Ready.{is_ready}
use Rattle.cuts.specs.histories.History.{is_start}
use Rattle.cuts.specs.histories.Moment.{IsStill, Lanes}
use Rattle.coll_lang.specs.declared.choices.ChoiceKind.{ChoiceKind}
use Rattle.plan_choice.specs.texts.machine.Counted.{steps_due, steps_made}
use Rattle.plan_choice.proofs.texts.machine.Counting.{answers_few, asks_few, full_idle, full_no_answers, full_no_asks, full_parts, made_all}
use Rattle.plan_choice.proofs.texts.machine.Counting.{made_le}
use Rattle.plan_choice.specs.texts.view.Install.{Slots, answer_message, ask_message, seat_of}
use Rattle.plan_choice.proofs.texts.view.Firings.{step_fire}
use Rattle.cuts.specs.histories.System.{Histories, state_at}
use Rattle.plan_choice.specs.texts.laws.Decided.{IsInRange, choice_system}
use Rattle.plan_choice.proofs.texts.laws.Agreement.{Agrees}
use Rattle.plan_choice.proofs.texts.laws.Resting.{resting}

module _ (ranks : ℕ) (ks : List ChoiceKind) (slots : ℕ → Slots) (in_range : IsInRange ranks ks) (w : Histories) (held : Lanes)
    (agreed : Agrees ranks ks slots w held) where
  pub history_le : (r : ℕ) → r < ranks → length (w r) ≤ steps_due ranks ks r
  history_le r i = let a = made_le ranks ks agreed.m agreed.lawful r i in let b = agreed.lengths r in omega (arith, a, b)

  pub still_full : IsStill (choice_system ranks ks slots) w held → (r : ℕ) → r < ranks → length (w r) ≡ steps_due ranks ks r
  still_full still r i = agreed.lengths r
      ∙ made_all ranks ks agreed.m agreed.lawful (resting ranks ks slots in_range w held agreed still) r i
      (agreed.begun r (still.started r i))

  module _ (full : (r : ℕ) → r < ranks → length (w r) ≡ steps_due ranks ks r) where
    made : (r : ℕ) → r < ranks → steps_made ranks ks agreed.m r ≡ steps_due ranks ks r
    made r i = sym (agreed.lengths r) ∙ full r i

    full_started : (r : ℕ) → r < ranks → 0 < count_by is_start (w r)
    full_started r i = at (cases_eq (count_by is_start (w r)) 0)
      where
        no_both : {b : Bool} → b ≡ false → b ≡ true → ⊥
        no_both e f = cc

        at : ((count_by is_start (w r) ≡ 0) ⊎ (count_by is_start (w r) ≡ 0 → ⊥)) → 0 < count_by is_start (w r)
        at (inl e) = absurd (no_both (agreed.fresh r e) (full_parts ranks ks agreed.m agreed.lawful r i (made r i)).0)
        at (inr n) = omega arith

    full_empty : (s d : ℕ) (lane : Lane) → s < ranks → d < ranks → held s d lane ≡ []
    full_empty s d Request i j = elim (cases_eq d 0) [
      | inl e ↦ ap (λ v. held s v Request) e ∙ agreed.asks s
          ∙ ap (map (ask_message (slots s) ks s)) (full_no_asks ranks ks agreed.m agreed.lawful s i (made s i))
      | inr n ↦ agreed.no_request s d (λ e. n (sym e))
    ]
    full_empty s d AnswerLane i j = elim (cases_eq s 0) [
      | inl e ↦ ap (λ v. held v d AnswerLane) e ∙ agreed.answers d
          ∙ ap (map (answer_message (slots d) ks d)) (full_no_answers ranks ks agreed.m agreed.lawful d j (made d j))
      | inr n ↦ agreed.no_answer s d n
    ]

    full_none : (r t : ℕ) → r < ranks → is_ready (state_at (choice_system ranks ks slots) w r) t ≡ false
    full_none r t i = at (is_ready (state_at (choice_system ranks ks slots) w r) t) refl
      where
        no_both : {b : Bool} → b ≡ false → b ≡ true → ⊥
        no_both e f = cc

        at : (b : Bool) → is_ready (state_at (choice_system ranks ks slots) w r) t ≡ b → b ≡ false
        at false e = refl
        at true e =
            let f = step_fire (slots r) ranks ks r (seat_of ks agreed.m r) t (ap (λ v. is_ready v t) (sym (agreed.states r)) ∙ e) in
            absurd (no_both (full_idle ranks ks agreed.m agreed.lawful r i (made r i) f.0 f.1.known) f.1.ready)

    pub full_still : IsStill (choice_system ranks ks slots) w held
    full_still = record { started = full_started; empty = full_empty; idle = full_none }

  -- a lane holds at most one message for each step of the text
  pub lane_few : (s d : ℕ) (lane : Lane) → s < ranks → d < ranks → length (held s d lane) ≤ length ks
  lane_few s d Request i j = elim (cases_eq d 0) [
    | inl e ↦ (let a = ap length (ap (λ v. held s v Request) e ∙ agreed.asks s) in let b =
        length-map (agreed.m.asks s) (ask_message (slots s) ks s) in let c = asks_few ranks ks agreed.m agreed.lawful s i in
        omega (arith, a, b, c))
    | inr n ↦ (let a = ap length (agreed.no_request s d (λ e. n (sym e))) in omega (arith, a))
  ]
  lane_few s d AnswerLane i j = elim (cases_eq s 0) [
    | inl e ↦ (let a = ap length (ap (λ v. held v d AnswerLane) e ∙ agreed.answers d) in let b =
        length-map (agreed.m.answers d) (answer_message (slots d) ks d) in let c = answers_few ranks ks agreed.m agreed.lawful d j in
        omega (arith, a, b, c))
    | inr n ↦ (let a = ap length (agreed.no_answer s d n) in omega (arith, a))
  ]
