-- Where the moments of the machine are the same, so are the enabled steps.
use Rattle.std.proofs.Common.{ℕ, cond, ◌≡◌, ◌<◌, nat_lt, List, [], ◌∷◌, ◌++◌, refl, map, flat_map, ap, ap₂, ◌∙◌, sym, subst, inl, inr}
use Rattle.std.proofs.Common.{arith, count_by, lt-ltb}
use Rattle.std.proofs.lemmas.Bool.{cases_eq}
use Rattle.ptl_types.specs.declared.headers.Lane.{Lane}
use Rattle.ptl_types.specs.declared.headers.Lane.TheVariants.{Request, Answer as AnswerLane}
use Rattle.ptl_types.specs.Messages.{Sent}
use Rattle.ni_model.specs.Ready.{ready_numbers}
use Rattle.plan_core.specs.Plan.{from_to}
use Rattle.cuts.specs.histories.History.{is_start}
use Rattle.cuts.specs.orders.Chosen.{Scene, deliveries_between, enabled_steps, firings_at, first_of, start_at}
use Rattle.cuts.specs.declared.orders.Step.TheVariants.{Start, Fire}
use Rattle.coll_lang.specs.declared.choices.ChoiceKind.{ChoiceKind}
use Rattle.plan_choice.specs.texts.machine.Machine.{Moment}
use Rattle.plan_choice.specs.texts.view.Install.{Slots, answer_message, ask_message, seat_of, view}
use Rattle.plan_choice.specs.texts.laws.Decided.{choice_system}
use Rattle.plan_choice.proofs.texts.laws.Agreement.{Agrees}
use Rattle.plan_choice.proofs.texts.orders.Firings.{same_numbers}

-- whether there is a first message is told by what stands for the messages
first_alike : {X : Type 0} (f g : X → Sent) (s d : ℕ) (lane : Lane) (xs : List X)
    → first_of s d lane (map f xs) ≡ first_of s d lane (map g xs)
first_alike f g s d lane [] = refl
first_alike f g s d lane (x ∷ xs) = refl

-- whether a rank has started is in the moment
started_in : (ranks : ℕ) (ks : List ChoiceKind) (slots : ℕ → Slots) (z : Scene) (now : Agrees ranks ks slots z.world z.held) (r : ℕ)
    → nat_lt 0 (count_by is_start (z.world r)) ≡ now.m.started r
started_in ranks ks slots z now r = elim (cases_eq (count_by is_start (z.world r)) 0) [
  | inl e ↦ ap (nat_lt 0) e ∙ sym (now.fresh r e)
  | inr n ↦ (let h : 0 < count_by is_start (z.world r) = omega arith in lt-ltb 0 (count_by is_start (z.world r)) h ∙ sym (now.begun r h))
]

module _ (ranks : ℕ) (ks : List ChoiceKind) (slots others : ℕ → Slots) (z y : Scene) (one : Agrees ranks ks slots z.world z.held)
    (two : Agrees ranks ks others y.world y.held) (same : one.m ≡ two.m) where
  same_start : (r : ℕ) → start_at z r ≡ start_at y r
  same_start r = ap (λ b. cond b [] (Start r ∷ []))
      (started_in ranks ks slots z one r ∙ ap (λ (m : Moment). m.started r) same ∙ sym (started_in ranks ks others y two r))

  same_request : (s d : ℕ) → first_of s d Request (z.held s d Request) ≡ first_of s d Request (y.held s d Request)
  same_request s d = elim (cases_eq 0 d) [
    | inl e ↦ subst (λ v. first_of s v Request (z.held s v Request) ≡ first_of s v Request (y.held s v Request)) e
        (ap (first_of s 0 Request) (one.asks s)
        ∙ first_alike (ask_message (slots s) ks s) (ask_message (others s) ks s) s 0 Request (one.m.asks s)
        ∙ ap (λ (m : Moment). first_of s 0 Request (map (ask_message (others s) ks s) (m.asks s))) same
        ∙ ap (first_of s 0 Request) (sym (two.asks s)))
    | inr n ↦ ap (first_of s d Request) (one.no_request s d n ∙ sym (two.no_request s d n))
  ]

  same_answer : (s d : ℕ) → first_of s d AnswerLane (z.held s d AnswerLane) ≡ first_of s d AnswerLane (y.held s d AnswerLane)
  same_answer s d = elim (cases_eq s 0) [
    | inl e ↦ subst (λ v. first_of v d AnswerLane (z.held v d AnswerLane) ≡ first_of v d AnswerLane (y.held v d AnswerLane)) (sym e)
        (ap (first_of 0 d AnswerLane) (one.answers d)
        ∙ first_alike (answer_message (slots d) ks d) (answer_message (others d) ks d) 0 d AnswerLane (one.m.answers d)
        ∙ ap (λ (m : Moment). first_of 0 d AnswerLane (map (answer_message (others d) ks d) (m.answers d))) same
        ∙ ap (first_of 0 d AnswerLane) (sym (two.answers d)))
    | inr n ↦ ap (first_of s d AnswerLane) (one.no_answer s d n ∙ sym (two.no_answer s d n))
  ]

  same_deliveries : (s d : ℕ) → deliveries_between z s d ≡ deliveries_between y s d
  same_deliveries s d = ap₂ (λ u v. u ++ v) (same_request s d) (same_answer s d)

  same_firings : (r : ℕ) → firings_at (choice_system ranks ks slots) z r ≡ firings_at (choice_system ranks ks others) y r
  same_firings r = ap (map (Fire r))
      (ap ready_numbers (one.states r)
      ∙ same_numbers ranks ks r (seat_of ks one.m r) (slots r) (others r)
      ∙ ap (λ (m : Moment). ready_numbers (view (others r) ranks ks r (seat_of ks m r))) same
      ∙ sym (ap ready_numbers (two.states r)))

  pub same_enabled : enabled_steps (choice_system ranks ks slots) z ≡ enabled_steps (choice_system ranks ks others) y
  same_enabled = λ i.
      flat_map (λ r. same_start r i) (from_to 0 ranks)
      ++ (flat_map (λ s. flat_map (λ d. same_deliveries s d i) (from_to 0 ranks)) (from_to 0 ranks)
      ++ flat_map (λ r. same_firings r i) (from_to 0 ranks))
