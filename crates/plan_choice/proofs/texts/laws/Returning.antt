-- An answer that comes home is the machine's.
use Rattle.std.proofs.Common.{ℕ, true, ◌≡◌, ◌<◌, ◌⊎◌, List, [], ◌∷◌, ◌++◌, refl, length, map, filter, ap, ap₂, ◌∙◌, sym, subst, inl, inr}
use Rattle.std.proofs.Common.{None, append-nil, count_by}
use Rattle.std.proofs.lemmas.Bool.{cases_eq}
use Rattle.ptl_types.specs.declared.headers.Lane.{Lane}
use Rattle.ptl_types.specs.declared.headers.Lane.TheVariants.{Request, Answer as AnswerLane}
use Rattle.ptl_types.specs.Messages.{Sent}
use Rattle.ptl_types.specs.declared.calls.Outcome.TheVariants.{Answered as IsAnswered}
use Rattle.ni_model.specs.State.{Delivers, delivers, target}
use Rattle.cuts.specs.histories.History.{and_then, is_for, is_start}
use Rattle.cuts.specs.histories.History.Local.{Receive}
use Rattle.cuts.specs.histories.Moment.{IsLocalStep, Lanes}
use Rattle.cuts.proofs.rest.Longer.{got_one, got_other}
use Rattle.plan_core.specs.Members.{In}
use Rattle.coll_lang.specs.declared.choices.ChoiceKind.{ChoiceKind}
use Rattle.plan_choice.specs.texts.machine.Choices.{choice_at}
use Rattle.coll_lang.specs.declared.choices.ChoiceKind.TheVariants.{Elect, Tickets}
use Rattle.plan_choice.specs.texts.machine.Machine.{Answer, Moment, Phase, at_home, returned}
use Rattle.plan_choice.specs.texts.machine.Lawful.{Holds, IsAnswer, is_plain}
use Rattle.plan_choice.proofs.texts.machine.Places.{put-other, put-same, put_in-rank, put_in-row}
use Rattle.plan_choice.proofs.texts.machine.Moments.{returned_lawful}
use Rattle.plan_choice.specs.texts.machine.Counted.{steps_made}
use Rattle.plan_choice.proofs.texts.machine.Counting.{made_returned, made_returned_other}
use Rattle.plan_choice.specs.texts.view.Install.{Slots, answer_message, seat_of, view}
use Rattle.plan_choice.specs.texts.view.Steps.{with_phase}
use Rattle.plan_choice.proofs.texts.view.StepReturn.{step_return}
use Rattle.cuts.specs.histories.System.{Histories, System, state_at}
use Rattle.plan_choice.specs.texts.laws.Decided.{choice_system}
use Rattle.plan_choice.proofs.texts.laws.Agreement.{Agrees, Moved, lane_gains, lane_gains_none, lane_gives, lane_gives_none, lengths_next}
use Rattle.plan_choice.proofs.texts.laws.Agreement.{starts_stay, state_moved, state_stays, untaken}
use Rattle.plan_choice.proofs.texts.laws.Serving.{first_of, got_lane}

module _ (ranks : ℕ) (kinds : List ChoiceKind) (slots : ℕ → Slots) (world : Histories) (held : Lanes)
    (agreed : Agrees ranks kinds slots world held) (world_after : Histories) (held_after : Lanes)
    (step : IsLocalStep (choice_system ranks kinds slots) world held world_after held_after) where
  -- the system
  abbrev pub system : System
  system = choice_system ranks kinds slots

  -- a is the first of the answers for this rank
  module _ (msg : Sent) (is : step.e ≡ Receive 0 AnswerLane msg) (a : Answer) (answers : List Answer)
      (whole : agreed.m.answers step.r ≡ a ∷ answers) (same : answer_message (slots step.r) kinds step.r a ≡ msg)
      (left_over : map (answer_message (slots step.r) kinds step.r) answers ≡ step.rest 0 step.r AnswerLane) where
    -- the machine's moment after it
    abbrev pub return_next : Moment
    return_next = returned kinds step.r a answers agreed.m

    -- the phase after it
    abbrev pub home_phase : Phase
    home_phase = at_home (choice_at kinds a.step) (agreed.m.phase step.r a.step)

    known : (a.step < length kinds) × IsAnswer (agreed.m.phase step.r a.step) a
    known = (agreed.lawful.flight step.r step.in_range).answers_known a (subst (In a) (sym whole) (inl refl))

    plain : (c : ChoiceKind) → Holds c ranks (λ q. agreed.m.phase q a.step) (agreed.m.word a.step) → c ≡ Tickets
        → is_plain (agreed.m.phase step.r a.step) ≡ true
    plain Elect h e = cc
    plain Tickets h e = h.plain step.r step.in_range

    does : target (state_at system world step.r) msg
        ≡ delivers (view (slots step.r) ranks kinds step.r (with_phase a.step home_phase (seat_of kinds agreed.m step.r))) IsAnswered None
    does =
        ap₂ target (agreed.states step.r) (sym same)
        ∙ step_return (slots step.r) ranks kinds step.r (seat_of kinds agreed.m step.r) a known.0 known.1
        (plain (choice_at kinds a.step) (agreed.lawful.holds a.step known.0))

    return_state : (q : ℕ) → ((q ≡ step.r) ⊎ (q ≡ step.r → ⊥))
        → state_at system world_after q ≡ view (slots q) ranks kinds q (seat_of kinds return_next q)
    return_state q (inr m) = state_stays system world held world_after held_after step q m ∙ agreed.states q
        ∙ (λ d. view (slots q) ranks kinds q
        (record (seat_of kinds agreed.m q) { phase = λ u. sym (put_in-rank step.r a.step home_phase agreed.m.phase q u m) d }))
    return_state q (inl i) = subst (λ v. state_at system world_after v ≡ view (slots v) ranks kinds v (seat_of kinds return_next v)) (sym i)
        (state_moved system world held world_after held_after step (Receive 0 AnswerLane msg) is
        ∙ ap (λ (v : Delivers). v.state) does
        ∙ (λ d. view (slots step.r) ranks kinds step.r
        (record (seat_of kinds agreed.m step.r) { phase = λ u. sym (put_in-row step.r a.step home_phase agreed.m.phase u) d })))

    -- nothing is sent
    return_left : (q d : ℕ) (lane : Lane) → held_after q d lane ≡ step.rest q d lane
    return_left q d lane = elim (cases_eq q step.r) [
      | inl i ↦ subst (λ v. held_after v d lane ≡ step.rest v d lane) (sym i)
          (lane_gains system world held world_after held_after step (Receive 0 AnswerLane msg) is d lane
          ∙ ap (λ (x : Delivers). step.rest step.r d lane ++ filter (is_for d lane) (and_then x.delivered.answer [])) does
          ∙ append-nil (step.rest step.r d lane))
      | inr m ↦ lane_gains_none system world held world_after held_after step q d lane m
    ]

    return_requests : (q d : ℕ) → held_after q d Request ≡ held q d Request
    return_requests q d = return_left q d Request
        ∙ untaken system world held world_after held_after step (Receive 0 AnswerLane msg) is q d Request
        (got_lane 0 q AnswerLane Request msg refl)

    return_answers : (q : ℕ) → held_after 0 q AnswerLane ≡ map (answer_message (slots q) kinds q) (return_next.answers q)
    return_answers q = return_left 0 q AnswerLane ∙ elim (cases_eq q step.r) [
      | inl i ↦ subst (λ v. step.rest 0 v AnswerLane ≡ map (answer_message (slots v) kinds v) (return_next.answers v)) (sym i)
          (sym left_over ∙ ap (map (answer_message (slots step.r) kinds step.r)) (sym (put-same step.r answers agreed.m.answers)))
      | inr m ↦ lane_gives_none system world held world_after held_after step 0 q AnswerLane m ∙ agreed.answers q
          ∙ ap (map (answer_message (slots q) kinds q)) (sym (put-other step.r answers agreed.m.answers q m))
    ]

    starts_same : (q : ℕ) → count_by is_start (world_after q) ≡ count_by is_start (world q)
    starts_same q = starts_stay system world held world_after held_after step (Receive 0 AnswerLane msg) is refl q

    pub agrees_return : Moved ranks kinds slots agreed.m step.r (Receive 0 AnswerLane msg) world_after held_after
    agrees_return = record {
      agrees = record {
        m = return_next;
        lawful = returned_lawful ranks kinds agreed.m step.r a answers step.in_range whole agreed.lawful;
        states = λ q. return_state q (cases_eq q step.r);
        fresh = λ q i. agreed.fresh q (sym (starts_same q) ∙ i);
        begun = λ q i. agreed.begun q (subst (λ v. 0 < v) (starts_same q) i);
        lengths = lengths_next system world held world_after held_after step (steps_made ranks kinds agreed.m)
            (steps_made ranks kinds return_next) agreed.lengths
            (made_returned ranks kinds agreed.m step.r a answers agreed.lawful step.in_range known.0 known.1)
            (made_returned_other ranks kinds agreed.m step.r a answers agreed.lawful step.in_range known.0 known.1);
        asks = λ q. return_requests q 0 ∙ agreed.asks q;
        answers = return_answers;
        no_request = λ q d n. return_requests q d ∙ agreed.no_request q d n;
        no_answer = λ q d n. return_left q d AnswerLane
            ∙ untaken system world held world_after held_after step (Receive 0 AnswerLane msg) is q d AnswerLane
            (got_other 0 q AnswerLane AnswerLane msg (λ e. n (sym e))) ∙ agreed.no_answer q d n;
      };
      follows = (a, answers, whole, refl);
    }

  -- any answer that comes
  pub agrees_answer : (s : ℕ) (msg : Sent) → step.e ≡ Receive s AnswerLane msg
      → Moved ranks kinds slots agreed.m step.r (Receive s AnswerLane msg) world_after held_after
  agrees_answer s msg is = at (cases_eq s 0)
    where
      front : held s step.r AnswerLane ≡ msg ∷ step.rest s step.r AnswerLane
      front = lane_gives system world held world_after held_after step (Receive s AnswerLane msg) is s AnswerLane
          ∙ ap (λ v. v ++ step.rest s step.r AnswerLane) (got_one s AnswerLane msg)

      some : {x : Sent} {xs : List Sent} → [] ≡ x ∷ xs → ⊥
      some e = cc

      at : ((s ≡ 0) ⊎ (s ≡ 0 → ⊥)) → Moved ranks kinds slots agreed.m step.r (Receive s AnswerLane msg) world_after held_after
      at (inr m) = absurd (some (sym (agreed.no_answer s step.r m) ∙ front))
      at (inl i) =
          let f = first_of (answer_message (slots step.r) kinds step.r) (agreed.m.answers step.r) msg (step.rest 0 step.r AnswerLane)
          (sym (agreed.answers step.r) ∙ subst (λ v. held v step.r AnswerLane ≡ msg ∷ step.rest v step.r AnswerLane) i front) in
          let k = agrees_return msg (is ∙ ap (λ v. Receive v AnswerLane msg) i) f.first f.others f.whole f.is f.rest in
          record { agrees = k.agrees; follows = k.follows }
