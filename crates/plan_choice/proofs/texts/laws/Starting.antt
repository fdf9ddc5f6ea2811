-- A start and a firing are those of the machine.
use Rattle.std.proofs.Common.{ℕ, true, false, ◌≡◌, ◌<◌, ◌⊎◌, List, [], ◌++◌, refl, map, filter, ap, ap₂, ◌∙◌, sym, subst, inl, inr, arith}
use Rattle.std.proofs.Common.{count_by, append-nil}
use Rattle.std.proofs.lemmas.Bool.{cases_eq}
use Rattle.std.proofs.lemmas.List.{map-append}
use Rattle.ptl_types.specs.declared.headers.Lane.{Lane}
use Rattle.ptl_types.specs.declared.headers.Lane.TheVariants.{Request, Answer as AnswerLane}
use Rattle.ni_model.specs.Ready.{Fires, fired, fires, is_ready}
use Rattle.ni_model.specs.Calls.{Done as Ending}
use Rattle.cuts.specs.histories.History.{and_then, is_for, is_start, made_by}
use Rattle.cuts.specs.histories.History.Local.{Fire, Start}
use Rattle.cuts.specs.histories.Moment.{IsLocalStep, Lanes}
use Rattle.coll_lang.specs.declared.choices.ChoiceKind.{ChoiceKind}
use Rattle.plan_choice.specs.texts.machine.Machine.{Moment, advanced, begun, fired as fired_in, put, sent_at}
use Rattle.plan_choice.proofs.texts.machine.Places.{put-other, put-same, put_in-rank, put_in-row}
use Rattle.plan_choice.proofs.texts.machine.Moments.{begun_lawful, fired_lawful}
use Rattle.plan_choice.specs.texts.machine.Counted.{steps_made}
use Rattle.plan_choice.proofs.texts.machine.Counting.{made_begun, made_begun_other, made_fired, made_fired_other}
use Rattle.plan_choice.specs.texts.view.Install.{Slots, ask_message, seat_of, view}
use Rattle.plan_choice.specs.texts.view.Steps.{sent_message, with_phase}
use Rattle.plan_choice.proofs.texts.view.StepFire.{increment_starts}
use Rattle.plan_choice.proofs.texts.view.Firings.{IsFiring, step_fire}
use Rattle.cuts.specs.histories.System.{Histories, System, state_at}
use Rattle.plan_choice.specs.texts.laws.Decided.{choice_system}
use Rattle.plan_choice.proofs.texts.laws.Agreement.{Agrees, Moved, lane_gains, lane_gains_none, lengths_next, sent_kept, sent_list}
use Rattle.plan_choice.proofs.texts.laws.Agreement.{sent_no_answer, sent_no_rank, starts_counted, starts_stay, state_moved, state_stays}
use Rattle.plan_choice.proofs.texts.laws.Agreement.{untaken}

module _ (ranks : ℕ) (kinds : List ChoiceKind) (slots : ℕ → Slots) (world : Histories) (held : Lanes)
    (agreed : Agrees ranks kinds slots world held) (world_after : Histories) (held_after : Lanes)
    (step : IsLocalStep (choice_system ranks kinds slots) world held world_after held_after) where
  -- the system, and the rank that makes the step
  abbrev pub system : System
  system = choice_system ranks kinds slots

  -- ---- a start
  module _ (is : step.e ≡ Start) (fresh : count_by is_start (world step.r) ≡ 0) where
    start_held : (s d : ℕ) (lane : Lane) → held_after s d lane ≡ held s d lane
    start_held s d lane = elim (cases_eq s step.r) [
      | inl i ↦ subst (λ v. held_after v d lane ≡ held v d lane) (sym i)
          (lane_gains system world held world_after held_after step Start is d lane ∙ append-nil (step.rest step.r d lane)
          ∙ untaken system world held world_after held_after step Start is step.r d lane refl)
      | inr m ↦ lane_gains_none system world held world_after held_after step s d lane m
          ∙ untaken system world held world_after held_after step Start is s d lane refl
    ]

    start_state : (q : ℕ) → ((q ≡ step.r) ⊎ (q ≡ step.r → ⊥))
        → state_at system world_after q ≡ view (slots q) ranks kinds q (seat_of kinds (begun step.r agreed.m) q)
    start_state q (inr m) = state_stays system world held world_after held_after step q m ∙ agreed.states q
        ∙ ap (λ b. view (slots q) ranks kinds q (record (seat_of kinds agreed.m q) { started = b }))
        (sym (put-other step.r true agreed.m.started q m))
    start_state q (inl i) =
        subst (λ v. state_at system world_after v ≡ view (slots v) ranks kinds v (seat_of kinds (begun step.r agreed.m) v)) (sym i)
        (state_moved system world held world_after held_after step Start is
        ∙ ap (system.go step.r).by (agreed.states step.r)
        ∙ ap (λ (e : Ending _). e.state)
        (increment_starts (slots step.r) ranks kinds step.r (seat_of kinds agreed.m step.r) (agreed.fresh step.r fresh))
        ∙ ap (λ b. view (slots step.r) ranks kinds step.r (record (seat_of kinds agreed.m step.r) { started = b }))
        (sym (put-same step.r true agreed.m.started)))

    start_fresh : (q : ℕ) → count_by is_start (world_after q) ≡ 0 → put step.r true agreed.m.started q ≡ false
    start_fresh q i = elim (cases_eq q step.r) [
      | inl j ↦ (
          let a = starts_counted system world held world_after held_after step Start is in
          let b = ap (λ v. count_by is_start (world_after v)) j in
          absurd (omega (arith, a, b, i)))
      | inr m ↦ put-other step.r true agreed.m.started q m ∙ agreed.fresh q (ap (count_by is_start) (sym (step.others q m)) ∙ i)
    ]

    start_begun : (q : ℕ) → 0 < count_by is_start (world_after q) → put step.r true agreed.m.started q ≡ true
    start_begun q i = elim (cases_eq q step.r) [
      | inl j ↦ ap (put step.r true agreed.m.started) j ∙ put-same step.r true agreed.m.started
      | inr m ↦ put-other step.r true agreed.m.started q m ∙ agreed.begun q (subst (λ v. 0 < count_by is_start v) (step.others q m) i)
    ]

    pub agrees_start : Moved ranks kinds slots agreed.m step.r Start world_after held_after
    agrees_start = record {
      agrees = record {
        m = begun step.r agreed.m;
        lawful = begun_lawful ranks kinds agreed.m step.r agreed.lawful;
        states = λ q. start_state q (cases_eq q step.r);
        fresh = start_fresh;
        begun = start_begun;
        lengths = lengths_next system world held world_after held_after step (steps_made ranks kinds agreed.m)
            (steps_made ranks kinds (begun step.r agreed.m)) agreed.lengths
            (made_begun ranks kinds agreed.m step.r (agreed.fresh step.r fresh)) (made_begun_other ranks kinds agreed.m step.r);
        asks = λ q. start_held q 0 Request ∙ agreed.asks q;
        answers = λ q. start_held 0 q AnswerLane ∙ agreed.answers q;
        no_request = λ s d n. start_held s d Request ∙ agreed.no_request s d n;
        no_answer = λ s d n. start_held s d AnswerLane ∙ agreed.no_answer s d n;
      };
      follows = refl;
    }

  -- ---- a firing
  module _ (t s : ℕ) (is : step.e ≡ Fire t)
      (ready : is_ready (view (slots step.r) ranks kinds step.r (seat_of kinds agreed.m step.r)) t ≡ true)
      (firing : IsFiring (slots step.r) ranks kinds step.r (seat_of kinds agreed.m step.r) t s) where
    -- the machine's moment after it
    abbrev pub fire_next : Moment
    fire_next = fired_in step.r s agreed.m

    does_here : fired (state_at system world step.r) t
        ≡ fires (view (slots step.r) ranks kinds step.r (with_phase s (advanced (agreed.m.phase step.r s)) (seat_of kinds agreed.m step.r)))
        (sent_message (slots step.r) kinds step.r s (agreed.m.phase step.r s))
    does_here = ap (λ v. fired v t) (agreed.states step.r) ∙ firing.does

    fire_state : (q : ℕ) → ((q ≡ step.r) ⊎ (q ≡ step.r → ⊥))
        → state_at system world_after q ≡ view (slots q) ranks kinds q (seat_of kinds fire_next q)
    fire_state q (inr m) = state_stays system world held world_after held_after step q m ∙ agreed.states q
        ∙ (λ d. view (slots q) ranks kinds q
        (record (seat_of kinds agreed.m q)
        { phase = λ u. sym (put_in-rank step.r s (advanced (agreed.m.phase step.r s)) agreed.m.phase q u m) d }))
    fire_state q (inl i) = subst (λ v. state_at system world_after v ≡ view (slots v) ranks kinds v (seat_of kinds fire_next v)) (sym i)
        (state_moved system world held world_after held_after step (Fire t) is
        ∙ ap (λ (f : Fires). f.state) does_here
        ∙ (λ d. view (slots step.r) ranks kinds step.r
        (record (seat_of kinds agreed.m step.r)
        { phase = λ u. sym (put_in-row step.r s (advanced (agreed.m.phase step.r s)) agreed.m.phase u) d })))

    fire_made : and_then (made_by (state_at system world step.r) (Fire t)) []
        ≡ map (ask_message (slots step.r) kinds step.r) (sent_at s (agreed.m.phase step.r s))
    fire_made = ap (λ (f : Fires). and_then f.message []) does_here ∙ sent_list (slots step.r) kinds step.r s (agreed.m.phase step.r s)

    fire_left : (d : ℕ) (lane : Lane)
        → held_after step.r d lane ≡ held step.r d lane ++ filter (is_for d lane)
        (map (ask_message (slots step.r) kinds step.r) (sent_at s (agreed.m.phase step.r s)))
    fire_left d lane = lane_gains system world held world_after held_after step (Fire t) is d lane
        ∙ ap₂ (λ x y. x ++ filter (is_for d lane) y)
        (untaken system world held world_after held_after step (Fire t) is step.r d lane refl) fire_made

    fire_there : (q d : ℕ) (lane : Lane) → (q ≡ step.r → ⊥) → held_after q d lane ≡ held q d lane
    fire_there q d lane m = lane_gains_none system world held world_after held_after step q d lane m
        ∙ untaken system world held world_after held_after step (Fire t) is q d lane refl

    fire_asks : (q : ℕ) → held_after q 0 Request ≡ map (ask_message (slots q) kinds q) (fire_next.asks q)
    fire_asks q = elim (cases_eq q step.r) [
      | inl i ↦ subst (λ v. held_after v 0 Request ≡ map (ask_message (slots v) kinds v) (fire_next.asks v)) (sym i)
          (fire_left 0 Request
          ∙ ap₂ (λ x y. x ++ y) (agreed.asks step.r) (sent_kept (slots step.r) kinds step.r s (agreed.m.phase step.r s))
          ∙ sym (map-append (ask_message (slots step.r) kinds step.r) (agreed.m.asks step.r) (sent_at s (agreed.m.phase step.r s)))
          ∙ ap (map (ask_message (slots step.r) kinds step.r))
          (sym (put-same step.r (agreed.m.asks step.r ++ sent_at s (agreed.m.phase step.r s)) agreed.m.asks)))
      | inr m ↦ fire_there q 0 Request m ∙ agreed.asks q
          ∙ ap (map (ask_message (slots q) kinds q))
          (sym (put-other step.r (agreed.m.asks step.r ++ sent_at s (agreed.m.phase step.r s)) agreed.m.asks q m))
    ]

    fire_answers : (q d : ℕ) → held_after q d AnswerLane ≡ held q d AnswerLane
    fire_answers q d = elim (cases_eq q step.r) [
      | inl i ↦ subst (λ v. held_after v d AnswerLane ≡ held v d AnswerLane) (sym i)
          (fire_left d AnswerLane ∙ ap (λ y. held step.r d AnswerLane ++ y)
          (sent_no_answer (slots step.r) kinds step.r s d (agreed.m.phase step.r s)) ∙ append-nil (held step.r d AnswerLane))
      | inr m ↦ fire_there q d AnswerLane m
    ]

    fire_requests : (q d : ℕ) → (0 ≡ d → ⊥) → held_after q d Request ≡ held q d Request
    fire_requests q d n = elim (cases_eq q step.r) [
      | inl i ↦ subst (λ v. held_after v d Request ≡ held v d Request) (sym i)
          (fire_left d Request
          ∙ ap (λ y. held step.r d Request ++ y) (sent_no_rank (slots step.r) kinds step.r s d n (agreed.m.phase step.r s))
          ∙ append-nil (held step.r d Request))
      | inr m ↦ fire_there q d Request m
    ]

    pub agrees_fire : Moved ranks kinds slots agreed.m step.r (Fire t) world_after held_after
    agrees_fire = record {
      agrees = record {
        m = fire_next;
        lawful = fired_lawful ranks kinds agreed.m step.r s step.in_range firing.known firing.ready agreed.lawful;
        states = λ q. fire_state q (cases_eq q step.r);
        fresh = λ q i. agreed.fresh q (sym (starts_stay system world held world_after held_after step (Fire t) is refl q) ∙ i);
        begun = λ q i. agreed.begun q (subst (λ v. 0 < v) (starts_stay system world held world_after held_after step (Fire t) is refl q) i);
        lengths = lengths_next system world held world_after held_after step (steps_made ranks kinds agreed.m)
            (steps_made ranks kinds fire_next) agreed.lengths
            (made_fired ranks kinds agreed.m step.r s firing.known firing.ready) (made_fired_other ranks kinds agreed.m step.r s);
        asks = fire_asks;
        answers = λ q. fire_answers 0 q ∙ agreed.answers q;
        no_request = λ q d n. fire_requests q d n ∙ agreed.no_request q d n;
        no_answer = λ q d n. fire_answers q d ∙ agreed.no_answer q d n;
      };
      follows = (s, ready, firing, refl);
    }

  -- any ready operation
  pub agrees_firing : (t : ℕ) → step.e ≡ Fire t → is_ready (state_at system world step.r) t ≡ true
      → Moved ranks kinds slots agreed.m step.r (Fire t) world_after held_after
  agrees_firing t is ready =
      let reached = ap (λ v. is_ready v t) (sym (agreed.states step.r)) ∙ ready in
      let f = step_fire (slots step.r) ranks kinds step.r (seat_of kinds agreed.m step.r) t reached in
      agrees_fire t f.0 is reached f.1
