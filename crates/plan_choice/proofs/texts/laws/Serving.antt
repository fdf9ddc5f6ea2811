-- A request that comes to rank 0 is the machine's: what the step leaves agrees with the machine's moment in which it has been served.
--
-- The step receives the first message on the lane of requests from some rank, the asker, to rank 0. In five steps:
--   1. That lane holds the machine's asks, so the message is that of the asker's first ask (`agrees_request`, by `first_of`), and the
--      machine knows the ask (`is_step`, `is_due`).
--   2. Rank 0's interface takes the word that the machine takes, and gives the machine's answer (`serves`).
--   3. Each interface shows its seat of the moment after: the words are new at rank 0 alone (`states_show`), and the asker's phase is
--      new, which shows nowhere (`phases_show`).
--   4. The lanes: of the requests that one alone is gone (`asks_left`), and the asker's lane of answers has one more (`answers_left`).
--   5. So all agrees with that moment (`agrees_serve`).
use Rattle.std.proofs.Common.{ℕ, suc, true, false, cond, ◌&&◌, ◌==◌, ◌^◌, ◌≡◌, ◌≤◌, ◌<◌, ◌⊎◌, List, [], ◌∷◌, ◌++◌, refl, length, map}
use Rattle.std.proofs.Common.{filter, ap, ap₂, ◌∙◌, sym, subst, inl, inr, arith, Some, append-nil, count_by, if◌then◌else◌}
use Rattle.std.proofs.lemmas.Bool.{cases_eq, ne_eqb}
use Rattle.std.proofs.lemmas.List.{map-append}
use Rattle.ptl_types.specs.declared.headers.Lane.{Lane}
use Rattle.ptl_types.specs.declared.headers.Lane.TheVariants.{Request, Answer as AnswerLane}
use Rattle.ptl_types.specs.Messages.{Sent}
use Rattle.ptl_types.specs.declared.calls.Outcome.TheVariants.{Matched}
use Rattle.ni_model.specs.State.{Delivers, State, delivers, target}
use Rattle.cuts.specs.histories.History.{Local, and_then, got, is_for, is_start, same_lane}
use Rattle.cuts.specs.histories.History.Local.{Receive}
use Rattle.cuts.specs.histories.Moment.{IsLocalStep, Lanes}
use Rattle.cuts.proofs.rest.Longer.{got_one, got_other}
use Rattle.plan_core.specs.Members.{In}
use Rattle.coll_lang.specs.declared.choices.ChoiceKind.{ChoiceKind}
use Rattle.plan_choice.specs.texts.machine.Choices.{choice_at}
use Rattle.coll_lang.specs.declared.choices.ChoiceKind.TheVariants.{Elect, Tickets}
use Rattle.plan_choice.specs.texts.machine.Machine.{Answer, Ask, Moment, Phase, answer, put, served, taken, word_after}
use Rattle.plan_choice.specs.texts.machine.Lawful.{Holds, IsAsk}
use Rattle.plan_choice.proofs.texts.machine.Places.{put-other, put-same, put_in-rank, put_in-row}
use Rattle.plan_choice.proofs.texts.machine.Words.{word_le}
use Rattle.plan_choice.proofs.texts.machine.Moments.{taken_lawful}
use Rattle.plan_choice.specs.texts.machine.Counted.{steps_made}
use Rattle.plan_choice.proofs.texts.machine.Counting.{made_taken, made_taken_other}
use Rattle.plan_choice.specs.texts.view.Install.{ChoiceRank, Slots, answer_message, ask_message, first_words, seat_of, view}
use Rattle.plan_choice.specs.texts.view.Steps.{with_phase}
use Rattle.plan_choice.proofs.texts.view.StepStart.{served_view}
use Rattle.plan_choice.proofs.texts.view.StepServe.{step_serve}
use Rattle.cuts.specs.histories.System.{Histories, System, state_at}
use Rattle.plan_choice.specs.texts.laws.Decided.{IsInRange, choice_system}
use Rattle.plan_choice.proofs.texts.laws.Agreement.{Agrees, GoesTo, Moved, answer_goes, answer_no_ask, both_false, dropped_one, for_answer}
use Rattle.plan_choice.proofs.texts.laws.Agreement.{for_rank, kept_one, lane_gains, lane_gains_none, lane_gives, lane_gives_none}
use Rattle.plan_choice.proofs.texts.laws.Agreement.{lengths_next}
use Rattle.plan_choice.proofs.texts.laws.Agreement.{starts_stay, state_moved, state_stays, untaken}

-- ---- the first of a lane
-- a list whose messages are y and then ys has a first, whose message is y
pub record IsFirst {X Y : Type 0} (f : X → Y) (xs : List X) (y : Y) (ys : List Y) : Type 0 where
  pub first : X
  pub others : List X
  pub whole : xs ≡ first ∷ others
  pub is : f first ≡ y
  pub rest : map f others ≡ ys

pub first_of : {X Y : Type 0} (f : X → Y) (xs : List X) (y : Y) (ys : List Y) → map f xs ≡ y ∷ ys → IsFirst f xs y ys
first_of f [] y ys e = cc
first_of f (x ∷ xs) y ys e = record { first = x; others = xs; whole = refl; is = cc; rest = cc }

-- a receipt on one of the two lanes of a pair takes nothing from the other
pub got_lane : (source from : ℕ) (lane other : Lane) (m : Sent) → same_lane lane other ≡ false →
    got (Receive source lane m ∷ []) from other ≡ []
got_lane source from lane other m differ =
    ap (λ b. cond b (m ∷ []) []) (ap (λ same. (source == from) && same) differ ∙ both_false (source == from))

-- ---- the word of a step is a word
pub word_small : (ranks : ℕ) (kind : ChoiceKind) (phase : ℕ → Phase) (word : ℕ) → ranks ≤ 256 → Holds kind ranks phase word →
    word < 2 ^ 64
word_small ranks Elect phase word at_most holds = elim holds.known [
  | inl is_top ↦ omega (arith, is_top)
  | inr is_rank ↦ omega (arith, is_rank, at_most)
]
word_small ranks Tickets phase word at_most holds = let given = word_le ranks word phase holds in omega (arith, given, at_most)

module _ (ranks : ℕ) (kinds : List ChoiceKind) (slots : ℕ → Slots) where
  -- the system of the ranks' interfaces
  abbrev pub system : System
  system = choice_system ranks kinds slots

  -- the interface of rank q that shows this seat
  abbrev pub shown : ℕ → ChoiceRank → State
  shown q seat = view (slots q) ranks kinds q seat

  -- the message of an ask of rank q
  abbrev pub asking : ℕ → Ask → Sent
  asking q = ask_message (slots q) kinds q

  -- the message of an answer to rank q
  abbrev pub answering : ℕ → Answer → Sent
  answering q = answer_message (slots q) kinds q

  -- a step from a moment with which the machine agrees
  module _ (in_range : IsInRange ranks kinds) (world : Histories) (held : Lanes) (agreed : Agrees ranks kinds slots world held)
      (world_after : Histories) (held_after : Lanes)
      (step : IsLocalStep (choice_system ranks kinds slots) world held world_after held_after) where
    -- rank 0 receives a request of the asker, and `ask` is the first of the asker's asks
    module _ (asker : ℕ) (request : Sent) (is : step.e ≡ Receive asker Request request) (in_job : asker < ranks) (at_zero : step.r ≡ 0)
        (ask : Ask) (other_asks : List Ask) (whole : agreed.m.asks asker ≡ ask ∷ other_asks) (carries : asking asker ask ≡ request)
        (left_over : map (asking asker) other_asks ≡ step.rest asker 0 Request) where
      abbrev pub receipt : Local
      receipt = Receive asker Request request

      -- the machine's moment after it
      abbrev pub moment_after : Moment
      moment_after = taken kinds asker ask other_asks agreed.m

      -- the word of the ask's step before and after it, and all words after it
      abbrev pub word_before : ℕ
      word_before = agreed.m.word ask.step

      abbrev pub word_then : ℕ
      word_then = word_after (choice_at kinds ask.step) ask.reads asker word_before

      abbrev pub words_then : ℕ → ℕ
      words_then = put ask.step word_then agreed.m.word

      -- the asker's phase in that step after it
      abbrev pub phase_then : Phase
      phase_then = served word_before (agreed.m.phase asker ask.step)

      -- the answer, and its message
      abbrev pub given : Answer
      given = answer ask.step ask.reads word_before

      abbrev pub reply : Sent
      reply = answering asker given

      -- a seat in which the words are new and the phases are old
      abbrev pub with_words : ℕ → ChoiceRank
      with_words q = record (seat_of kinds agreed.m q) { word = if q == 0 then words_then else first_words kinds }

      -- ---- 1. the machine knows the ask
      known : (ask.step < length kinds) × IsAsk (agreed.m.phase asker ask.step) ask
      known = (agreed.lawful.flight asker in_job).asks_known ask (subst (In ask) (sym whole) (inl refl))

      is_step : ask.step < length kinds
      is_step = known.0

      is_due : IsAsk (agreed.m.phase asker ask.step) ask
      is_due = known.1

      -- ---- 2. rank 0's interface serves it
      word_before_small : word_before < 2 ^ 64
      word_before_small = word_small ranks (choice_at kinds ask.step) (λ q. agreed.m.phase q ask.step) word_before in_range.few_ranks
          (agreed.lawful.holds ask.step is_step)

      serves : target (state_at system world step.r) request ≡ delivers (shown 0 (with_words 0)) Matched (Some reply)
      serves =
          ap₂ target (ap (state_at system world) at_zero ∙ agreed.states 0) (sym carries)
          ∙ step_serve (slots 0) ranks kinds (seat_of kinds agreed.m 0) ask.step is_step (let few = in_range.few_steps in omega arith)
          (slots asker) asker ask.reads word_before_small (let few = in_range.few_ranks in omega arith)

      goes_to_asker : GoesTo asker true reply.header
      goes_to_asker = answer_goes (slots asker) kinds asker given

      -- ---- 3. the interfaces
      -- the asker's phase shows nowhere
      phases_show : (q : ℕ) → ((q ≡ asker) ⊎ (q ≡ asker → ⊥)) → shown q (seat_of kinds moment_after q) ≡ shown q (with_words q)
      phases_show q (inl is_asker) =
          subst (λ v. shown v (seat_of kinds moment_after v) ≡ shown v (with_words v)) (sym is_asker)
          (ap (shown asker) one_phase ∙ served_view (slots asker) ranks kinds asker (with_words asker) ask.step word_before)
        where
          one_phase : seat_of kinds moment_after asker ≡ with_phase ask.step phase_then (with_words asker)
          one_phase = λ d. record (with_words asker) { phase = λ u. put_in-row asker ask.step phase_then agreed.m.phase u d }
      phases_show q (inr not_asker) = ap (shown q) no_phase
        where
          no_phase : seat_of kinds moment_after q ≡ with_words q
          no_phase = λ d. record (with_words q) { phase = λ u. put_in-rank asker ask.step phase_then agreed.m.phase q u not_asker d }

      -- the words are rank 0's alone
      states_show : (q : ℕ) → ((q ≡ 0) ⊎ (q ≡ 0 → ⊥)) → state_at system world_after q ≡ shown q (with_words q)
      states_show q (inl is_zero) =
          subst (λ v. state_at system world_after v ≡ shown v (with_words v)) (sym is_zero)
          (ap (state_at system world_after) (sym at_zero)
          ∙ state_moved system world held world_after held_after step receipt is
          ∙ ap (λ (x : Delivers). x.state) serves)
      states_show q (inr not_zero) =
          state_stays system world held world_after held_after step q (λ e. not_zero (e ∙ at_zero))
          ∙ agreed.states q
          ∙ ap (λ words. shown q (record (seat_of kinds agreed.m q) { word = words })) no_word
        where
          no_word : (if q == 0 then agreed.m.word else first_words kinds) ≡ (if q == 0 then words_then else first_words kinds)
          no_word =
              ap (λ b. cond b agreed.m.word (first_words kinds)) (ne_eqb q 0 not_zero)
              ∙ sym (ap (λ b. cond b words_then (first_words kinds)) (ne_eqb q 0 not_zero))

      -- ---- 4. the lanes
      -- only the asker's lane of requests to rank 0 loses a message
      takes_none : (q d : ℕ) (lane : Lane) → (d ≡ 0 → q ≡ asker → same_lane Request lane ≡ false) →
          step.rest q d lane ≡ held q d lane
      takes_none q d lane another = elim (cases_eq d 0) [
        | inr not_zero ↦ lane_gives_none system world held world_after held_after step q d lane (λ e. not_zero (e ∙ at_zero))
        | inl is_zero ↦ elim (cases_eq asker q) [
          | inl is_asker ↦ untaken system world held world_after held_after step receipt is q d lane
              (got_lane asker q Request lane request (another is_zero (sym is_asker)))
          | inr not_asker ↦ untaken system world held world_after held_after step receipt is q d lane
              (got_other asker q Request lane request not_asker)
        ]
      ]

      -- rank 0's lanes gain the reply, and no others gain
      puts_reply : (d : ℕ) (lane : Lane) → held_after 0 d lane ≡ step.rest 0 d lane ++ filter (is_for d lane) (reply ∷ [])
      puts_reply d lane =
          ap (λ q. held_after q d lane) (sym at_zero)
          ∙ lane_gains system world held world_after held_after step receipt is d lane
          ∙ ap₂ (λ q (x : Delivers). step.rest q d lane ++ filter (is_for d lane) (and_then x.delivered.answer [])) at_zero serves

      puts_none : (q d : ℕ) (lane : Lane) → (q ≡ 0 → ⊥) → held_after q d lane ≡ step.rest q d lane
      puts_none q d lane not_zero = lane_gains_none system world held world_after held_after step q d lane (λ e. not_zero (e ∙ at_zero))

      -- the reply is no request
      puts_no_request : (q d : ℕ) → held_after q d Request ≡ step.rest q d Request
      puts_no_request q d = elim (cases_eq q 0) [
        | inl is_zero ↦ subst (λ v. held_after v d Request ≡ step.rest v d Request) (sym is_zero) of_zero
        | inr not_zero ↦ puts_none q d Request not_zero
      ]
        where
          of_zero : held_after 0 d Request ≡ step.rest 0 d Request
          of_zero =
              puts_reply d Request
              ∙ ap (λ ms. step.rest 0 d Request ++ ms) (dropped_one d Request reply (answer_no_ask d asker reply goes_to_asker))
              ∙ append-nil (step.rest 0 d Request)

      asks_left : (q : ℕ) → held_after q 0 Request ≡ map (asking q) (moment_after.asks q)
      asks_left q = puts_no_request q 0 ∙ elim (cases_eq q asker) [
        | inl is_asker ↦ subst (λ v. step.rest v 0 Request ≡ map (asking v) (moment_after.asks v)) (sym is_asker)
            (sym left_over ∙ ap (map (asking asker)) (sym (put-same asker other_asks agreed.m.asks)))
        | inr not_asker ↦
            takes_none q 0 Request (λ to_zero is_asker. absurd (not_asker is_asker))
            ∙ agreed.asks q
            ∙ ap (map (asking q)) (sym (put-other asker other_asks agreed.m.asks q not_asker))
      ]

      -- the answers that were under way to rank q, and the reply if it is for that rank
      abbrev pub answers_and_reply : ℕ → List Sent
      answers_and_reply q = map (answering q) (agreed.m.answers q) ++ filter (is_for q AnswerLane) (reply ∷ [])

      asker_gains : answers_and_reply asker ≡ map (answering asker) (moment_after.answers asker)
      asker_gains =
          ap (λ ms. map (answering asker) (agreed.m.answers asker) ++ ms)
          (kept_one asker AnswerLane reply (for_answer asker reply goes_to_asker))
          ∙ sym (map-append (answering asker) (agreed.m.answers asker) (given ∷ []))
          ∙ ap (map (answering asker)) (sym (put-same asker (agreed.m.answers asker ++ given ∷ []) agreed.m.answers))

      no_other_gains : (q : ℕ) → (q ≡ asker → ⊥) → answers_and_reply q ≡ map (answering q) (moment_after.answers q)
      no_other_gains q not_asker =
          ap (λ ms. map (answering q) (agreed.m.answers q) ++ ms)
          (dropped_one q AnswerLane reply (for_rank q AnswerLane true asker reply goes_to_asker (λ e. not_asker (sym e))))
          ∙ append-nil (map (answering q) (agreed.m.answers q))
          ∙ ap (map (answering q)) (sym (put-other asker (agreed.m.answers asker ++ given ∷ []) agreed.m.answers q not_asker))

      answers_left : (q : ℕ) → held_after 0 q AnswerLane ≡ map (answering q) (moment_after.answers q)
      answers_left q =
          puts_reply q AnswerLane
          ∙ ap (λ ms. ms ++ filter (is_for q AnswerLane) (reply ∷ [])) (takes_none 0 q AnswerLane (λ e f. refl) ∙ agreed.answers q)
          ∙ elim (cases_eq q asker) [
            | inl is_asker ↦ subst (λ v. answers_and_reply v ≡ map (answering v) (moment_after.answers v)) (sym is_asker) asker_gains
            | inr not_asker ↦ no_other_gains q not_asker
          ]

      -- ---- 5. all of it
      starts_same : (q : ℕ) → count_by is_start (world_after q) ≡ count_by is_start (world q)
      starts_same q = starts_stay system world held world_after held_after step receipt is refl q

      zero_made_one : steps_made ranks kinds moment_after step.r ≡ suc (steps_made ranks kinds agreed.m step.r)
      zero_made_one =
          subst (λ v. steps_made ranks kinds moment_after v ≡ suc (steps_made ranks kinds agreed.m v)) (sym at_zero)
          (made_taken ranks kinds agreed.m asker ask other_asks in_job is_step is_due)

      others_made_none : (q : ℕ) → (q ≡ step.r → ⊥) → steps_made ranks kinds moment_after q ≡ steps_made ranks kinds agreed.m q
      others_made_none q other =
          made_taken_other ranks kinds agreed.m asker ask other_asks in_job is_step is_due q (λ e. other (e ∙ sym at_zero))

      pub agrees_serve : Moved ranks kinds slots agreed.m step.r receipt world_after held_after
      agrees_serve = record {
        agrees = record {
          m = moment_after;
          lawful = taken_lawful ranks kinds agreed.m asker ask other_asks in_range.few_ranks in_job whole agreed.lawful;
          states = λ q. states_show q (cases_eq q 0) ∙ sym (phases_show q (cases_eq q asker));
          fresh = λ q none. agreed.fresh q (sym (starts_same q) ∙ none);
          begun = λ q some. agreed.begun q (subst (λ n. 0 < n) (starts_same q) some);
          lengths = lengths_next system world held world_after held_after step (steps_made ranks kinds agreed.m)
              (steps_made ranks kinds moment_after) agreed.lengths zero_made_one others_made_none;
          asks = asks_left;
          answers = answers_left;
          no_request = λ q d not_zero.
              puts_no_request q d
              ∙ takes_none q d Request (λ is_zero is_asker. absurd (not_zero (sym is_zero)))
              ∙ agreed.no_request q d not_zero;
          no_answer = λ q d not_zero.
              puts_none q d AnswerLane not_zero ∙ takes_none q d AnswerLane (λ e f. refl) ∙ agreed.no_answer q d not_zero;
        };
        follows = (ask, other_asks, whole, refl);
      }

    -- any request that comes: it comes to rank 0, and is the first of its asker's
    pub agrees_request : (asker : ℕ) (request : Sent) → step.e ≡ Receive asker Request request → asker < ranks →
        Moved ranks kinds slots agreed.m step.r (Receive asker Request request) world_after held_after
    agrees_request asker request is in_job = by_target (cases_eq step.r 0)
      where
        front : held asker step.r Request ≡ request ∷ step.rest asker step.r Request
        front =
            lane_gives system world held world_after held_after step (Receive asker Request request) is asker Request
            ∙ ap (λ ms. ms ++ step.rest asker step.r Request) (got_one asker Request request)

        not_empty : [] ≡ request ∷ step.rest asker step.r Request → ⊥
        not_empty e = cc

        by_target : ((step.r ≡ 0) ⊎ (step.r ≡ 0 → ⊥)) →
            Moved ranks kinds slots agreed.m step.r (Receive asker Request request) world_after held_after
        by_target (inr not_zero) = absurd (not_empty (sym (agreed.no_request asker step.r (λ e. not_zero (sym e))) ∙ front))
        by_target (inl at_zero) =
            let front_at_zero : held asker 0 Request ≡ request ∷ step.rest asker 0 Request =
            subst (λ v. held asker v Request ≡ request ∷ step.rest asker v Request) at_zero front in
            let asked = first_of (asking asker) (agreed.m.asks asker) request (step.rest asker 0 Request)
            (sym (agreed.asks asker) ∙ front_at_zero) in
            agrees_serve asker request is in_job at_zero asked.first asked.others asked.whole asked.is asked.rest
