-- Every moment agrees with the machine, and at rest what it says of the results is what the interfaces hold.
use Rattle.std.proofs.Common.{ℕ, ◌≡◌, ◌<◌, List, [], ◌∷◌, refl, length, map, ap, ◌∙◌, sym, subst, arith, Some}
use Rattle.ptl_types.specs.declared.headers.Lane.TheVariants.{Request, Answer as AnswerLane}
use Rattle.ptl_types.specs.Elements.{part, pattern}
use Rattle.op_laws.proofs.Swaps.{pattern-little}
use Rattle.ni_model.specs.Counts.{successes}
use Rattle.ni_model.specs.Ready.{is_ready}
use Rattle.ni_model.specs.State.{State}
use Rattle.ni_model.specs.Tables.{lookup}
use Rattle.cuts.specs.histories.History.{Local}
use Rattle.cuts.specs.histories.History.Local.{Fire, Receive, Start}
use Rattle.cuts.specs.histories.Moment.{IsEnabled, IsLocalStep, IsStill, Lanes}
use Rattle.coll_lang.specs.declared.choices.ChoiceKind.{ChoiceKind}
use Rattle.plan_choice.specs.texts.machine.Choices.{IsRight, choice_at}
use Rattle.coll_lang.specs.declared.choices.ChoiceKind.TheVariants.{Elect, Tickets}
use Rattle.plan_choice.specs.texts.machine.Machine.{value_of}
use Rattle.plan_choice.specs.texts.machine.Lawful.{IsResting}
use Rattle.plan_choice.proofs.texts.machine.Places.{count_all}
use Rattle.plan_choice.proofs.texts.machine.Words.{length-from_to}
use Rattle.plan_choice.proofs.texts.machine.Moments.{rest_right, rest_told}
use Rattle.plan_choice.specs.texts.view.Install.{Slots, answer_message, ask_message, count_of, ct_of, four_words, given_word, is_told}
use Rattle.plan_choice.specs.texts.view.Install.{old_of}
use Rattle.plan_choice.specs.texts.view.Install.{seat_of, step_bytes, steps, word}
use Rattle.plan_choice.specs.texts.view.Install.Counter.{Done}
use Rattle.plan_choice.proofs.texts.view.Firings.{idle_phase}
use Rattle.plan_choice.proofs.texts.view.Memory.{read_part}
use Rattle.plan_choice.proofs.texts.view.Stamps.{In-done, steps-In}
use Rattle.plan_choice.proofs.texts.view.StepFire.{lookup_ct}
use Rattle.plan_choice.proofs.texts.view.StepStart.{length-step}
use Rattle.cuts.specs.histories.System.{Histories, state_at}
use Rattle.cuts.specs.orders.Reached.{IsReached}
use Rattle.cuts.specs.orders.Reached.IsReached.{Begun, Stepped}
use Rattle.plan_choice.specs.texts.laws.Decided.{IsDecided, IsInRange, choice_system, result_of}
use Rattle.plan_choice.proofs.texts.laws.Agreement.{Agrees, Moved, agrees_opened}
use Rattle.plan_choice.proofs.texts.laws.Starting.{agrees_firing, agrees_start}
use Rattle.plan_choice.proofs.texts.laws.Serving.{agrees_request}
use Rattle.plan_choice.proofs.texts.laws.Returning.{agrees_answer}

module _ (ranks : ℕ) (ks : List ChoiceKind) (slots : ℕ → Slots) (in_range : IsInRange ranks ks) where
  -- a step keeps the agreement, and is a move of the machine
  pub agrees_step : (world : Histories) (held : Lanes) (world_after : Histories) (held_after : Lanes)
      (agreed : Agrees ranks ks slots world held) (step : IsLocalStep (choice_system ranks ks slots) world held world_after held_after)
      → Moved ranks ks slots agreed.m step.r step.e world_after held_after
  agrees_step world held world_after held_after agreed step = at step.e refl step.enabled
    where
      at : (e : Local) → step.e ≡ e → IsEnabled (choice_system ranks ks slots) world held step.r e
          → Moved ranks ks slots agreed.m step.r e world_after held_after
      at Start is fresh = agrees_start ranks ks slots world held agreed world_after held_after step is fresh
      at (Fire t) is ready = agrees_firing ranks ks slots world held agreed world_after held_after step t is ready
      at (Receive s Request m) is source =
          agrees_request ranks ks slots in_range world held agreed world_after held_after step s m is source.0
      at (Receive s AnswerLane m) is source = agrees_answer ranks ks slots world held agreed world_after held_after step s m is

  -- so every moment has it
  pub agrees_reached : (world : Histories) (held : Lanes) → IsReached (choice_system ranks ks slots) world held
      → Agrees ranks ks slots world held
  agrees_reached world held Begun = (agrees_opened ranks ks slots (λ r. []) (λ s d lane. []) (λ r. refl) (λ s d lane. refl)).0
  agrees_reached world_after held_after (Stepped {w = world} {held = held} before step) =
      (agrees_step world held world_after held_after (agrees_reached world held before) step).agrees

-- values below the number of ranks, and values that are equal at every rank
value_small : (k : ChoiceKind) (ranks : ℕ) (value : ℕ → ℕ) (r : ℕ) → r < ranks → IsRight k ranks value → value r < ranks
value_small Elect ranks value r i h = let a = h.agreed r i in let b = h.is_rank in omega (arith, a, b)
value_small Tickets ranks value r i h = h.below r i

pub right_same : (k : ChoiceKind) (ranks : ℕ) (f g : ℕ → ℕ) → ((r : ℕ) → r < ranks → g r ≡ f r) → IsRight k ranks f → IsRight k ranks g
right_same Elect ranks f g e h = record { winner = h.winner; is_rank = h.is_rank; agreed = λ r i. e r i ∙ h.agreed r i }
right_same Tickets ranks f g e h = record {
  below = λ r i. subst (λ n. n < ranks) (sym (e r i)) (h.below r i);
  apart = λ q r i j s. h.apart q r i j (sym (e q i) ∙ s ∙ e r j);
  each = λ v i. let k = h.each v i in record { rank = k.rank; in_range = k.in_range; has = e k.rank k.in_range ∙ k.has };
}

read_result : (h v o b : ℕ) → part 24 8 (four_words h v o b) ≡ word b
read_result h v o b = refl

module _ (ranks : ℕ) (ks : List ChoiceKind) (slots : ℕ → Slots) (in_range : IsInRange ranks ks) (world : Histories) (held : Lanes)
    (agreed : Agrees ranks ks slots world held) (still : IsStill (choice_system ranks ks slots) world held) where
  none_left : {X Y : Type 0} (f : X → Y) (xs : List X) → map f xs ≡ [] → length xs ≡ 0
  none_left f [] e = refl
  none_left f (x ∷ xs) e = cc

  -- the machine rests
  pub resting : IsResting ranks ks agreed.m
  resting = record {
    no_asks = λ r i. none_left (ask_message (slots r) ks r) (agreed.m.asks r)
        (sym (agreed.asks r) ∙ still.empty r 0 Request i in_range.some);
    no_answers = λ r i. none_left (answer_message (slots r) ks r) (agreed.m.answers r)
        (sym (agreed.answers r) ∙ still.empty 0 r AnswerLane in_range.some i);
    idle = λ r s i j. idle_phase (slots r) ranks ks r (seat_of ks agreed.m r)
        (λ t. ap (λ v. is_ready v t) (sym (agreed.states r)) ∙ still.idle r t i) (agreed.begun r (still.started r i)) s j;
  }

  -- all is told
  all_told : (r : ℕ) → r < ranks → count_of ks (seat_of ks agreed.m r) Done ≡ length ks
  all_told r i =
      let a = count_all (λ s. is_told (agreed.m.phase r s)) (steps ks)
      (λ s j. ap is_told (rest_told ranks ks agreed.m agreed.lawful resting r s i (steps-In ks s j)).is) in
      let b = length-from_to 0 (length ks) in
      let c = in_range.few_steps in
      omega (arith, a, b, c)

  -- the word in memory is the machine's value
  value_is : (r s : ℕ) → r < ranks → s < length ks
      → result_of s (state_at (choice_system ranks ks slots) world r) ≡ value_of (agreed.m.phase r s)
  value_is r s i j =
      let right = rest_right ranks ks agreed.m in_range.some agreed.lawful resting s j in
      let small = value_small (choice_at ks s) ranks (λ q. value_of (agreed.m.phase q s)) r i right in
      ap (result_of s) (agreed.states r)
      ∙ ap pattern (read_part ks s j (step_bytes ks r (seat_of ks agreed.m r)) 24 8 (λ t k. length-step ks r (seat_of ks agreed.m r) t)
      (omega arith)
      ∙ read_result ((seat_of ks agreed.m r).word s) (given_word (choice_at ks s) r) (old_of (agreed.m.phase r s))
      (value_of (agreed.m.phase r s)))
      ∙ pattern-little 8 (value_of (agreed.m.phase r s)) (let at_most = in_range.few_ranks in omega arith)

  pub rest_decided : IsDecided ranks ks slots world
  rest_decided = record {
    done = λ r i.
        ap (λ (v : State). lookup (ct_of (slots r) ks Done) v.cts.live) (agreed.states r)
        ∙ lookup_ct (slots r) ranks ks r (seat_of ks agreed.m r) Done (In-done ks)
        ∙ ap (λ n. Some (successes n)) (all_told r i);
    right = λ s j. right_same (choice_at ks s) ranks (λ r. value_of (agreed.m.phase r s))
        (λ r. result_of s (state_at (choice_system ranks ks slots) world r)) (λ r i. value_is r s i j)
        (rest_right ranks ks agreed.m in_range.some agreed.lawful resting s j);
  }
