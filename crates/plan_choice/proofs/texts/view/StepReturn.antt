-- An answer at home: it writes its word, counts, and is awaited no longer.
use Rattle.std.proofs.Common.{ℕ, Bool, true, false, cond, ◌+◌, ◌-◌, ◌*◌, ◌≡◌, ◌<◌, nat_lt, nat_le, ◌&&◌, List, refl, length, map, ap, ap₂}
use Rattle.std.proofs.Common.{◌∙◌, sym, subst, inl, inr, arith, min, Option, Some, None, add-zero}
use Rattle.std.proofs.lemmas.Bool.{cases_eq}
use Rattle.ptl_types.specs.declared.handles.Handle.{Handle}
use Rattle.ptl_types.specs.declared.headers.Header.{Header}
use Rattle.ptl_types.specs.declared.calls.Outcome.TheVariants.{Answered as IsAnswered}
use Rattle.ptl_types.specs.Handles.{top}
use Rattle.ptl_types.specs.Elements.{written}
use Rattle.ptl_types.specs.Messages.{message}
use Rattle.ni_model.specs.Arrive.{reply_header}
use Rattle.ni_model.specs.Answers.{answered, answered_at, awaits_less, bound_at, came_home, is_due, lost_answer, one_less}
use Rattle.ni_model.specs.Counts.{bump, counted, successes}
use Rattle.ni_model.specs.State.{Delivers, State, after_answer, delivers, home_of, target}
use Rattle.ni_model.specs.Tables.{change, changed, where_set}
use Rattle.plan_core.specs.Members.{In}
use Rattle.coll_lang.specs.declared.choices.ChoiceKind.{ChoiceKind}
use Rattle.plan_choice.specs.texts.machine.Choices.{choice_at}
use Rattle.coll_lang.specs.declared.choices.ChoiceKind.TheVariants.{Elect, Tickets}
use Rattle.plan_choice.specs.texts.machine.Machine.{Answer, Phase, answer, at_home, value_of}
use Rattle.plan_choice.specs.texts.machine.Machine.Phase.{Answered, Asked, Idle, Learned, Read, Reading, Served, Told}
use Rattle.plan_choice.specs.texts.machine.Lawful.{IsAnswer, is_plain}
use Rattle.plan_choice.proofs.texts.machine.Places.{count_as, put-other, put-same}
use Rattle.plan_choice.proofs.texts.machine.Words.{put_as}
use Rattle.plan_choice.specs.texts.view.Install.{Counter, Part, ChoiceRank, Slots, RankOp, answer_message, ask_header, awaits_of}
use Rattle.plan_choice.specs.texts.view.Install.{awaits_result}
use Rattle.plan_choice.specs.texts.view.Install.{count_of, counters, ct_named, ct_of, ct_stamp, first_header, four_words, given_word}
use Rattle.plan_choice.specs.texts.view.Install.{has_counter}
use Rattle.plan_choice.specs.texts.view.Install.{has_first, has_result, is_out, is_reading, is_told, live_counter, live_part, md_of}
use Rattle.plan_choice.specs.texts.view.Install.{md_stamp}
use Rattle.plan_choice.specs.texts.view.Install.{none_or_one, old_of, part_counter, part_start, parts, result_counter, step_bytes, steps}
use Rattle.plan_choice.specs.texts.view.Install.{view}
use Rattle.plan_choice.specs.texts.view.Install.{was_fired, was_read, was_sent, word, rank_ops}
use Rattle.plan_choice.specs.texts.view.Install.Counter.{Done, First, Go, Second}
use Rattle.plan_choice.specs.texts.view.Install.Part.{Given, Old, Result}
use Rattle.plan_choice.specs.texts.view.Install.RankOp.{Look, Send, ForDone}
use Rattle.plan_choice.specs.texts.view.Steps.{with_phase}
use Rattle.plan_choice.proofs.texts.view.Memory.{write_old, write_part, write_result}
use Rattle.plan_choice.proofs.texts.view.Named.{changed_named}
use Rattle.plan_choice.proofs.texts.view.Stamps.{In-first, In-old, In-result, In-second, counters-In, ct_one, md_one, parts-In, rank_ops-In}
use Rattle.plan_choice.proofs.texts.view.StepStart.{bound_for, bound_with, length-step, pending_as, view_with}
use Rattle.plan_choice.proofs.texts.view.StepFire.{lookup_md}

-- ---- an answer that a descriptor awaits
module _ (k : Slots) (ranks : ℕ) (ks : List ChoiceKind) (r : ℕ) (seat : ChoiceRank) (x : Part) (i : In x (parts ks)) (c : Counter) where
  -- what it leaves
  abbrev pub came_state : List ℕ → State
  came_state bytes = record (view k ranks ks r seat) {
    memory = written (part_start x + 0) bytes (view k ranks ks r seat).memory;
    cts = changed (ct_of k ks c) (bump (successes 1)) (view k ranks ks r seat).cts;
    mds = changed (md_of k ks x) one_less (view k ranks ks r seat).mds;
  }

  -- what an answer with this home and offset leaves, at a descriptor with this counter that awaits so many
  abbrev pub home_state : Option Handle → ℕ → Bool → Option Handle → List ℕ → State
  home_state o offset counts ct bytes = record (view k ranks ks r seat) {
    memory = written (part_start x + offset) bytes (view k ranks ks r seat).memory;
    cts = counted (where_set counts ct) (successes 1) (view k ranks ks r seat).cts;
    mds = awaits_less o (view k ranks ks r seat).mds;
  }

  pub answer_comes : (h : Header) (bytes : List ℕ) → h.home ≡ Some (md_of k ks x) → h.home_offset ≡ 0 → has_counter x ≡ true
      → part_counter ks x ≡ Some c → awaits_of ks seat x ≡ 1
      → target (view k ranks ks r seat) (message (reply_header true 8 h) bytes) ≡ delivers (came_state bytes) IsAnswered None
  unfolding target answered
  answer_comes h bytes at_home no_offset counts named awaits =
      ap (λ o. after_answer (view k ranks ks r seat)
      (answered_at (home_of (view k ranks ks r seat)) (message (reply_header true 8 h) bytes)
      (bound_at o (view k ranks ks r seat).mds))) at_home
      ∙ ap (λ b. after_answer (view k ranks ks r seat)
      (answered_at (home_of (view k ranks ks r seat)) (message (reply_header true 8 h) bytes) b)) (lookup_md k ranks ks r seat x i)
      ∙ ap (λ t. after_answer (view k ranks ks r seat)
      (cond t (came_home (home_of (view k ranks ks r seat)) (message (reply_header true 8 h) bytes) (bound_for k ks seat x))
      (lost_answer (home_of (view k ranks ks r seat))))) due
      ∙ (λ d. delivers (home_state (at_home d) (no_offset d) (counts d) (ct_named k ks (named d)) bytes) IsAnswered None)
    where
      due : is_due (reply_header true 8 h) (bound_for k ks seat x) ≡ true
      due = ap₂ (λ n m. nat_lt 0 n && nat_le (m + 8) 8) awaits no_offset

-- ---- a home that has the seat after the answer
module _ (k : Slots) (ranks : ℕ) (ks : List ChoiceKind) (r : ℕ) (seat : ChoiceRank) (s : ℕ) (h : s < length ks) (p : Phase) where
  -- the seat after the answer
  abbrev pub after_home : ChoiceRank
  after_home = with_phase s p seat

  here : after_home.phase s ≡ p
  here = put-same s p seat.phase

  there : (t : ℕ) → (t ≡ s → ⊥) → after_home.phase t ≡ seat.phase t
  there t n = put-other s p seat.phase t n

  look_home : {X : Type 0} (look : Phase → X) → look p ≡ look (seat.phase s) → (t : ℕ) → look (after_home.phase t) ≡ look (seat.phase t)
  look_home look e t = put_as look s p seat.phase e t

  same_told : is_told p ≡ is_told (seat.phase s) → count_of ks after_home Done ≡ count_of ks seat Done
  same_told e = ap (λ n. min n top) (count_as (λ t. is_told (seat.phase t)) (λ t. is_told (after_home.phase t)) (steps ks)
      (λ t i. look_home is_told e t))

  cts_home : (c : Counter) → In c (counters ks) → count_of ks seat c ≡ 0 → count_of ks after_home c ≡ 1
      → ((d : Counter) → In d (counters ks) → (d ≡ c → ⊥) → count_of ks after_home d ≡ count_of ks seat d)
      → change (ct_of k ks c) (bump (successes 1)) (map (live_counter k ks seat) (counters ks))
      ≡ map (live_counter k ks after_home) (counters ks)
  cts_home c i zero one others =
      changed_named k.ct (ct_stamp ks) (bump (successes 1)) (λ c. successes (count_of ks seat c))
      (λ c. successes (count_of ks after_home c)) (counters ks) c
      (λ d j e. ct_one ks d c (counters-In ks d j) (counters-In ks c i) e)
      (ap successes one ∙ sym (ap (λ n. bump (successes 1) (successes n)) zero))
      (λ d j n. ap successes (others d j n))

  mds_home : (x : Part) → In x (parts ks) → awaits_of ks seat x ≡ 1 → awaits_of ks after_home x ≡ 0
      → ((y : Part) → In y (parts ks) → (y ≡ x → ⊥) → awaits_of ks after_home y ≡ awaits_of ks seat y)
      → change (md_of k ks x) one_less (map (live_part k ks seat) (parts ks)) ≡ map (live_part k ks after_home) (parts ks)
  mds_home x i one zero others =
      changed_named k.md (md_stamp ks) one_less (bound_for k ks seat) (bound_for k ks after_home) (parts ks) x
      (λ y j e. md_one ks y x (parts-In ks y j) (parts-In ks x i) e)
      (ap (bound_with k ks x) zero ∙ sym (ap (λ n. bound_with k ks x (n - 1)) one))
      (λ y j n. ap (bound_with k ks y) (others y j n))

  -- the old word is written, or the result
  write_old_home : (v : ℕ) → old_of p ≡ v → value_of p ≡ value_of (seat.phase s)
      → written (32 * s + 16 + 0) (word v) (view k ranks ks r seat).memory ≡ (view k ranks ks r after_home).memory
  write_old_home v e f =
      ap (λ n. written n (word v) (view k ranks ks r seat).memory) (add-zero (32 * s + 16))
      ∙ write_part ks s h (step_bytes ks r seat) (step_bytes ks r after_home) 16 (word v) (λ t i. length-step ks r seat t) (omega arith)
      (ap₂ (λ o b. four_words (seat.word s) (given_word (choice_at ks s) r) o b) (ap old_of here ∙ e) (ap value_of here ∙ f)
      ∙ sym (write_old (seat.word s) (given_word (choice_at ks s) r) (old_of (seat.phase s)) (value_of (seat.phase s)) v))
      (λ t i n. ap (λ q. four_words (seat.word t) (given_word (choice_at ks t) r) (old_of q) (value_of q)) (there t n))

  write_result_home : (v : ℕ) → old_of p ≡ old_of (seat.phase s) → value_of p ≡ v
      → written (32 * s + 24 + 0) (word v) (view k ranks ks r seat).memory ≡ (view k ranks ks r after_home).memory
  write_result_home v e f =
      ap (λ n. written n (word v) (view k ranks ks r seat).memory) (add-zero (32 * s + 24))
      ∙ write_part ks s h (step_bytes ks r seat) (step_bytes ks r after_home) 24 (word v) (λ t i. length-step ks r seat t) (omega arith)
      (ap₂ (λ o b. four_words (seat.word s) (given_word (choice_at ks s) r) o b) (ap old_of here ∙ e) (ap value_of here ∙ f)
      ∙ sym (write_result (seat.word s) (given_word (choice_at ks s) r) (old_of (seat.phase s)) (value_of (seat.phase s)) v))
      (λ t i n. ap (λ q. four_words (seat.word t) (given_word (choice_at ks t) r) (old_of q) (value_of q)) (there t n))

  -- ---- the answer of an elect's swap
  module _ (elect : choice_at ks s ≡ Elect) (old : ℕ) (from : seat.phase s ≡ Served old) (to : p ≡ Answered old) where
    swap_counts : (d : Counter) → In d (counters ks) → (d ≡ First s → ⊥) → count_of ks after_home d ≡ count_of ks seat d
    swap_counts Go i n = refl
    swap_counts Done i n = same_told (ap is_told to ∙ sym (ap is_told from))
    swap_counts (First t) i n = ap (λ q. none_or_one (has_first (choice_at ks t) q)) (there t (λ e. n (ap First e)))
    swap_counts (Second t) i n = ap (λ b. none_or_one b) (look_home has_result (ap has_result to ∙ sym (ap has_result from)) t)

    await_result : (c : ChoiceKind) (t : ℕ) → c ≡ Elect
        → none_or_one (awaits_result c (after_home.phase t)) ≡ none_or_one (awaits_result c (seat.phase t))
    await_result Elect t e = ap (λ b. none_or_one b) (look_home is_reading (ap is_reading to ∙ sym (ap is_reading from)) t)
    await_result Tickets t e = cc

    swap_awaits : (y : Part) → In y (parts ks) → (y ≡ Old s → ⊥) → awaits_of ks after_home y ≡ awaits_of ks seat y
    swap_awaits (Given t) i n = refl
    swap_awaits (Old t) i n = ap (λ q. none_or_one (is_out q)) (there t (λ e. n (ap Old e)))
    swap_awaits (Result t) i n = elim (cases_eq t s) [
      | inl e ↦ await_result (choice_at ks t) t (ap (choice_at ks) e ∙ elect)
      | inr m ↦ ap (λ q. none_or_one (awaits_result (choice_at ks t) q)) (there t m)
    ]

    swap_fired : (w : RankOp) → was_fired after_home w ≡ was_fired seat w
    swap_fired (Send t) = look_home was_sent (ap was_sent to ∙ sym (ap was_sent from)) t
    swap_fired (Look t) = look_home was_read (ap was_read to ∙ sym (ap was_read from)) t
    swap_fired (ForDone t) = look_home is_told (ap is_told to ∙ sym (ap is_told from)) t

    pub swap_home : came_state k ranks ks r seat (Old s) (In-old ks s h elect) (First s) (word old) ≡ view k ranks ks r after_home
    swap_home = λ d. view_with k ranks ks r seat
        (write_old_home old (ap old_of to) (ap value_of to ∙ sym (ap value_of from)) d)
        (cts_home (First s) (In-first ks s h) (ap₂ (λ c q. none_or_one (has_first c q)) elect from)
        (ap₂ (λ c q. none_or_one (has_first c q)) elect (here ∙ to)) swap_counts d)
        (mds_home (Old s) (In-old ks s h elect) (ap (λ q. none_or_one (is_out q)) from)
        (ap (λ q. none_or_one (is_out q)) (here ∙ to)) swap_awaits d)
        (pending_as k ks seat after_home (λ w i. swap_fired w) d)

  -- ---- the answer of a get
  module _ (elect : choice_at ks s ≡ Elect) (old value : ℕ) (from : seat.phase s ≡ Read old value) (to : p ≡ Learned old value) where
    first_stays : (c : ChoiceKind) (t : ℕ) → c ≡ Elect
        → none_or_one (has_first c (after_home.phase t)) ≡ none_or_one (has_first c (seat.phase t))
    first_stays Elect t e = ap (λ b. none_or_one b) (look_home (has_first Elect)
        (ap (has_first Elect) to ∙ sym (ap (has_first Elect) from)) t)
    first_stays Tickets t e = cc

    get_counts : (d : Counter) → In d (counters ks) → (d ≡ Second s → ⊥) → count_of ks after_home d ≡ count_of ks seat d
    get_counts Go i n = refl
    get_counts Done i n = same_told (ap is_told to ∙ sym (ap is_told from))
    get_counts (First t) i n = elim (cases_eq t s) [
      | inl e ↦ first_stays (choice_at ks t) t (ap (choice_at ks) e ∙ elect)
      | inr m ↦ ap (λ q. none_or_one (has_first (choice_at ks t) q)) (there t m)
    ]
    get_counts (Second t) i n = ap (λ q. none_or_one (has_result q)) (there t (λ e. n (ap Second e)))

    get_awaits : (y : Part) → In y (parts ks) → (y ≡ Result s → ⊥) → awaits_of ks after_home y ≡ awaits_of ks seat y
    get_awaits (Given t) i n = refl
    get_awaits (Old t) i n = ap (λ b. none_or_one b) (look_home is_out (ap is_out to ∙ sym (ap is_out from)) t)
    get_awaits (Result t) i n = ap (λ q. none_or_one (awaits_result (choice_at ks t) q)) (there t (λ e. n (ap Result e)))

    get_fired : (w : RankOp) → was_fired after_home w ≡ was_fired seat w
    get_fired (Send t) = look_home was_sent (ap was_sent to ∙ sym (ap was_sent from)) t
    get_fired (Look t) = look_home was_read (ap was_read to ∙ sym (ap was_read from)) t
    get_fired (ForDone t) = look_home is_told (ap is_told to ∙ sym (ap is_told from)) t

    pub get_home : came_state k ranks ks r seat (Result s) (In-result ks s h) (Second s) (word value) ≡ view k ranks ks r after_home
    get_home = λ d. view_with k ranks ks r seat
        (write_result_home value (ap old_of to ∙ sym (ap old_of from)) (ap value_of to) d)
        (cts_home (Second s) (In-second ks s h elect) (ap (λ q. none_or_one (has_result q)) from)
        (ap (λ q. none_or_one (has_result q)) (here ∙ to)) get_counts d)
        (mds_home (Result s) (In-result ks s h) (ap₂ (λ c q. none_or_one (awaits_result c q)) elect from)
        (ap₂ (λ c q. none_or_one (awaits_result c q)) elect (here ∙ to)) get_awaits d)
        (pending_as k ks seat after_home (λ w i. get_fired w) d)

  -- ---- the answer of a fetch-atomic
  module _ (tickets : choice_at ks s ≡ Tickets) (value : ℕ) (from : seat.phase s ≡ Served value) (to : p ≡ Learned 0 value) where
    no_elect : {X : Type 0} (t : ℕ) → t ≡ s → choice_at ks t ≡ Elect → X
    no_elect t e f = let g : choice_at ks s ≡ Elect = subst (λ v. choice_at ks v ≡ Elect) e f in cc

    ticket_counts : (d : Counter) → In d (counters ks) → (d ≡ First s → ⊥) → count_of ks after_home d ≡ count_of ks seat d
    ticket_counts Go i n = refl
    ticket_counts Done i n = same_told (ap is_told to ∙ sym (ap is_told from))
    ticket_counts (First t) i n = ap (λ q. none_or_one (has_first (choice_at ks t) q)) (there t (λ e. n (ap First e)))
    ticket_counts (Second t) i n = elim (cases_eq t s) [
      | inl e ↦ no_elect t e (counters-In ks (Second t) i)
      | inr m ↦ ap (λ q. none_or_one (has_result q)) (there t m)
    ]

    ticket_awaits : (y : Part) → In y (parts ks) → (y ≡ Result s → ⊥) → awaits_of ks after_home y ≡ awaits_of ks seat y
    ticket_awaits (Given t) i n = refl
    ticket_awaits (Old t) i n = elim (cases_eq t s) [
      | inl e ↦ no_elect t e (parts-In ks (Old t) i)
      | inr m ↦ ap (λ q. none_or_one (is_out q)) (there t m)
    ]
    ticket_awaits (Result t) i n = ap (λ q. none_or_one (awaits_result (choice_at ks t) q)) (there t (λ e. n (ap Result e)))

    ticket_fired : (w : RankOp) → In w (rank_ops ks) → was_fired after_home w ≡ was_fired seat w
    ticket_fired (Send t) i = look_home was_sent (ap was_sent to ∙ sym (ap was_sent from)) t
    ticket_fired (Look t) i = elim (cases_eq t s) [
      | inl e ↦ no_elect t e (rank_ops-In ks (Look t) i).1
      | inr m ↦ ap was_read (there t m)
    ]
    ticket_fired (ForDone t) i = look_home is_told (ap is_told to ∙ sym (ap is_told from)) t

    pub ticket_home : came_state k ranks ks r seat (Result s) (In-result ks s h) (First s) (word value) ≡ view k ranks ks r after_home
    ticket_home = λ d. view_with k ranks ks r seat
        (write_result_home value (ap old_of to ∙ sym (ap old_of from)) (ap value_of to) d)
        (cts_home (First s) (In-first ks s h) (ap₂ (λ c q. none_or_one (has_first c q)) tickets from)
        (ap₂ (λ c q. none_or_one (has_first c q)) tickets (here ∙ to)) ticket_counts d)
        (mds_home (Result s) (In-result ks s h) (ap₂ (λ c q. none_or_one (awaits_result c q)) tickets from)
        (ap₂ (λ c q. none_or_one (awaits_result c q)) tickets (here ∙ to)) ticket_awaits d)
        (pending_as k ks seat after_home ticket_fired d)

-- ---- any answer that is under way
module _ (k : Slots) (ranks : ℕ) (ks : List ChoiceKind) (r : ℕ) (seat : ChoiceRank) where
  -- it leaves the seat with this phase
  abbrev pub returns_to : ℕ → Phase → Delivers
  returns_to s p = delivers (view k ranks ks r (with_phase s p seat)) IsAnswered None

  return_swap : (s old : ℕ) (h : s < length ks) → choice_at ks s ≡ Elect → seat.phase s ≡ Served old
      → target (view k ranks ks r seat) (answer_message k ks r (answer s false old)) ≡ returns_to s (Answered old)
  return_swap s old h e f =
      answer_comes k ranks ks r seat (Old s) (In-old ks s h e) (First s) (ask_header k ks r s false) (word old)
      (ap (λ c. (first_header k ks c r s).home) e) (ap (λ c. (first_header k ks c r s).home_offset) e) refl refl
      (ap (λ p. none_or_one (is_out p)) f)
      ∙ ap (λ v. delivers v IsAnswered None) (swap_home k ranks ks r seat s h (Answered old) e old f refl)

  return_ticket : (s value : ℕ) (h : s < length ks) → choice_at ks s ≡ Tickets → seat.phase s ≡ Served value
      → target (view k ranks ks r seat) (answer_message k ks r (answer s false value)) ≡ returns_to s (Learned 0 value)
  return_ticket s value h e f =
      answer_comes k ranks ks r seat (Result s) (In-result ks s h) (First s) (ask_header k ks r s false) (word value)
      (ap (λ c. (first_header k ks c r s).home) e) (ap (λ c. (first_header k ks c r s).home_offset) e) refl
      (ap (λ c. Some (result_counter c s)) e) (ap₂ (λ c p. none_or_one (awaits_result c p)) e f)
      ∙ ap (λ v. delivers v IsAnswered None) (ticket_home k ranks ks r seat s h (Learned 0 value) e value f refl)

  return_get : (s old value : ℕ) (h : s < length ks) → choice_at ks s ≡ Elect → seat.phase s ≡ Read old value
      → target (view k ranks ks r seat) (answer_message k ks r (answer s true value)) ≡ returns_to s (Learned old value)
  return_get s old value h e f =
      answer_comes k ranks ks r seat (Result s) (In-result ks s h) (Second s) (ask_header k ks r s true) (word value)
      refl refl refl (ap (λ c. Some (result_counter c s)) e) (ap₂ (λ c p. none_or_one (awaits_result c p)) e f)
      ∙ ap (λ v. delivers v IsAnswered None) (get_home k ranks ks r seat s h (Learned old value) e old value f refl)

  pub step_return : (a : Answer) → a.step < length ks → IsAnswer (seat.phase a.step) a
      → (choice_at ks a.step ≡ Tickets → is_plain (seat.phase a.step) ≡ true)
      → target (view k ranks ks r seat) (answer_message k ks r a) ≡ returns_to a.step (at_home (choice_at ks a.step) (seat.phase a.step))
  step_return a h fit plain = at (choice_at ks a.step) (seat.phase a.step) refl refl fit
    where
      same : (reads : Bool) (value : ℕ) → a.reads ≡ reads → a.value ≡ value
          → target (view k ranks ks r seat) (answer_message k ks r a)
          ≡ target (view k ranks ks r seat) (answer_message k ks r (answer a.step reads value))
      same reads value e f = ap₂ (λ x y. target (view k ranks ks r seat) (answer_message k ks r (answer a.step x y))) e f

      no_plain : (old value : ℕ) → choice_at ks a.step ≡ Tickets → seat.phase a.step ≡ Read old value → ⊥
      no_plain old value e f = let g : is_plain (Read old value) ≡ true = subst (λ p. is_plain p ≡ true) f (plain e) in cc

      at : (c : ChoiceKind) (p : Phase) → choice_at ks a.step ≡ c → seat.phase a.step ≡ p → IsAnswer p a
          → target (view k ranks ks r seat) (answer_message k ks r a) ≡ returns_to a.step (at_home c p)
      at Elect (Served old) e f i = same false old i.0 i.1 ∙ return_swap a.step old h e f
      at Tickets (Served old) e f i = same false old i.0 i.1 ∙ return_ticket a.step old h e f
      at Elect (Read old value) e f i = same true value i.0 i.1 ∙ return_get a.step old value h e f
      at Tickets (Read old value) e f i = absurd (no_plain old value e f)
      at c Idle e f i = absurd i
      at c Asked e f i = absurd i
      at c (Answered old) e f i = absurd i
      at c (Reading old) e f i = absurd i
      at c (Learned old value) e f i = absurd i
      at c (Told old value) e f i = absurd i
