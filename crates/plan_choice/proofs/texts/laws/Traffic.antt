-- What comes over a lane is for its rank and isn't lost, and what a step makes goes onto a lane that is used.
use Rattle.std.proofs.Common.{ℕ, Bool, true, false, ◌==◌, ◌+◌, ◌*◌, ◌≡◌, ◌<◌, ◌≤◌, ◌⊎◌, List, [], ◌∷◌, refl, length, ap, ap₂, ◌∙◌, sym}
use Rattle.std.proofs.Common.{subst, inl, inr, arith, Some, None, if◌then◌else◌}
use Rattle.std.proofs.lemmas.Bool.{cases_eq}
use Rattle.ptl_types.specs.declared.calls.Outcome.TheVariants.{Answered as IsAnswered, Matched}
use Rattle.ptl_types.specs.declared.headers.Lane.{Lane}
use Rattle.ptl_types.specs.declared.headers.Lane.TheVariants.{Request, Answer as AnswerLane}
use Rattle.ptl_types.specs.Kinds.{lane_of}
use Rattle.ptl_types.specs.Messages.{Sent}
use Rattle.ni_model.specs.Ready.{Fires, fired, is_ready}
use Rattle.ni_model.specs.State.{Delivers, State, delivers, target}
use Rattle.plan_core.specs.Members.{In}
use Rattle.cuts.specs.histories.Moment.{Lanes}
use Rattle.coll_lang.specs.declared.choices.ChoiceKind.{ChoiceKind}
use Rattle.plan_choice.specs.texts.machine.Choices.{choice_at}
use Rattle.coll_lang.specs.declared.choices.ChoiceKind.TheVariants.{Elect, Tickets}
use Rattle.plan_choice.specs.texts.machine.Machine.{Answer, Ask, Phase, answer, ask}
use Rattle.plan_choice.specs.texts.machine.Machine.Phase.{Answered, Asked, Idle, Learned, Read, Reading, Served, Told}
use Rattle.plan_choice.specs.texts.machine.Lawful.{Holds, is_plain}
use Rattle.plan_choice.specs.texts.view.Install.{Slots, answer_message, ask_header, ask_message, given_word, seat_of, step_bytes, word}
use Rattle.plan_choice.proofs.texts.view.Memory.{inside_step}
use Rattle.plan_choice.proofs.texts.view.StepStart.{length-step}
use Rattle.plan_choice.proofs.texts.view.Firings.{step_fire}
use Rattle.plan_choice.specs.texts.view.Steps.{sent_message}
use Rattle.plan_choice.proofs.texts.view.StepServe.{step_serve}
use Rattle.plan_choice.proofs.texts.view.StepReturn.{step_return}
use Rattle.cuts.specs.histories.System.{Histories, state_at}
use Rattle.plan_choice.specs.texts.laws.Decided.{IsInRange, choice_system, is_choice_lane}
use Rattle.plan_choice.specs.texts.laws.Traffic.{IsComing, IsMade}
use Rattle.plan_choice.proofs.texts.laws.Agreement.{Agrees, ask_goes, ask_source, answer_goes}
use Rattle.plan_choice.proofs.texts.laws.Serving.{first_of, word_small}

-- a request's lane, and an answer's
ask_lane : (k : Slots) (ks : List ChoiceKind) (r s : ℕ) (reads : Bool) → lane_of (ask_header k ks r s reads).kind ≡ Request
ask_lane k ks r s reads = ap (λ b. if b then AnswerLane else Request) (ask_goes k ks r s reads).kind

-- what they carry
length-word : (x : ℕ) → length (word x) ≡ 8
length-word x = refl

ask_short : (k : Slots) (ks : List ChoiceKind) (r : ℕ) (a : Ask) → length (ask_message k ks r a).bytes ≤ 8
ask_short k ks r a = at a.reads (given_word (choice_at ks a.step) r)
  where
    at : (b : Bool) (x : ℕ) → length (if b then [] else word x) ≤ 8
    at true x = omega arith
    at false x = let e = length-word x in omega (arith, e)

answer_short : (k : Slots) (ks : List ChoiceKind) (r : ℕ) (a : Answer) → length (answer_message k ks r a).bytes ≤ 8
answer_short k ks r a = let e = length-word a.value in omega (arith, e)

answer_source : (k : Slots) (ks : List ChoiceKind) (r : ℕ) (a : Answer) → (answer_message k ks r a).header.source ≡ 0
answer_source k ks r a = (ask_goes k ks r a.step a.reads).target

module _ (ranks : ℕ) (ks : List ChoiceKind) (slots : ℕ → Slots) (in_range : IsInRange ranks ks) (w : Histories) (held : Lanes)
    (agreed : Agrees ranks ks slots w held) where
  -- what an ask of rank s and an answer for it are
  ask_made : (s : ℕ) (a : Ask) → IsMade ranks s (ask_message (slots s) ks s a)
  ask_made s a = record {
    source = ask_source (slots s) ks s a.step a.reads;
    in_range = subst (λ v. v < ranks) (sym (ask_goes (slots s) ks s a.step a.reads).target) in_range.some;
    used =
        ap (is_choice_lane s (ask_message (slots s) ks s a).header.target) (ask_lane (slots s) ks s a.step a.reads)
        ∙ ap (λ v. v == 0) (ask_goes (slots s) ks s a.step a.reads).target;
  }

  answer_made : (s : ℕ) (a : Answer) → s < ranks → IsMade ranks 0 (answer_message (slots s) ks s a)
  answer_made s a i = record {
    source = answer_source (slots s) ks s a;
    in_range = subst (λ v. v < ranks) (sym (answer_goes (slots s) ks s a).target) i;
    used = refl;
  }

  -- ---- a request at rank 0
  pub record IsAsking (s : ℕ) (m : Sent) : Type 0 where
    pub a : Ask
    pub is : ask_message (slots s) ks s a ≡ m
    pub end : State
    pub value : ℕ
    pub does : target (state_at (choice_system ranks ks slots) w 0) m
        ≡ delivers end Matched (Some (answer_message (slots s) ks s (answer a.step a.reads value)))

  asking : (s : ℕ) (m : Sent) (rest : List Sent) → s < ranks → held s 0 Request ≡ m ∷ rest → IsAsking s m
  asking s m rest i e =
      let f = first_of (ask_message (slots s) ks s) (agreed.m.asks s) m rest (sym (agreed.asks s) ∙ e) in
      let h = ((agreed.lawful.flight s i).asks_known f.first (subst (In f.first) (sym f.whole) (inl refl))).0 in
      let small = word_small ranks (choice_at ks f.first.step) (λ q. agreed.m.phase q f.first.step) (agreed.m.word f.first.step)
      in_range.few_ranks (agreed.lawful.holds f.first.step h) in
      record {
        a = f.first;
        is = f.is;
        end = _;
        value = agreed.m.word f.first.step;
        does = ap₂ target (agreed.states 0) (sym f.is)
            ∙ step_serve (slots 0) ranks ks (seat_of ks agreed.m 0) f.first.step h (let k = in_range.few_steps in omega arith)
            (slots s) s f.first.reads small (let k = in_range.few_ranks in omega arith);
      }

  -- ---- an answer at home
  pub record IsAnswering (r : ℕ) (m : Sent) : Type 0 where
    pub a : Answer
    pub is : answer_message (slots r) ks r a ≡ m
    pub end : State
    pub does : target (state_at (choice_system ranks ks slots) w r) m ≡ delivers end IsAnswered None

  plain : (r s : ℕ) → r < ranks → (c : ChoiceKind) → Holds c ranks (λ q. agreed.m.phase q s) (agreed.m.word s) → c ≡ Tickets
      → is_plain (agreed.m.phase r s) ≡ true
  plain r s i Elect h e = cc
  plain r s i Tickets h e = h.plain r i

  pub answering : (r : ℕ) (m : Sent) (rest : List Sent) → r < ranks → held 0 r AnswerLane ≡ m ∷ rest → IsAnswering r m
  answering r m rest i e =
      let f = first_of (answer_message (slots r) ks r) (agreed.m.answers r) m rest (sym (agreed.answers r) ∙ e) in
      let h = (agreed.lawful.flight r i).answers_known f.first (subst (In f.first) (sym f.whole) (inl refl)) in
      record {
        a = f.first;
        is = f.is;
        end = _;
        does = ap₂ target (agreed.states r) (sym f.is)
            ∙ step_return (slots r) ranks ks r (seat_of ks agreed.m r) f.first h.0 h.1
            (plain r f.first.step i (choice_at ks f.first.step) (agreed.lawful.holds f.first.step h.0));
      }

  -- ---- the laws
  nothing : {X : Type 0} {x : Sent} {xs : List Sent} → [] ≡ x ∷ xs → X
  nothing e = cc

  pub comes : (s d : ℕ) (lane : Lane) (m : Sent) (rest : List Sent) → s < ranks → d < ranks → held s d lane ≡ m ∷ rest
      → IsComing s d lane (state_at (choice_system ranks ks slots) w d) m
  comes s d Request m rest i j e = at (cases_eq d 0)
    where
      at : ((d ≡ 0) ⊎ (d ≡ 0 → ⊥)) → IsComing s d Request (state_at (choice_system ranks ks slots) w d) m
      at (inr n) = nothing (sym (agreed.no_request s d (λ q. n (sym q))) ∙ e)
      at (inl q) =
          let k = asking s m rest i (subst (λ v. held s v Request ≡ m ∷ rest) q e) in
          subst (λ v. IsComing s v Request (state_at (choice_system ranks ks slots) w v) m) (sym q) (record {
            source = ap (λ (x : Sent). x.header.source) (sym k.is) ∙ ask_source (slots s) ks s k.a.step k.a.reads;
            target = ap (λ (x : Sent). x.header.target) (sym k.is) ∙ (ask_goes (slots s) ks s k.a.step k.a.reads).target;
            of_lane = ap (λ (x : Sent). lane_of x.header.kind) (sym k.is) ∙ ask_lane (slots s) ks s k.a.step k.a.reads;
            outcome = ap (λ (x : Delivers). x.delivered.outcome) k.does;
            short = subst (λ (x : Sent). length x.bytes ≤ 8) k.is (ask_short (slots s) ks s k.a);
          })
  comes s d AnswerLane m rest i j e = at (cases_eq s 0)
    where
      at : ((s ≡ 0) ⊎ (s ≡ 0 → ⊥)) → IsComing s d AnswerLane (state_at (choice_system ranks ks slots) w d) m
      at (inr n) = nothing (sym (agreed.no_answer s d n) ∙ e)
      at (inl q) =
          let k = answering d m rest j (subst (λ v. held v d AnswerLane ≡ m ∷ rest) q e) in
          subst (λ v. IsComing v d AnswerLane (state_at (choice_system ranks ks slots) w d) m) (sym q) (record {
            source = ap (λ (x : Sent). x.header.source) (sym k.is) ∙ answer_source (slots d) ks d k.a;
            target = ap (λ (x : Sent). x.header.target) (sym k.is) ∙ (answer_goes (slots d) ks d k.a).target;
            of_lane = ap (λ (x : Sent). lane_of x.header.kind) (sym k.is);
            outcome = ap (λ (x : Delivers). x.delivered.outcome) k.does;
            short = subst (λ (x : Sent). length x.bytes ≤ 8) k.is (answer_short (slots d) ks d k.a);
          })

  some_one : (a b : Sent) → Some a ≡ Some b → a ≡ b
  some_one a b e = cc

  no_some : {X : Type 0} (a : Sent) → None ≡ Some a → X
  no_some a e = cc

  -- an answer of rank d to what came from rank s
  abbrev pub IsBack : ℕ → ℕ → Sent → Type 0
  IsBack s d n = IsMade ranks d n × (n.header.target ≡ s)

  pub receipt_makes : (s d : ℕ) (lane : Lane) (m n : Sent) (rest : List Sent) → s < ranks → d < ranks → held s d lane ≡ m ∷ rest
      → (target (state_at (choice_system ranks ks slots) w d) m).delivered.answer ≡ Some n → IsBack s d n
  receipt_makes s d Request m n rest i j e f = at (cases_eq d 0)
    where
      at : ((d ≡ 0) ⊎ (d ≡ 0 → ⊥)) → IsBack s d n
      at (inr q) = nothing (sym (agreed.no_request s d (λ q'. q (sym q'))) ∙ e)
      at (inl q) =
          let k = asking s m rest i (subst (λ v. held s v Request ≡ m ∷ rest) q e) in
          let a = answer k.a.step k.a.reads k.value in
          subst (λ v. IsBack s v n) (sym q) (subst (IsBack s 0)
          (some_one (answer_message (slots s) ks s a) n
          (sym (ap (λ (x : Delivers). x.delivered.answer) k.does)
          ∙ subst (λ v. (target (state_at (choice_system ranks ks slots) w v) m).delivered.answer ≡ Some n) q f))
          (answer_made s a i, (answer_goes (slots s) ks s a).target))
  receipt_makes s d AnswerLane m n rest i j e f = at (cases_eq s 0)
    where
      at : ((s ≡ 0) ⊎ (s ≡ 0 → ⊥)) → IsBack s d n
      at (inr q) = nothing (sym (agreed.no_answer s d q) ∙ e)
      at (inl q) =
          let k = answering d m rest j (subst (λ v. held v d AnswerLane ≡ m ∷ rest) q e) in
          no_some n (sym (ap (λ (x : Delivers). x.delivered.answer) k.does) ∙ f)

  pub firing_makes : (r t : ℕ) (n : Sent) → is_ready (state_at (choice_system ranks ks slots) w r) t ≡ true
      → (fired (state_at (choice_system ranks ks slots) w r) t).message ≡ Some n → IsMade ranks r n
  firing_makes r t n ready f =
      let k = step_fire (slots r) ranks ks r (seat_of ks agreed.m r) t (ap (λ v. is_ready v t) (sym (agreed.states r)) ∙ ready) in
      at k.0 (agreed.m.phase r k.0) (sym (ap (λ (x : Fires). x.message) (ap (λ v. fired v t) (agreed.states r) ∙ k.1.does)) ∙ f)
    where
      at : (s : ℕ) (p : Phase) → sent_message (slots r) ks r s p ≡ Some n → IsMade ranks r n
      at s Idle e = subst (IsMade ranks r) (some_one (ask_message (slots r) ks r (ask s false)) n e) (ask_made r (ask s false))
      at s (Answered old) e = subst (IsMade ranks r) (some_one (ask_message (slots r) ks r (ask s true)) n e) (ask_made r (ask s true))
      at s Asked e = no_some n e
      at s (Served old) e = no_some n e
      at s (Reading old) e = no_some n e
      at s (Read old value) e = no_some n e
      at s (Learned old value) e = no_some n e
      at s (Told old value) e = no_some n e

  -- the registers
  pub no_drops : (r : ℕ) → (state_at (choice_system ranks ks slots) w r).drops ≡ 0
  no_drops r = ap (λ (v : State). v.drops) (agreed.states r)

  pub no_violations : (r : ℕ) → (state_at (choice_system ranks ks slots) w r).violations ≡ 0
  no_violations r = ap (λ (v : State). v.violations) (agreed.states r)

  -- the four words of a step are within the memory
  pub words_within : (r s : ℕ) → s < length ks → 32 * s + 32 ≤ length (state_at (choice_system ranks ks slots) w r).memory
  words_within r s h =
      let seat = seat_of ks agreed.m r in
      subst (λ (v : State). 32 * s + 32 ≤ length v.memory) (sym (agreed.states r))
      (inside_step ks s h (step_bytes ks r seat) (λ t i. length-step ks r seat t))
