-- At every moment the interfaces and the lanes are those of a moment of the machine.
use Rattle.std.proofs.Common.{ℕ, suc, Bool, true, false, cond, not, ◌&&◌, ◌==◌, ◌+◌, ◌≡◌, ◌<◌, List, [], ◌∷◌, ◌++◌, refl, length, map}
use Rattle.std.proofs.Common.{filter, ap, ap₂, ◌∙◌, sym, subst, inl, inr, arith, count_by, append-nil, length-append, add-zero, eq-eqb}
use Rattle.std.proofs.Common.{if◌then◌else◌}
use Rattle.std.proofs.lemmas.Bool.{cases_eq, ne_eqb}
use Rattle.ptl_types.specs.declared.headers.Header.{Header}
use Rattle.ptl_types.specs.declared.headers.Lane.{Lane}
use Rattle.ptl_types.specs.declared.headers.Lane.TheVariants.{Request, Answer as AnswerLane}
use Rattle.ptl_types.specs.Kinds.{is_answer}
use Rattle.ptl_types.specs.Messages.{Sent}
use Rattle.ni_model.specs.Ready.{is_ready}
use Rattle.ni_model.specs.State.{State}
use Rattle.cuts.specs.histories.History.{Local, after, and_then, got, is_for, is_lane, is_start, made_by, state}
use Rattle.cuts.specs.histories.History.Local.{Fire, Receive, Start}
use Rattle.cuts.specs.histories.Moment.{IsLocalStep, Lanes}
use Rattle.cuts.proofs.histories.Fronts.{state-append}
use Rattle.plan_core.proofs.Lists.{count-append}
use Rattle.coll_lang.specs.declared.choices.ChoiceKind.{ChoiceKind}
use Rattle.plan_choice.specs.texts.machine.Choices.{choice_at}
use Rattle.coll_lang.specs.declared.choices.ChoiceKind.TheVariants.{Elect, Tickets}
use Rattle.plan_choice.specs.texts.machine.Machine.{Answer, Ask, Moment, Phase, ask, begun as begun_in, fired as fired_in, opened, returned}
use Rattle.plan_choice.specs.texts.machine.Machine.{sent_at}
use Rattle.plan_choice.specs.texts.machine.Machine.{taken}
use Rattle.plan_choice.specs.texts.machine.Machine.Phase.{Answered, Asked, Idle, Learned, Read, Reading, Served, Told}
use Rattle.plan_choice.specs.texts.machine.Lawful.{IsLawful}
use Rattle.plan_choice.proofs.texts.machine.Moments.{opened_lawful}
use Rattle.plan_choice.specs.texts.machine.Counted.{steps_made}
use Rattle.plan_choice.proofs.texts.machine.Counting.{made_opened}
use Rattle.plan_choice.specs.texts.view.Install.{Slots, answer_message, ask_header, ask_message, first_header, seat_of, view}
use Rattle.plan_choice.specs.texts.view.Steps.{sent_message}
use Rattle.plan_choice.proofs.texts.view.Called.{installed}
use Rattle.plan_choice.proofs.texts.view.Firings.{IsFiring}
use Rattle.cuts.specs.histories.System.{Histories, System, state_at}
use Rattle.plan_choice.specs.texts.laws.Decided.{choice_system}

-- ---- the lanes on which messages of a choice text go
pub record GoesTo (d : ℕ) (answers : Bool) (h : Header) : Type 0 where
  pub target : h.target ≡ d
  pub kind : is_answer h.kind ≡ answers

pub ask_goes : (k : Slots) (ks : List ChoiceKind) (r s : ℕ) (reads : Bool) → GoesTo 0 false (ask_header k ks r s reads)
ask_goes k ks r s true = record { target = refl; kind = refl }
ask_goes k ks r s false = at (choice_at ks s)
  where
    at : (c : ChoiceKind) → GoesTo 0 false (first_header k ks c r s)
    at Elect = record { target = refl; kind = refl }
    at Tickets = record { target = refl; kind = refl }

pub ask_source : (k : Slots) (ks : List ChoiceKind) (r s : ℕ) (reads : Bool) → (ask_header k ks r s reads).source ≡ r
ask_source k ks r s true = refl
ask_source k ks r s false = at (choice_at ks s)
  where
    at : (c : ChoiceKind) → (first_header k ks c r s).source ≡ r
    at Elect = refl
    at Tickets = refl

pub answer_goes : (k : Slots) (ks : List ChoiceKind) (r : ℕ) (a : Answer) → GoesTo r true (answer_message k ks r a).header
answer_goes k ks r a = record { target = ask_source k ks r a.step a.reads; kind = refl }

-- of a list with one message
pub kept_one : (d : ℕ) (lane : Lane) (m : Sent) → is_for d lane m ≡ true → filter (is_for d lane) (m ∷ []) ≡ m ∷ []
kept_one d lane m e = ap (λ b. cond b (m ∷ []) []) e

pub dropped_one : (d : ℕ) (lane : Lane) (m : Sent) → is_for d lane m ≡ false → filter (is_for d lane) (m ∷ []) ≡ []
dropped_one d lane m e = ap (λ b. cond b (m ∷ []) []) e

pub both_false : (x : Bool) → (x && false) ≡ false
both_false true = refl
both_false false = refl

pub for_rank : (d : ℕ) (lane : Lane) (answers : Bool) (e : ℕ) (m : Sent) → GoesTo e answers m.header → (e ≡ d → ⊥) → is_for d lane m ≡ false
for_rank d lane answers e m h n = ap (λ b. b && is_lane lane m.header.kind) (ap (λ t. t == d) h.target ∙ ne_eqb e d n)

pub for_ask : (d : ℕ) (m : Sent) → GoesTo d false m.header → is_for d Request m ≡ true
for_ask d m h = ap₂ (λ t a. (t == d) && not a) h.target h.kind ∙ ap (λ b. b && true) (eq-eqb d d refl)

pub for_answer : (d : ℕ) (m : Sent) → GoesTo d true m.header → is_for d AnswerLane m ≡ true
for_answer d m h = ap₂ (λ t a. (t == d) && a) h.target h.kind ∙ ap (λ b. b && true) (eq-eqb d d refl)

pub ask_no_answer : (d e : ℕ) (m : Sent) → GoesTo e false m.header → is_for d AnswerLane m ≡ false
ask_no_answer d e m h = ap (λ a. (m.header.target == d) && a) h.kind ∙ both_false (m.header.target == d)

pub answer_no_ask : (d e : ℕ) (m : Sent) → GoesTo e true m.header → is_for d Request m ≡ false
answer_no_ask d e m h = ap (λ a. (m.header.target == d) && not a) h.kind ∙ both_false (m.header.target == d)

-- of what a firing sends
module _ (k : Slots) (ks : List ChoiceKind) (r s : ℕ) where
  pub sent_list : (p : Phase) → and_then (sent_message k ks r s p) [] ≡ map (ask_message k ks r) (sent_at s p)
  sent_list Idle = refl
  sent_list (Answered old) = refl
  sent_list Asked = refl
  sent_list (Served old) = refl
  sent_list (Reading old) = refl
  sent_list (Read old value) = refl
  sent_list (Learned old value) = refl
  sent_list (Told old value) = refl

  pub sent_kept : (p : Phase) → filter (is_for 0 Request) (map (ask_message k ks r) (sent_at s p)) ≡ map (ask_message k ks r) (sent_at s p)
  sent_kept Idle = kept_one 0 Request (ask_message k ks r (ask s false))
      (for_ask 0 (ask_message k ks r (ask s false)) (ask_goes k ks r s false))
  sent_kept (Answered old) = kept_one 0 Request (ask_message k ks r (ask s true))
      (for_ask 0 (ask_message k ks r (ask s true)) (ask_goes k ks r s true))
  sent_kept Asked = refl
  sent_kept (Served old) = refl
  sent_kept (Reading old) = refl
  sent_kept (Read old value) = refl
  sent_kept (Learned old value) = refl
  sent_kept (Told old value) = refl

  pub sent_no_rank : (d : ℕ) → (0 ≡ d → ⊥) → (p : Phase) → filter (is_for d Request) (map (ask_message k ks r) (sent_at s p)) ≡ []
  sent_no_rank d n Idle = dropped_one d Request (ask_message k ks r (ask s false))
      (for_rank d Request false 0 (ask_message k ks r (ask s false)) (ask_goes k ks r s false) n)
  sent_no_rank d n (Answered old) =
      dropped_one d Request (ask_message k ks r (ask s true))
      (for_rank d Request false 0 (ask_message k ks r (ask s true)) (ask_goes k ks r s true) n)
  sent_no_rank d n Asked = refl
  sent_no_rank d n (Served old) = refl
  sent_no_rank d n (Reading old) = refl
  sent_no_rank d n (Read old value) = refl
  sent_no_rank d n (Learned old value) = refl
  sent_no_rank d n (Told old value) = refl

  pub sent_no_answer : (d : ℕ) (p : Phase) → filter (is_for d AnswerLane) (map (ask_message k ks r) (sent_at s p)) ≡ []
  sent_no_answer d Idle = dropped_one d AnswerLane (ask_message k ks r (ask s false))
      (ask_no_answer d 0 (ask_message k ks r (ask s false)) (ask_goes k ks r s false))
  sent_no_answer d (Answered old) =
      dropped_one d AnswerLane (ask_message k ks r (ask s true))
      (ask_no_answer d 0 (ask_message k ks r (ask s true)) (ask_goes k ks r s true))
  sent_no_answer d Asked = refl
  sent_no_answer d (Served old) = refl
  sent_no_answer d (Reading old) = refl
  sent_no_answer d (Read old value) = refl
  sent_no_answer d (Learned old value) = refl
  sent_no_answer d (Told old value) = refl

-- ---- a step of an interleaving
module _ (n : System) (world : Histories) (held : Lanes) (world_after : Histories) (held_after : Lanes)
    (step : IsLocalStep n world held world_after held_after) where
  pub by_rank : {X : Type 0} (q : ℕ) (x y : X) → ((q ≡ step.r) → cond (q == step.r) x y ≡ x)
      × ((q ≡ step.r → ⊥) → cond (q == step.r) x y ≡ y)
  by_rank q x y = ((λ e. ap (λ b. cond b x y) (eq-eqb q step.r e)), (λ n. ap (λ b. cond b x y) (ne_eqb q step.r n)))

  pub state_moved : (e : Local) → step.e ≡ e → state_at n world_after step.r ≡ after (n.go step.r) (state_at n world step.r) e
  state_moved e q = ap (state (n.go step.r) (n.first step.r)) step.rank
      ∙ state-append (n.go step.r) (n.first step.r) (world step.r) (step.e ∷ []) ∙ ap (after (n.go step.r) (state_at n world step.r)) q

  pub state_stays : (q : ℕ) → (q ≡ step.r → ⊥) → state_at n world_after q ≡ state_at n world q
  state_stays q m = ap (state (n.go q) (n.first q)) (step.others q m)

  pub lane_gains : (e : Local) → step.e ≡ e → (d : ℕ) (lane : Lane)
      → held_after step.r d lane ≡ step.rest step.r d lane ++ filter (is_for d lane) (and_then (made_by (state_at n world step.r) e) [])
  lane_gains e q d lane = step.left step.r d lane
      ∙ ap (λ v. step.rest step.r d lane ++ v)
      ((by_rank step.r _ []).0 refl ∙ ap (λ v. filter (is_for d lane) (and_then (made_by (state_at n world step.r) v) [])) q)

  pub lane_gains_none : (s d : ℕ) (lane : Lane) → (s ≡ step.r → ⊥) → held_after s d lane ≡ step.rest s d lane
  lane_gains_none s d lane m =
      step.left s d lane ∙ ap (λ v. step.rest s d lane ++ v) ((by_rank s _ []).1 m) ∙ append-nil (step.rest s d lane)

  pub lane_gives : (e : Local) → step.e ≡ e → (s : ℕ) (lane : Lane) → held s step.r lane ≡ got (e ∷ []) s lane ++ step.rest s step.r lane
  lane_gives e q s lane = step.taken s step.r lane
      ∙ ap (λ v. v ++ step.rest s step.r lane) ((by_rank step.r _ []).0 refl ∙ ap (λ v. got (v ∷ []) s lane) q)

  pub lane_gives_none : (s d : ℕ) (lane : Lane) → (d ≡ step.r → ⊥) → step.rest s d lane ≡ held s d lane
  lane_gives_none s d lane m = sym (step.taken s d lane ∙ ap (λ v. v ++ step.rest s d lane) ((by_rank d (got (step.e ∷ []) s lane) []).1 m))

  -- a lane from which this step takes nothing
  pub untaken : (e : Local) → step.e ≡ e → (s d : ℕ) (lane : Lane) → got (e ∷ []) s lane ≡ [] → step.rest s d lane ≡ held s d lane
  untaken e q s d lane f = elim (cases_eq d step.r) [
    | inl i ↦ subst (λ v. step.rest s v lane ≡ held s v lane) (sym i)
        (sym (lane_gives e q s lane ∙ ap (λ v. v ++ step.rest s step.r lane) f))
    | inr m ↦ lane_gives_none s d lane m
  ]

  -- starts
  pub starts_counted : (e : Local) → step.e ≡ e
      → count_by is_start (world_after step.r) ≡ count_by is_start (world step.r) + (if is_start e then 1 else 0)
  starts_counted e q =
      ap (count_by is_start) step.rank ∙ count-append is_start (world step.r) (step.e ∷ [])
      ∙ ap (λ v. count_by is_start (world step.r) + count_by is_start (v ∷ [])) q
      ∙ ap (λ v. count_by is_start (world step.r) + v) (one e)
    where
      one : (e : Local) → count_by is_start (e ∷ []) ≡ cond (is_start e) 1 0
      one Start = refl
      one (Receive s lane m) = refl
      one (Fire t) = refl

  -- a step that isn't a start leaves how many there were
  pub starts_stay : (e : Local) → step.e ≡ e → is_start e ≡ false → (q : ℕ)
      → count_by is_start (world_after q) ≡ count_by is_start (world q)
  starts_stay e i f q = elim (cases_eq q step.r) [
    | inl j ↦ subst (λ v. count_by is_start (world_after v) ≡ count_by is_start (world v)) (sym j)
        (starts_counted e i
        ∙ ap (λ b. count_by is_start (world step.r) + (if b then 1 else 0)) f
        ∙ add-zero (count_by is_start (world step.r)))
    | inr m ↦ ap (count_by is_start) (step.others q m)
  ]

  -- a history grows by one
  pub history_grows : length (world_after step.r) ≡ suc (length (world step.r))
  history_grows = ap length step.rank ∙ length-append (world step.r) (step.e ∷ [])
      ∙ (let q : length (world step.r) + 1 ≡ suc (length (world step.r)) = omega arith in q)

  pub history_stays : (q : ℕ) → (q ≡ step.r → ⊥) → length (world_after q) ≡ length (world q)
  history_stays q m = ap length (step.others q m)

  -- so does what was made
  pub lengths_next : (before behind : ℕ → ℕ) → ((q : ℕ) → length (world q) ≡ before q) → behind step.r ≡ suc (before step.r)
      → ((q : ℕ) → (q ≡ step.r → ⊥) → behind q ≡ before q) → (q : ℕ) → length (world_after q) ≡ behind q
  lengths_next before behind agreed more same q = elim (cases_eq q step.r) [
    | inl i ↦ subst (λ v. length (world_after v) ≡ behind v) (sym i) (history_grows ∙ ap suc (agreed step.r) ∙ sym more)
    | inr m ↦ history_stays q m ∙ agreed q ∙ sym (same q m)
  ]

-- ---- a moment of the machine that the interfaces and the lanes agree with
pub record Agrees (ranks : ℕ) (ks : List ChoiceKind) (slots : ℕ → Slots) (world : Histories) (held : Lanes) : Type 0 where
  pub m : Moment
  pub lawful : IsLawful ranks ks m
  pub states : (r : ℕ) → state_at (choice_system ranks ks slots) world r ≡ view (slots r) ranks ks r (seat_of ks m r)
  pub fresh : (r : ℕ) → count_by is_start (world r) ≡ 0 → m.started r ≡ false
  pub begun : (r : ℕ) → 0 < count_by is_start (world r) → m.started r ≡ true
  pub lengths : (r : ℕ) → length (world r) ≡ steps_made ranks ks m r
  pub asks : (r : ℕ) → held r 0 Request ≡ map (ask_message (slots r) ks r) (m.asks r)
  pub answers : (r : ℕ) → held 0 r AnswerLane ≡ map (answer_message (slots r) ks r) (m.answers r)
  pub no_request : (s d : ℕ) → (0 ≡ d → ⊥) → held s d Request ≡ []
  pub no_answer : (s d : ℕ) → (s ≡ 0 → ⊥) → held s d AnswerLane ≡ []

module _ (ranks : ℕ) (ks : List ChoiceKind) (slots : ℕ → Slots) where
  -- the machine goes from moment m to moment n where rank r makes a local step
  abbrev pub Follows : Moment → ℕ → Local → Moment → Type 0
  Follows m r Start n = n ≡ begun_in r m
  Follows m r (Fire t) n = (s : ℕ) × (is_ready (view (slots r) ranks ks r (seat_of ks m r)) t ≡ true)
      × IsFiring (slots r) ranks ks r (seat_of ks m r) t s × (n ≡ fired_in r s m)
  Follows m r (Receive s Request msg) n = (a : Ask) × (rest : List Ask) × (m.asks s ≡ a ∷ rest) × (n ≡ taken ks s a rest m)
  Follows m r (Receive s AnswerLane msg) n = (a : Answer) × (rest : List Answer) × (m.answers r ≡ a ∷ rest) × (n ≡ returned ks r a rest m)

  -- what a step leaves agrees with a moment that follows
  pub record Moved (m : Moment) (r : ℕ) (e : Local) (world_after : Histories) (held_after : Lanes) : Type 0 where
    pub agrees : Agrees ranks ks slots world_after held_after
    pub follows : Follows m r e agrees.m

  -- the first moment
  pub agrees_opened : (world : Histories) (held : Lanes) → ((r : ℕ) → world r ≡ []) → ((s d : ℕ) (lane : Lane) → held s d lane ≡ [])
      → (agreed : Agrees ranks ks slots world held) × (agreed.m ≡ opened ks)
  agrees_opened world held h e = (
    record {
      m = opened ks;
      lawful = opened_lawful ranks ks;
      states = λ r. ap (state_of r) (h r) ∙ installed (slots r) ranks ks r;
      fresh = λ r i. refl;
      begun = λ r i. let q = ap (count_by is_start) (h r) in absurd (none q i);
      lengths = λ r. ap length (h r) ∙ sym (made_opened ranks ks r);
      asks = λ r. e r 0 Request;
      answers = λ r. e 0 r AnswerLane;
      no_request = λ s d i. e s d Request;
      no_answer = λ s d i. e s d AnswerLane;
    },
    refl,
  )
    where
      state_of : ℕ → List Local → State
      state_of r es = state ((choice_system ranks ks slots).go r) ((choice_system ranks ks slots).first r) es

      none : {n : ℕ} → n ≡ 0 → 0 < n → ⊥
      none e i = omega (arith, e, i)
