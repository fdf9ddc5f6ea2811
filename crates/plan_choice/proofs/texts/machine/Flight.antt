-- What is under way, after each move.
use Rattle.std.proofs.Common.{ℕ, Bool, true, false, ◌≡◌, ◌<◌, List, [], ◌∷◌, ◌++◌, refl, map, ap, ◌∙◌, sym, subst, inl, inr, append-nil}
use Rattle.std.proofs.lemmas.Bool.{cases_eq}
use Rattle.std.proofs.lemmas.List.{map-append}
use Rattle.plan_core.specs.Members.{Distinct, In}
use Rattle.plan_core.proofs.Lists.{Distinct-append, In-append_cases, In-append_left, In-append_right, In-map, In-map_cases}
use Rattle.coll_lang.specs.declared.choices.ChoiceKind.{ChoiceKind}
use Rattle.coll_lang.specs.declared.choices.ChoiceKind.TheVariants.{Elect, Tickets}
use Rattle.plan_choice.specs.texts.machine.Machine.{Answer, Ask, Phase, advanced, answer, ask, at_home, put, sent_at, served}
use Rattle.plan_choice.specs.texts.machine.Machine.Phase.{Answered, Asked, Idle, Learned, Read, Reading, Served, Told}
use Rattle.plan_choice.specs.texts.machine.Lawful.{InFlight, IsAnswer, IsAsk, answer_step, ask_step, on_answer, on_request}
use Rattle.plan_choice.proofs.texts.machine.Places.{put-other, put-same}

-- ---- one list of what is under way: requests or answers
module _ {X : Type 0} (step : X → ℕ) (Fits : Phase → X → Type 0) (on : Phase → Bool) (steps : ℕ) where
  -- members of other steps stay known
  known_stays : (xs : List X) (phase : ℕ → Phase) (s : ℕ) (p : Phase) → ((a : X) → In a xs → step a ≡ s → ⊥)
      → ((a : X) → In a xs → (step a < steps) × Fits (phase (step a)) a) → (a : X) → In a xs → (step a < steps)
      × Fits (put s p phase (step a)) a
  known_stays xs phase s p out known a i = let k = known a i in
      (k.0, subst (λ v. Fits v a) (sym (put-other s p phase (step a) (out a i))) k.1)

  -- a member more, of this step
  known_grows : (xs : List X) (x : X) (phase : ℕ → Phase) (p : Phase) → step x < steps → Fits p x
      → ((a : X) → In a xs → step a ≡ step x → ⊥) → ((a : X) → In a xs → (step a < steps) × Fits (phase (step a)) a)
      → (a : X) → In a (xs ++ x ∷ []) → (step a < steps) × Fits (put (step x) p phase (step a)) a
  known_grows xs x phase p at_most fit out known a i = elim (In-append_cases a xs (x ∷ []) i) [
    | inl j ↦ known_stays xs phase (step x) p out known a j
    | inr j ↦ elim j [ inl e ↦ here e | inr k ↦ absurd k ]
  ]
    where
      here : x ≡ a → (step a < steps) × Fits (put (step x) p phase (step a)) a
      here e = subst (λ v. (step v < steps) × Fits (put (step x) p phase (step v)) v) e
          (at_most, subst (λ v. Fits v x) (sym (put-same (step x) p phase)) fit)

  -- the steps that are under way are all there
  all_stays : (xs : List ℕ) (phase : ℕ → Phase) (s : ℕ) (p : Phase) → on p ≡ false → ((t : ℕ) → t < steps → on (phase t) ≡ true → In t xs)
      → (t : ℕ) → t < steps → on (put s p phase t) ≡ true → In t xs
  all_stays xs phase s p off all t at_most e = elim (cases_eq t s) [
    | inl same ↦ none (sym (ap (λ v. on (put s p phase v)) same ∙ ap on (put-same s p phase) ∙ off) ∙ e)
    | inr other ↦ all t at_most (ap on (sym (put-other s p phase t other)) ∙ e)
  ]
    where
      none : false ≡ true → In t xs
      none e = cc

  all_grows : (xs : List ℕ) (phase : ℕ → Phase) (s : ℕ) (p : Phase) → ((t : ℕ) → t < steps → on (phase t) ≡ true → In t xs) → (t : ℕ)
      → t < steps → on (put s p phase t) ≡ true → In t (xs ++ s ∷ [])
  all_grows xs phase s p all t at_most e = elim (cases_eq t s) [
    | inl same ↦ In-append_right t xs (s ∷ []) (inl (sym same))
    | inr other ↦ In-append_left t xs (s ∷ []) (all t at_most (ap on (sym (put-other s p phase t other)) ∙ e))
  ]

  all_shrinks : (xs : List ℕ) (phase : ℕ → Phase) (s : ℕ) (p : Phase) → on p ≡ false
      → ((t : ℕ) → t < steps → on (phase t) ≡ true → In t (s ∷ xs)) → (t : ℕ) → t < steps → on (put s p phase t) ≡ true → In t xs
  all_shrinks xs phase s p off all t at_most e = elim (cases_eq t s) [
    | inl same ↦ none (sym (ap (λ v. on (put s p phase v)) same ∙ ap on (put-same s p phase) ∙ off) ∙ e)
    | inr other ↦ later (all t at_most (ap on (sym (put-other s p phase t other)) ∙ e)) other
  ]
    where
      none : false ≡ true → In t xs
      none e = cc

      later : In t (s ∷ xs) → (t ≡ s → ⊥) → In t xs
      later (inl e) other = absurd (other (sym e))
      later (inr i) other = i

-- once more in a list of steps
once_grows : (xs : List ℕ) (s : ℕ) → Distinct xs → (In s xs → ⊥) → Distinct (xs ++ s ∷ [])
once_grows xs s d out = Distinct-append xs (s ∷ []) d (λ h. h, tt)
    (λ x i j. elim j [ inl e ↦ out (subst (λ v. In v xs) (sym e) i) | inr k ↦ k ])

-- a phase without a request has none under way, and one without an answer has none
ask_on : (p : Phase) (a : Ask) → IsAsk p a → on_request p ≡ true
ask_on Asked a h = refl
ask_on (Reading old) a h = refl
ask_on Idle a h = absurd h
ask_on (Served old) a h = absurd h
ask_on (Answered old) a h = absurd h
ask_on (Read old value) a h = absurd h
ask_on (Learned old value) a h = absurd h
ask_on (Told old value) a h = absurd h

answer_on : (p : Phase) (a : Answer) → IsAnswer p a → on_answer p ≡ true
answer_on (Served old) a h = refl
answer_on (Read old value) a h = refl
answer_on Idle a h = absurd h
answer_on Asked a h = absurd h
answer_on (Answered old) a h = absurd h
answer_on (Reading old) a h = absurd h
answer_on (Learned old value) a h = absurd h
answer_on (Told old value) a h = absurd h

no_both : {b : Bool} → b ≡ false → b ≡ true → ⊥
no_both e f = cc

module _ (steps : ℕ) (phase : ℕ → Phase) (asks : List Ask) (answers : List Answer) (now : InFlight steps phase asks answers) where
  no_ask : (s : ℕ) → on_request (phase s) ≡ false → (a : Ask) → In a asks → ask_step a ≡ s → ⊥
  no_ask s off a i e = no_both off (ap (λ v. on_request (phase v)) (sym e) ∙ ask_on (phase a.step) a (now.asks_known a i).1)

  no_answer : (s : ℕ) → on_answer (phase s) ≡ false → (a : Answer) → In a answers → answer_step a ≡ s → ⊥
  no_answer s off a i e = no_both off (ap (λ v. on_answer (phase v)) (sym e) ∙ answer_on (phase a.step) a (now.answers_known a i).1)

  no_ask_step : (s : ℕ) → on_request (phase s) ≡ false → In s (map ask_step asks) → ⊥
  no_ask_step s off i = let k = In-map_cases ask_step s asks i in no_ask s off k.0 k.1 k.2

  no_answer_step : (s : ℕ) → on_answer (phase s) ≡ false → In s (map answer_step answers) → ⊥
  no_answer_step s off i = let k = In-map_cases answer_step s answers i in no_answer s off k.0 k.1 k.2

  -- a phase with nothing under way becomes another such
  pub flight_stays : (s : ℕ) (p : Phase) → on_request (phase s) ≡ false → on_answer (phase s) ≡ false → on_request p ≡ false
      → on_answer p ≡ false → InFlight steps (put s p phase) asks answers
  flight_stays s p a b c d = record {
    asks_known = known_stays ask_step IsAsk on_request steps asks phase s p (no_ask s a) now.asks_known;
    answers_known = known_stays answer_step IsAnswer on_answer steps answers phase s p (no_answer s b) now.answers_known;
    asks_once = now.asks_once;
    answers_once = now.answers_once;
    asks_all = all_stays ask_step IsAsk on_request steps (map ask_step asks) phase s p c now.asks_all;
    answers_all = all_stays answer_step IsAnswer on_answer steps (map answer_step answers) phase s p d now.answers_all;
  }

  -- a request is sent
  pub flight_asks : (s : ℕ) (reads : Bool) (p : Phase) → s < steps → on_request (phase s) ≡ false → on_answer (phase s) ≡ false
      → IsAsk p (ask s reads) → on_answer p ≡ false → InFlight steps (put s p phase) (asks ++ ask s reads ∷ []) answers
  flight_asks s reads p at_most a b fit d = record {
    asks_known = known_grows ask_step IsAsk on_request steps asks (ask s reads) phase p at_most fit (no_ask s a) now.asks_known;
    answers_known = known_stays answer_step IsAnswer on_answer steps answers phase s p (no_answer s b) now.answers_known;
    asks_once = subst Distinct (sym (map-append ask_step asks (ask s reads ∷ [])))
        (once_grows (map ask_step asks) s now.asks_once (no_ask_step s a));
    answers_once = now.answers_once;
    asks_all = λ t at_most e. subst (In t) (sym (map-append ask_step asks (ask s reads ∷ [])))
        (all_grows ask_step IsAsk on_request steps (map ask_step asks) phase s p now.asks_all t at_most e);
    answers_all = all_stays answer_step IsAnswer on_answer steps (map answer_step answers) phase s p d now.answers_all;
  }

-- a request is taken and answered
pub flight_serves : (steps : ℕ) (phase : ℕ → Phase) (a : Ask) (asks : List Ask) (answers : List Answer) (v : ℕ) (p : Phase)
    → InFlight steps phase (a ∷ asks) answers → on_answer (phase a.step) ≡ false
    → on_request p ≡ false → IsAnswer p (answer a.step a.reads v)
    → InFlight steps (put a.step p phase) asks (answers ++ answer a.step a.reads v ∷ [])
flight_serves steps phase a asks answers v p now b c fit = record {
  asks_known = known_stays ask_step IsAsk on_request steps asks phase a.step p
      (λ x i e. now.asks_once.0 (subst (λ n. In n (map ask_step asks)) e (In-map ask_step x asks i))) (λ x i. now.asks_known x (inr i));
  answers_known = known_grows answer_step IsAnswer on_answer steps answers (answer a.step a.reads v) phase p
      (now.asks_known a (inl refl)).0 fit (no_answer steps phase (a ∷ asks) answers now a.step b) now.answers_known;
  asks_once = now.asks_once.1;
  answers_once = subst Distinct (sym (map-append answer_step answers (answer a.step a.reads v ∷ [])))
      (once_grows (map answer_step answers) a.step now.answers_once (no_answer_step steps phase (a ∷ asks) answers now a.step b));
  asks_all = all_shrinks ask_step IsAsk on_request steps (map ask_step asks) phase a.step p c now.asks_all;
  answers_all = λ t at_most e. subst (In t) (sym (map-append answer_step answers (answer a.step a.reads v ∷ [])))
      (all_grows answer_step IsAnswer on_answer steps (map answer_step answers) phase a.step p now.answers_all t at_most e);
}

-- an answer comes home
pub flight_returns : (steps : ℕ) (phase : ℕ → Phase) (asks : List Ask) (a : Answer) (answers : List Answer) (p : Phase)
    → InFlight steps phase asks (a ∷ answers) → on_request (phase a.step) ≡ false
    → on_request p ≡ false → on_answer p ≡ false → InFlight steps (put a.step p phase) asks answers
flight_returns steps phase asks a answers p now b c d = record {
  asks_known = known_stays ask_step IsAsk on_request steps asks phase a.step p
      (no_ask steps phase asks (a ∷ answers) now a.step b) now.asks_known;
  answers_known = known_stays answer_step IsAnswer on_answer steps answers phase a.step p
      (λ x i e. now.answers_once.0 (subst (λ n. In n (map answer_step answers)) e (In-map answer_step x answers i)))
      (λ x i. now.answers_known x (inr i));
  asks_once = now.asks_once;
  answers_once = now.answers_once.1;
  asks_all = all_stays ask_step IsAsk on_request steps (map ask_step asks) phase a.step p c now.asks_all;
  answers_all = all_shrinks answer_step IsAnswer on_answer steps (map answer_step answers) phase a.step p d now.answers_all;
}

-- ---- by the moves
pub fired_flight : (steps : ℕ) (phase : ℕ → Phase) (asks : List Ask) (answers : List Answer) (s : ℕ) → s < steps
    → InFlight steps phase asks answers → on_request (phase s) ≡ false → on_answer (phase s) ≡ false
    → InFlight steps (put s (advanced (phase s)) phase) (asks ++ sent_at s (phase s)) answers
fired_flight steps phase asks answers s at_most now a b = at (phase s) refl a b
  where
    stays : (p q : Phase) → phase s ≡ p → on_request p ≡ false → on_answer p ≡ false → on_request q ≡ false → on_answer q ≡ false
        → InFlight steps (put s q phase) (asks ++ []) answers
    stays p q e a b c d = subst (λ v. InFlight steps (put s q phase) v answers) (sym (append-nil asks))
        (flight_stays steps phase asks answers now s q (ap on_request e ∙ a) (ap on_answer e ∙ b) c d)

    at : (p : Phase) → phase s ≡ p → on_request p ≡ false → on_answer p ≡ false
        → InFlight steps (put s (advanced p) phase) (asks ++ sent_at s p) answers
    at Idle e a b = flight_asks steps phase asks answers now s false Asked at_most (ap on_request e) (ap on_answer e) refl refl
    at (Answered old) e a b = flight_asks steps phase asks answers now s true (Reading old) at_most (ap on_request e) (ap on_answer e)
        refl refl
    at (Learned old value) e a b = stays (Learned old value) (Told old value) e a b refl refl
    at (Told old value) e a b = stays (Told old value) (Told old value) e a b refl refl
    at Asked e a b = cc
    at (Served old) e a b = cc
    at (Reading old) e a b = cc
    at (Read old value) e a b = cc

pub taken_flight : (steps : ℕ) (phase : ℕ → Phase) (a : Ask) (asks : List Ask) (answers : List Answer) (w : ℕ)
    → InFlight steps phase (a ∷ asks) answers
    → InFlight steps (put a.step (served w (phase a.step)) phase) asks (answers ++ answer a.step a.reads w ∷ [])
taken_flight steps phase a asks answers w now = at (phase a.step) refl (now.asks_known a (inl refl)).1
  where
    at : (p : Phase) → phase a.step ≡ p → IsAsk p a
        → InFlight steps (put a.step (served w p) phase) asks (answers ++ answer a.step a.reads w ∷ [])
    at Asked e h = flight_serves steps phase a asks answers w (Served w) now (ap on_answer e) refl (h, refl)
    at (Reading old) e h = flight_serves steps phase a asks answers w (Read old w) now (ap on_answer e) refl (h, refl)
    at Idle e h = absurd h
    at (Served old) e h = absurd h
    at (Answered old) e h = absurd h
    at (Read old value) e h = absurd h
    at (Learned old value) e h = absurd h
    at (Told old value) e h = absurd h

pub returned_flight : (steps : ℕ) (k : ChoiceKind) (phase : ℕ → Phase) (asks : List Ask) (a : Answer) (answers : List Answer)
    → InFlight steps phase asks (a ∷ answers) → InFlight steps (put a.step (at_home k (phase a.step)) phase) asks answers
returned_flight steps k phase asks a answers now = at k (phase a.step) refl (now.answers_known a (inl refl)).1
  where
    at : (k : ChoiceKind) (p : Phase) → phase a.step ≡ p → IsAnswer p a → InFlight steps (put a.step (at_home k p) phase) asks answers
    at Elect (Served old) e h = flight_returns steps phase asks a answers (Answered old) now (ap on_request e) refl refl
    at Tickets (Served old) e h = flight_returns steps phase asks a answers (Learned 0 old) now (ap on_request e) refl refl
    at Elect (Read old value) e h = flight_returns steps phase asks a answers (Learned old value) now (ap on_request e) refl refl
    at Tickets (Read old value) e h = flight_returns steps phase asks a answers (Learned old value) now (ap on_request e) refl refl
    at k Idle e h = absurd h
    at k Asked e h = absurd h
    at k (Answered old) e h = absurd h
    at k (Reading old) e h = absurd h
    at k (Learned old value) e h = absurd h
    at k (Told old value) e h = absurd h
