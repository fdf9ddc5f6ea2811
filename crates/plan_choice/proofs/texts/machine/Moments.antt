-- Every move of the machine keeps what its moments keep, and at rest all is told and right.
use Rattle.std.proofs.Common.{ℕ, true, false, ◌≡◌, ◌≤◌, ◌<◌, ◌⊎◌, List, [], ◌∷◌, ◌++◌, Some, refl, length, map, ap, ◌∙◌, sym, subst, inl}
use Rattle.std.proofs.Common.{inr, arith}
use Rattle.std.proofs.lemmas.Bool.{cases_eq}
use Rattle.plan_core.specs.Members.{Distinct, In, Within}
use Rattle.plan_core.specs.Plan.{from_to}
use Rattle.plan_core.proofs.Links.{Distinct-from_to, In-from_to, from_to-In}
use Rattle.plan_core.proofs.Lists.{Distinct-map, In-map_cases, all_Within, length-map'}
use Rattle.coll_lang.specs.declared.choices.ChoiceKind.{ChoiceKind}
use Rattle.plan_choice.specs.texts.machine.Choices.{HasValue, IsRight, choice_at}
use Rattle.coll_lang.specs.declared.choices.ChoiceKind.TheVariants.{Elect, Tickets}
use Rattle.plan_choice.specs.texts.machine.Machine.{Answer, Ask, IsTold, Moment, Phase, advanced, answer, at_home, begun, fired, is_ready}
use Rattle.plan_choice.specs.texts.machine.Machine.{opened}
use Rattle.plan_choice.specs.texts.machine.Machine.{put, put_in, returned, sent_at, served, taken, value_of, word_after}
use Rattle.plan_choice.specs.texts.machine.Machine.Phase.{Answered, Asked, Idle, Learned, Read, Reading, Served, Told}
use Rattle.plan_choice.specs.texts.machine.Lawful.{Holds, InFlight, IsLawful, IsResting, answer_step, ask_step, has_ticket, is_past}
use Rattle.plan_choice.specs.texts.machine.Lawful.{is_plain}
use Rattle.plan_choice.specs.texts.machine.Lawful.{on_answer, on_request, read_by, ticket_of}
use Rattle.plan_choice.proofs.texts.machine.Places.{count_all, put-other, put-same, put_in-column, put_in-rank, put_in-row, put_in-step}
use Rattle.plan_choice.proofs.texts.machine.Flight.{fired_flight, returned_flight, taken_flight}
use Rattle.plan_choice.proofs.texts.machine.Words.{fired_holds, length-from_to, opened_holds, returned_holds, taken_holds}

-- ---- functions that are equal everywhere
flight_same : (steps : ℕ) (f g : ℕ → Phase) (xs ys : List Ask) (us vs : List Answer) → ((t : ℕ) → f t ≡ g t) → xs ≡ ys → us ≡ vs
    → InFlight steps f xs us → InFlight steps g ys vs
flight_same steps f g xs ys us vs e a b h =
    let q : f ≡ g = λ i t. e t i in
    subst (λ v. InFlight steps g ys v) b (subst (λ v. InFlight steps g v us) a (subst (λ v. InFlight steps v xs us) q h))

holds_same : (k : ChoiceKind) (ranks : ℕ) (f g : ℕ → Phase) (v w : ℕ) → ((q : ℕ) → f q ≡ g q) → v ≡ w → Holds k ranks f v
    → Holds k ranks g w
holds_same k ranks f g v w e a h =
    let q : f ≡ g = λ i t. e t i in
    subst (λ n. Holds k ranks g n) a (subst (λ u. Holds k ranks u v) q h)

-- ---- one rank and one step moved
module _ (ranks : ℕ) (ks : List ChoiceKind) (m : Moment) (now : IsLawful ranks ks m) (r s : ℕ) (p : Phase) (asks : List Ask)
    (answers : List Answer) (w : ℕ) where
  -- the moment with these
  abbrev pub moved : Moment
  moved = record m { phase = put_in r s p m.phase; word = put s w m.word; asks = put r asks m.asks; answers = put r answers m.answers }

  pub moved_lawful : InFlight (length ks) (put s p (m.phase r)) asks answers → Holds (choice_at ks s) ranks (put r p (λ q. m.phase q s)) w
      → IsLawful ranks ks moved
  moved_lawful flight holds = record {
    flight = λ q i. flight_at q i (cases_eq q r);
    holds = λ t i. holds_at t i (cases_eq t s);
  }
    where
      flight_at : (q : ℕ) → q < ranks → ((q ≡ r) ⊎ (q ≡ r → ⊥))
          → InFlight (length ks) (put_in r s p m.phase q) (put r asks m.asks q) (put r answers m.answers q)
      flight_at q i (inl e) =
          subst (λ v. InFlight (length ks) (put_in r s p m.phase v) (put r asks m.asks v) (put r answers m.answers v)) (sym e)
          (flight_same (length ks) _ _ _ _ _ _ (λ t. sym (put_in-row r s p m.phase t)) (sym (put-same r asks m.asks))
          (sym (put-same r answers m.answers)) flight)
      flight_at q i (inr n) = flight_same (length ks) _ _ _ _ _ _ (λ t. sym (put_in-rank r s p m.phase q t n))
          (sym (put-other r asks m.asks q n)) (sym (put-other r answers m.answers q n)) (now.flight q i)

      holds_at : (t : ℕ) → t < length ks → ((t ≡ s) ⊎ (t ≡ s → ⊥))
          → Holds (choice_at ks t) ranks (λ q. put_in r s p m.phase q t) (put s w m.word t)
      holds_at t i (inl e) =
          subst (λ v. Holds (choice_at ks v) ranks (λ q. put_in r s p m.phase q v) (put s w m.word v)) (sym e)
          (holds_same (choice_at ks s) ranks _ _ _ _ (λ q. sym (put_in-column r s p m.phase q)) (sym (put-same s w m.word)) holds)
      holds_at t i (inr n) = holds_same (choice_at ks t) ranks _ _ _ _ (λ q. sym (put_in-step r s p m.phase q t n))
          (sym (put-other s w m.word t n)) (now.holds t i)

-- what is put again stays
pub put-again : {X : Type 0} (n : ℕ) (f : ℕ → X) → put n (f n) f ≡ f
put-again n f = λ i k. at k (cases_eq k n) i
  where
    at : (k : ℕ) → ((k ≡ n) ⊎ (k ≡ n → ⊥)) → put n (f n) f k ≡ f k
    at k (inl e) = ap (λ v. put n (f n) f v) e ∙ put-same n (f n) f ∙ ap f (sym e)
    at k (inr e) = put-other n (f n) f k e

-- ---- the moves
module _ (ranks : ℕ) (ks : List ChoiceKind) where
  pub opened_lawful : IsLawful ranks ks (opened ks)
  opened_lawful = record {
    flight = λ r i. record {
      asks_known = λ a j. absurd j;
      answers_known = λ a j. absurd j;
      asks_once = tt;
      answers_once = tt;
      asks_all = λ s j e. no_path e;
      answers_all = λ s j e. no_path e;
    };
    holds = λ s i. opened_holds (choice_at ks s) ranks;
  }
    where
      no_path : false ≡ true → ⊥
      no_path e = cc

  pub begun_lawful : (m : Moment) (r : ℕ) → IsLawful ranks ks m → IsLawful ranks ks (begun r m)
  begun_lawful m r now = record { flight = now.flight; holds = now.holds }

  pub fired_lawful : (m : Moment) (r s : ℕ) → r < ranks → s < length ks → is_ready (choice_at ks s) (m.phase r s) ≡ true
      → IsLawful ranks ks m → IsLawful ranks ks (fired r s m)
  fired_lawful m r s i j e now =
      subst (λ (v : Moment). IsLawful ranks ks v) same
      (moved_lawful ranks ks m now r s (advanced (m.phase r s)) (m.asks r ++ sent_at s (m.phase r s)) (m.answers r) (m.word s)
      (fired_flight (length ks) (m.phase r) (m.asks r) (m.answers r) s j (now.flight r i) (off (choice_at ks s) (m.phase r s) e).0
      (off (choice_at ks s) (m.phase r s) e).1)
      (fired_holds (choice_at ks s) ranks (m.word s) r (λ q. m.phase q s) (now.holds s j)))
    where
      same : moved ranks ks m now r s (advanced (m.phase r s)) (m.asks r ++ sent_at s (m.phase r s)) (m.answers r) (m.word s) ≡ fired r s m
      same = λ d. record (fired r s m) { word = put-again s m.word d; answers = put-again r m.answers d }

      off : (k : ChoiceKind) (p : Phase) → is_ready k p ≡ true → (on_request p ≡ false) × (on_answer p ≡ false)
      off k Idle e = (refl, refl)
      off k (Answered old) e = (refl, refl)
      off k (Learned old value) e = (refl, refl)
      off k (Told old value) e = (refl, refl)
      off Elect Asked e = cc
      off Tickets Asked e = cc
      off Elect (Served old) e = cc
      off Tickets (Served old) e = cc
      off Elect (Reading old) e = cc
      off Tickets (Reading old) e = cc
      off Elect (Read old value) e = cc
      off Tickets (Read old value) e = cc

  pub taken_lawful : (m : Moment) (r : ℕ) (a : Ask) (rest : List Ask) → ranks ≤ 256 → r < ranks → m.asks r ≡ a ∷ rest → IsLawful ranks ks m
      → IsLawful ranks ks (taken ks r a rest m)
  taken_lawful m r a rest at_most i e now =
      let flight : InFlight (length ks) (m.phase r) (a ∷ rest) (m.answers r) =
      subst (λ v. InFlight (length ks) (m.phase r) v (m.answers r)) e (now.flight r i) in
      let known = flight.asks_known a (inl refl) in
      moved_lawful ranks ks m now r a.step (served (m.word a.step) (m.phase r a.step)) rest
      (m.answers r ++ answer a.step a.reads (m.word a.step) ∷ []) (word_after (choice_at ks a.step) a.reads r (m.word a.step))
      (taken_flight (length ks) (m.phase r) a rest (m.answers r) (m.word a.step) flight)
      (taken_holds (choice_at ks a.step) ranks (m.word a.step) r (λ q. m.phase q a.step) a at_most i known.1 (now.holds a.step known.0))

  pub returned_lawful : (m : Moment) (r : ℕ) (a : Answer) (rest : List Answer) → r < ranks → m.answers r ≡ a ∷ rest → IsLawful ranks ks m
      → IsLawful ranks ks (returned ks r a rest m)
  returned_lawful m r a rest i e now =
      let flight : InFlight (length ks) (m.phase r) (m.asks r) (a ∷ rest) =
      subst (λ v. InFlight (length ks) (m.phase r) (m.asks r) v) e (now.flight r i) in
      let known = flight.answers_known a (inl refl) in
      subst (λ (v : Moment). IsLawful ranks ks v) same
      (moved_lawful ranks ks m now r a.step (at_home (choice_at ks a.step) (m.phase r a.step)) (m.asks r) rest (m.word a.step)
      (returned_flight (length ks) (choice_at ks a.step) (m.phase r) (m.asks r) a rest flight)
      (returned_holds (choice_at ks a.step) ranks (m.word a.step) r (λ q. m.phase q a.step) (now.holds a.step known.0)))
    where
      same : moved ranks ks m now r a.step (at_home (choice_at ks a.step) (m.phase r a.step)) (m.asks r) rest (m.word a.step)
          ≡ returned ks r a rest m
      same = λ d. record (returned ks r a rest m) { word = put-again a.step m.word d; asks = put-again r m.asks d }

  -- ---- at rest
  pub rest_told : (m : Moment) → IsLawful ranks ks m → IsResting ranks ks m → (r s : ℕ) → r < ranks → s < length ks → IsTold (m.phase r s)
  rest_told m now rest r s i j =
      at (choice_at ks s) (m.phase r s) (now.holds s j) refl (rest.idle r s i j) ((now.flight r i).asks_all s j)
      ((now.flight r i).answers_all s j) (rest.no_asks r i) (rest.no_answers r i)
    where
      none : {X : Type 0} (step : X → ℕ) (xs : List X) → length xs ≡ 0 → In s (map step xs) → ⊥
      none step [] e k = k
      none step (x ∷ xs) e k = omega (arith, e)

      plain : (k : ChoiceKind) (old : ℕ) → k ≡ Tickets → m.phase r s ≡ Answered old → Holds k ranks (λ q. m.phase q s) (m.word s) → ⊥
      plain Elect old e f h = cc
      plain Tickets old e f h = no_path (ap is_plain (sym f) ∙ h.plain r i)
        where
          no_path : false ≡ true → ⊥
          no_path e = cc

      at : (k : ChoiceKind) (p : Phase) → Holds k ranks (λ q. m.phase q s) (m.word s) → m.phase r s ≡ p → is_ready k p ≡ false
          → (on_request (m.phase r s) ≡ true → In s (map ask_step (m.asks r)))
          → (on_answer (m.phase r s) ≡ true → In s (map answer_step (m.answers r))) → length (m.asks r) ≡ 0 → length (m.answers r) ≡ 0
          → IsTold p
      at k (Told old value) h e f a b c d = record { old = old; value = value; is = refl }
      at k Asked h e f a b c d = absurd (none ask_step (m.asks r) c (a (ap on_request e)))
      at k (Reading old) h e f a b c d = absurd (none ask_step (m.asks r) c (a (ap on_request e)))
      at k (Served old) h e f a b c d = absurd (none answer_step (m.answers r) d (b (ap on_answer e)))
      at k (Read old value) h e f a b c d = absurd (none answer_step (m.answers r) d (b (ap on_answer e)))
      at Elect Idle h e f a b c d = cc
      at Tickets Idle h e f a b c d = cc
      at Elect (Learned old value) h e f a b c d = cc
      at Tickets (Learned old value) h e f a b c d = cc
      at Elect (Answered old) h e f a b c d = cc
      at Tickets (Answered old) h e f a b c d = absurd (plain Tickets old refl e h)

  -- the values of one step
  told_right : (k : ChoiceKind) (f : ℕ → Phase) (w : ℕ) → 0 < ranks → Holds k ranks f w → ((r : ℕ) → r < ranks → IsTold (f r))
      → IsRight k ranks (λ r. value_of (f r))
  told_right Elect f w some h told = record {
    winner = w;
    is_rank = h.settled 0 some (ap is_past (told 0 some).is);
    agreed = λ r i. ap value_of (told r i).is ∙ h.values r (told r i).value i (ap read_by (told r i).is);
  }
  told_right Tickets f w some h told = record {
    below = λ r i. subst (λ n. value_of (f r) < n) all (h.below r (value_of (f r)) i (ticket r i));
    apart = λ q r i j e. h.apart q r (value_of (f q)) i j (ticket q i) (ticket r j ∙ ap Some (sym e));
    each = λ v i. found v i;
  }
    where
      ticket : (r : ℕ) → r < ranks → ticket_of (f r) ≡ Some (value_of (f r))
      ticket r i = ap ticket_of (told r i).is ∙ ap (λ p. Some (value_of p)) (sym (told r i).is)

      all : w ≡ ranks
      all = sym h.count ∙ count_all (λ r. has_ticket (f r)) (from_to 0 ranks)
          (λ r i. ap has_ticket (told r (let k = from_to-In 0 ranks r i in omega arith)).is) ∙ length-from_to 0 ranks

      values : List ℕ
      values = map (λ r. value_of (f r)) (from_to 0 ranks)

      once : Distinct values
      once = Distinct-map (λ r. value_of (f r)) (from_to 0 ranks) (Distinct-from_to 0 ranks) (λ q r i j e.
          let a = from_to-In 0 ranks q i in
          let b = from_to-In 0 ranks r j in
          let c : q < ranks = omega arith in
          let d : r < ranks = omega arith in
          h.apart q r (value_of (f q)) c d (ticket q c) (ticket r d ∙ ap Some (sym e)))

      within : Within values (from_to 0 ranks)
      within v i =
          let k = In-map_cases (λ r. value_of (f r)) v (from_to 0 ranks) i in
          let a = from_to-In 0 ranks k.0 k.1 in
          let c : k.0 < ranks = omega arith in
          let b = h.below k.0 (value_of (f k.0)) c (ticket k.0 c) in
          let d = k.2 in
          let e = all in
          In-from_to 0 ranks v (omega arith) (omega (arith, b, d, e))

      found : (v : ℕ) → v < ranks → HasValue ranks (λ r. value_of (f r)) v
      found v i =
          let l : length (from_to 0 ranks) ≤ length values =
          (let e = length-map' (λ r. value_of (f r)) (from_to 0 ranks) in omega (arith, e)) in
          let k = In-map_cases (λ r. value_of (f r)) v (from_to 0 ranks)
          (all_Within values (from_to 0 ranks) once within l v (In-from_to 0 ranks v (omega arith) (omega arith))) in
          record { rank = k.0; in_range = (let a = from_to-In 0 ranks k.0 k.1 in omega arith); has = k.2 }

  pub rest_right : (m : Moment) → 0 < ranks → IsLawful ranks ks m → IsResting ranks ks m → (s : ℕ) → s < length ks
      → IsRight (choice_at ks s) ranks (λ r. value_of (m.phase r s))
  rest_right m some now rest s j =
      told_right (choice_at ks s) (λ r. m.phase r s) (m.word s) some (now.holds s j) (λ r i. rest_told m now rest r s i j)
