-- Each move is one step of one rank, and a rank makes no more than are due.
use Rattle.std.proofs.Common.{ℕ, zero, suc, Bool, true, false, ◌==◌, ◌+◌, ◌*◌, ◌≡◌, ◌≤◌, ◌<◌, ◌⊎◌, List, [], ◌∷◌, refl, length, map, ap}
use Rattle.std.proofs.Common.{ap₂, ◌∙◌, sym, subst, inl, inr, arith, zero-mul, mul-zero, suc-mul, if◌then◌else◌}
use Rattle.std.specs.Prelude.{sum_by}
use Rattle.std.proofs.lemmas.Bool.{cases_eq, ne_eqb}
use Rattle.std.proofs.lemmas.List.Sums.{sum_by-cons}
use Rattle.plan_core.specs.Members.{Distinct, In}
use Rattle.plan_core.specs.Plan.{from_to}
use Rattle.plan_core.proofs.Links.{Distinct-from_to, In-from_to, from_to-In}
use Rattle.coll_lang.specs.declared.choices.ChoiceKind.{ChoiceKind}
use Rattle.plan_choice.specs.texts.machine.Choices.{choice_at}
use Rattle.coll_lang.specs.declared.choices.ChoiceKind.TheVariants.{Elect, Tickets}
use Rattle.plan_choice.specs.texts.machine.Machine.{Answer, Ask, IsTold, Moment, Phase, advanced, at_home, begun, fired, is_ready, opened}
use Rattle.plan_choice.specs.texts.machine.Machine.{put_in}
use Rattle.plan_choice.specs.texts.machine.Machine.{returned, served, taken}
use Rattle.plan_choice.specs.texts.machine.Machine.Phase.{Answered, Asked, Idle, Learned, Read, Reading, Served, Told}
use Rattle.plan_choice.specs.texts.machine.Lawful.{Holds, IsAnswer, IsAsk, IsLawful, IsResting, answer_step, ask_step, is_plain}
use Rattle.plan_choice.specs.texts.machine.Counted.{home_steps, over_ranks, over_steps, requests_taken, steps_due, steps_made}
use Rattle.plan_choice.specs.texts.machine.Counted.{told_requests}
use Rattle.plan_choice.specs.texts.machine.Counted.{told_steps}
use Rattle.plan_choice.proofs.texts.machine.Places.{put-other, put-same, put_in-rank, put_in-same, put_in-step}
use Rattle.plan_choice.proofs.texts.machine.Moments.{rest_told}
use Rattle.plan_choice.proofs.texts.machine.Words.{length-from_to}
use Rattle.plan_core.proofs.Lists.{In-map_cases, length-Within, length-map'}

-- ---- sums
sum_as : (f g : ℕ → ℕ) (xs : List ℕ) → ((x : ℕ) → In x xs → g x ≡ f x) → sum_by g xs ≡ sum_by f xs
sum_as f g [] same = refl
sum_as f g (x ∷ xs) same = sum_by-cons g x xs ∙ ap₂ (λ a b. a + b) (same x (inl refl)) (sum_as f g xs (λ y i. same y (inr i)))
    ∙ sym (sum_by-cons f x xs)

sum_put : (f g : ℕ → ℕ) (r : ℕ) (xs : List ℕ) → Distinct xs → In r xs → g r ≡ suc (f r) → ((x : ℕ) → (x ≡ r → ⊥) → g x ≡ f x)
    → sum_by g xs ≡ suc (sum_by f xs)
sum_put f g r [] d h more same = absurd h
sum_put f g r (x ∷ xs) d (inl h) more same =
    let a = sum_by-cons g x xs in
    let b = sum_by-cons f x xs in
    let rest = sum_as f g xs (λ y i. same y (λ e. d.0 (subst (λ v. In v xs) (e ∙ sym h) i))) in
    let c : g x ≡ suc (f x) = subst (λ v. g v ≡ suc (f v)) (sym h) more in
    omega (arith, a, b, c, rest)
sum_put f g r (x ∷ xs) d (inr h) more same =
    let a = sum_by-cons g x xs in
    let b = sum_by-cons f x xs in
    let rest = sum_put f g r xs d.1 h more same in
    let c = same x (λ i. d.0 (subst (λ v. In v xs) (sym i) h)) in
    omega (arith, a, b, c, rest)

sum_le : (f g : ℕ → ℕ) (xs : List ℕ) → ((x : ℕ) → In x xs → f x ≤ g x) → sum_by f xs ≤ sum_by g xs
sum_le f g [] h = omega arith
sum_le f g (x ∷ xs) h =
    let a = sum_by-cons f x xs in
    let b = sum_by-cons g x xs in
    let c = h x (inl refl) in
    let rest = sum_le f g xs (λ y i. h y (inr i)) in
    omega (arith, a, b, c, rest)

sum_same : (f : ℕ → ℕ) (n k l : ℕ) → ((x : ℕ) → f x ≡ n) → sum_by f (from_to k l) ≡ l * n
sum_same f n k zero h = sym (zero-mul n)
sum_same f n k (suc l) h =
    let a = sum_by-cons f k (from_to (suc k) l) in
    let b = h k in
    let rest = sum_same f n (suc k) l h in
    let c : suc l * n ≡ l * n + n = suc-mul l n in
    omega (arith, a, b, c, rest)

-- ---- one phase moved
module _ (ks : List ChoiceKind) (many : ChoiceKind → Phase → ℕ) (phase : ℕ → ℕ → Phase) (r s : ℕ) (p : Phase) where
  row_other : (q : ℕ) → (q ≡ r → ⊥) → over_steps ks many (put_in r s p phase q) ≡ over_steps ks many (phase q)
  row_other q n = sum_as _ _ (from_to 0 (length ks)) (λ t i. ap (many (choice_at ks t)) (put_in-rank r s p phase q t n))

  at_step : (t : ℕ) → many (choice_at ks s) p ≡ many (choice_at ks s) (phase r s) → ((t ≡ s) ⊎ (t ≡ s → ⊥))
      → many (choice_at ks t) (put_in r s p phase r t) ≡ many (choice_at ks t) (phase r t)
  at_step t e (inl i) = subst (λ v. many (choice_at ks v) (put_in r s p phase r v) ≡ many (choice_at ks v) (phase r v)) (sym i)
      (ap (many (choice_at ks s)) (put_in-same r s p phase) ∙ e)
  at_step t e (inr n) = ap (many (choice_at ks t)) (put_in-step r s p phase r t n)

  row_same : many (choice_at ks s) p ≡ many (choice_at ks s) (phase r s)
      → over_steps ks many (put_in r s p phase r) ≡ over_steps ks many (phase r)
  row_same e = sum_as _ _ (from_to 0 (length ks)) (λ t i. at_step t e (cases_eq t s))

  row_more : s < length ks → many (choice_at ks s) p ≡ suc (many (choice_at ks s) (phase r s))
      → over_steps ks many (put_in r s p phase r) ≡ suc (over_steps ks many (phase r))
  row_more h e =
      sum_put (λ t. many (choice_at ks t) (phase r t)) (λ t. many (choice_at ks t) (put_in r s p phase r t)) s (from_to 0 (length ks))
      (Distinct-from_to 0 (length ks)) (In-from_to 0 (length ks) s (omega arith) (omega arith))
      (ap (many (choice_at ks s)) (put_in-same r s p phase) ∙ e)
      (λ t n. ap (many (choice_at ks t)) (put_in-step r s p phase r t n))

  all_same : (ranks : ℕ) → many (choice_at ks s) p ≡ many (choice_at ks s) (phase r s)
      → over_ranks ranks ks many (put_in r s p phase) ≡ over_ranks ranks ks many phase
  all_same ranks e = sum_as _ _ (from_to 0 ranks) (λ q i. at q (cases_eq q r))
    where
      at : (q : ℕ) → ((q ≡ r) ⊎ (q ≡ r → ⊥)) → over_steps ks many (put_in r s p phase q) ≡ over_steps ks many (phase q)
      at q (inl i) = subst (λ v. over_steps ks many (put_in r s p phase v) ≡ over_steps ks many (phase v)) (sym i) (row_same e)
      at q (inr n) = row_other q n

  all_more : (ranks : ℕ) → r < ranks → s < length ks → many (choice_at ks s) p ≡ suc (many (choice_at ks s) (phase r s))
      → over_ranks ranks ks many (put_in r s p phase) ≡ suc (over_ranks ranks ks many phase)
  all_more ranks in_range h e =
      sum_put (λ q. over_steps ks many (phase q)) (λ q. over_steps ks many (put_in r s p phase q)) r (from_to 0 ranks)
      (Distinct-from_to 0 ranks) (In-from_to 0 ranks r (omega arith) (omega arith))
      (row_more h e) (λ q n. row_other q n)

-- ---- by phases
home_advanced : (k : ChoiceKind) (p : Phase) → is_ready k p ≡ true → home_steps k (advanced p) ≡ suc (home_steps k p)
home_advanced Elect Idle e = refl
home_advanced Tickets Idle e = refl
home_advanced Elect (Answered old) e = refl
home_advanced Tickets (Answered old) e = cc
home_advanced Elect (Learned old value) e = refl
home_advanced Tickets (Learned old value) e = refl
home_advanced Elect Asked e = cc
home_advanced Tickets Asked e = cc
home_advanced Elect (Served old) e = cc
home_advanced Tickets (Served old) e = cc
home_advanced Elect (Reading old) e = cc
home_advanced Tickets (Reading old) e = cc
home_advanced Elect (Read old value) e = cc
home_advanced Tickets (Read old value) e = cc
home_advanced Elect (Told old value) e = cc
home_advanced Tickets (Told old value) e = cc

taken_advanced : (k : ChoiceKind) (p : Phase) → requests_taken k (advanced p) ≡ requests_taken k p
taken_advanced Elect Idle = refl
taken_advanced Tickets Idle = refl
taken_advanced Elect (Answered old) = refl
taken_advanced Tickets (Answered old) = refl
taken_advanced Elect (Learned old value) = refl
taken_advanced Tickets (Learned old value) = refl
taken_advanced Elect Asked = refl
taken_advanced Tickets Asked = refl
taken_advanced Elect (Served old) = refl
taken_advanced Tickets (Served old) = refl
taken_advanced Elect (Reading old) = refl
taken_advanced Tickets (Reading old) = refl
taken_advanced Elect (Read old value) = refl
taken_advanced Tickets (Read old value) = refl
taken_advanced Elect (Told old value) = refl
taken_advanced Tickets (Told old value) = refl

home_served : (k : ChoiceKind) (w : ℕ) (p : Phase) (a : Ask) → IsAsk p a → home_steps k (served w p) ≡ home_steps k p
home_served Elect w Asked a h = refl
home_served Tickets w Asked a h = refl
home_served Elect w (Reading old) a h = refl
home_served Tickets w (Reading old) a h = refl
home_served k w Idle a h = absurd h
home_served k w (Served old) a h = absurd h
home_served k w (Answered old) a h = absurd h
home_served k w (Read old value) a h = absurd h
home_served k w (Learned old value) a h = absurd h
home_served k w (Told old value) a h = absurd h

taken_served : (k : ChoiceKind) (w : ℕ) (p : Phase) (a : Ask) → IsAsk p a → requests_taken k (served w p) ≡ suc (requests_taken k p)
taken_served Elect w Asked a h = refl
taken_served Tickets w Asked a h = refl
taken_served Elect w (Reading old) a h = refl
taken_served Tickets w (Reading old) a h = refl
taken_served k w Idle a h = absurd h
taken_served k w (Served old) a h = absurd h
taken_served k w (Answered old) a h = absurd h
taken_served k w (Read old value) a h = absurd h
taken_served k w (Learned old value) a h = absurd h
taken_served k w (Told old value) a h = absurd h

-- of tickets, a plain phase
abbrev pub IsPlainFor : ChoiceKind → Phase → Type 0
IsPlainFor Elect p = Unit {0}
IsPlainFor Tickets p = is_plain p ≡ true

home_home : (k : ChoiceKind) (p : Phase) (a : Answer) → IsAnswer p a → IsPlainFor k p → home_steps k (at_home k p) ≡ suc (home_steps k p)
home_home Elect (Served old) a h i = refl
home_home Tickets (Served old) a h i = refl
home_home Elect (Read old value) a h i = refl
home_home Tickets (Read old value) a h i = cc
home_home k Idle a h i = absurd h
home_home k Asked a h i = absurd h
home_home k (Answered old) a h i = absurd h
home_home k (Reading old) a h i = absurd h
home_home k (Learned old value) a h i = absurd h
home_home k (Told old value) a h i = absurd h

taken_home : (k : ChoiceKind) (p : Phase) (a : Answer) → IsAnswer p a → IsPlainFor k p → requests_taken k (at_home k p) ≡ requests_taken k p
taken_home Elect (Served old) a h i = refl
taken_home Tickets (Served old) a h i = refl
taken_home Elect (Read old value) a h i = refl
taken_home Tickets (Read old value) a h i = cc
taken_home k Idle a h i = absurd h
taken_home k Asked a h i = absurd h
taken_home k (Answered old) a h i = absurd h
taken_home k (Reading old) a h i = absurd h
taken_home k (Learned old value) a h i = absurd h
taken_home k (Told old value) a h i = absurd h

-- ---- a rank makes no more steps in a step of the text than when it is told
home_le : (k : ChoiceKind) (p : Phase) → IsPlainFor k p → home_steps k p ≤ told_steps k
home_le Elect Idle h = omega arith
home_le Elect Asked h = omega arith
home_le Elect (Served old) h = omega arith
home_le Elect (Answered old) h = omega arith
home_le Elect (Reading old) h = omega arith
home_le Elect (Read old value) h = omega arith
home_le Elect (Learned old value) h = omega arith
home_le Elect (Told old value) h = omega arith
home_le Tickets Idle h = omega arith
home_le Tickets Asked h = omega arith
home_le Tickets (Served old) h = omega arith
home_le Tickets (Answered old) h = cc
home_le Tickets (Reading old) h = cc
home_le Tickets (Read old value) h = cc
home_le Tickets (Learned old value) h = omega arith
home_le Tickets (Told old value) h = omega arith

taken_le : (k : ChoiceKind) (p : Phase) → IsPlainFor k p → requests_taken k p ≤ told_requests k
taken_le Elect Idle h = omega arith
taken_le Elect Asked h = omega arith
taken_le Elect (Served old) h = omega arith
taken_le Elect (Answered old) h = omega arith
taken_le Elect (Reading old) h = omega arith
taken_le Elect (Read old value) h = omega arith
taken_le Elect (Learned old value) h = omega arith
taken_le Elect (Told old value) h = omega arith
taken_le Tickets Idle h = omega arith
taken_le Tickets Asked h = omega arith
taken_le Tickets (Served old) h = omega arith
taken_le Tickets (Answered old) h = cc
taken_le Tickets (Reading old) h = cc
taken_le Tickets (Read old value) h = cc
taken_le Tickets (Learned old value) h = omega arith
taken_le Tickets (Told old value) h = omega arith

home_told : (k : ChoiceKind) (p : Phase) → IsTold p → home_steps k p ≡ told_steps k
home_told Elect p h = ap (home_steps Elect) h.is
home_told Tickets p h = ap (home_steps Tickets) h.is

taken_told : (k : ChoiceKind) (p : Phase) → IsTold p → requests_taken k p ≡ told_requests k
taken_told Elect p h = ap (requests_taken Elect) h.is
taken_told Tickets p h = ap (requests_taken Tickets) h.is

-- ---- the moves
module _ (ranks : ℕ) (ks : List ChoiceKind) where
  plain_for : (m : Moment) → IsLawful ranks ks m → (r s : ℕ) → r < ranks → s < length ks → IsPlainFor (choice_at ks s) (m.phase r s)
  plain_for m now r s i j = at (choice_at ks s) (now.holds s j)
    where
      at : (k : ChoiceKind) → Holds k ranks (λ q. m.phase q s) (m.word s) → IsPlainFor k (m.phase r s)
      at Elect h = tt
      at Tickets h = h.plain r i

  -- what rank q has made, from its three parts
  abbrev pub made_of : Bool → ℕ → ℕ → ℕ → ℕ
  made_of started home q all = (if started then 1 else 0) + (home + (if q == 0 then all else 0))

  more_home : (b : Bool) (home q all home' all' : ℕ) → home' ≡ suc home → all' ≡ all → made_of b home' q all' ≡ suc (made_of b home q all)
  more_home b home q all home' all' e f = ap₂ (λ x y. made_of b x q y) e f ∙ omega arith

  pub made_begun : (m : Moment) (r : ℕ) → m.started r ≡ false → steps_made ranks ks (begun r m) r ≡ suc (steps_made ranks ks m r)
  made_begun m r e =
      ap (λ b. made_of b (over_steps ks home_steps (m.phase r)) r (over_ranks ranks ks requests_taken m.phase)) (put-same r true m.started)
      ∙ (let q : made_of true (over_steps ks home_steps (m.phase r)) r (over_ranks ranks ks requests_taken m.phase)
      ≡ suc (made_of false (over_steps ks home_steps (m.phase r)) r (over_ranks ranks ks requests_taken m.phase)) = omega arith in q)
      ∙ ap (λ b. suc (made_of b (over_steps ks home_steps (m.phase r)) r (over_ranks ranks ks requests_taken m.phase))) (sym e)

  pub made_begun_other : (m : Moment) (r q : ℕ) → (q ≡ r → ⊥) → steps_made ranks ks (begun r m) q ≡ steps_made ranks ks m q
  made_begun_other m r q n = ap (λ b. made_of b (over_steps ks home_steps (m.phase q)) q (over_ranks ranks ks requests_taken m.phase))
      (put-other r true m.started q n)

  pub made_fired : (m : Moment) (r s : ℕ) → s < length ks → is_ready (choice_at ks s) (m.phase r s) ≡ true
      → steps_made ranks ks (fired r s m) r ≡ suc (steps_made ranks ks m r)
  made_fired m r s h e = more_home (m.started r) _ r _ _ _
      (row_more ks home_steps m.phase r s (advanced (m.phase r s)) h (home_advanced (choice_at ks s) (m.phase r s) e))
      (all_same ks requests_taken m.phase r s (advanced (m.phase r s)) ranks (taken_advanced (choice_at ks s) (m.phase r s)))

  pub made_fired_other : (m : Moment) (r s q : ℕ) → (q ≡ r → ⊥) → steps_made ranks ks (fired r s m) q ≡ steps_made ranks ks m q
  made_fired_other m r s q n = ap₂ (λ x y. made_of (m.started q) x q y)
      (row_other ks home_steps m.phase r s (advanced (m.phase r s)) q n)
      (all_same ks requests_taken m.phase r s (advanced (m.phase r s)) ranks (taken_advanced (choice_at ks s) (m.phase r s)))

  pub made_returned : (m : Moment) (r : ℕ) (a : Answer) (rest : List Answer) → IsLawful ranks ks m → r < ranks → a.step < length ks
      → IsAnswer (m.phase r a.step) a → steps_made ranks ks (returned ks r a rest m) r ≡ suc (steps_made ranks ks m r)
  made_returned m r a rest now i h fit = more_home (m.started r) _ r _ _ _
      (row_more ks home_steps m.phase r a.step (at_home (choice_at ks a.step) (m.phase r a.step)) h
      (home_home (choice_at ks a.step) (m.phase r a.step) a fit (plain_for m now r a.step i h)))
      (all_same ks requests_taken m.phase r a.step (at_home (choice_at ks a.step) (m.phase r a.step)) ranks
      (taken_home (choice_at ks a.step) (m.phase r a.step) a fit (plain_for m now r a.step i h)))

  pub made_returned_other : (m : Moment) (r : ℕ) (a : Answer) (rest : List Answer) → IsLawful ranks ks m → r < ranks → a.step < length ks
      → IsAnswer (m.phase r a.step) a → (q : ℕ) → (q ≡ r → ⊥) → steps_made ranks ks (returned ks r a rest m) q ≡ steps_made ranks ks m q
  made_returned_other m r a rest now i h fit q n = ap₂ (λ x y. made_of (m.started q) x q y)
      (row_other ks home_steps m.phase r a.step (at_home (choice_at ks a.step) (m.phase r a.step)) q n)
      (all_same ks requests_taken m.phase r a.step (at_home (choice_at ks a.step) (m.phase r a.step)) ranks
      (taken_home (choice_at ks a.step) (m.phase r a.step) a fit (plain_for m now r a.step i h)))

  module _ (m : Moment) (r : ℕ) (a : Ask) (rest : List Ask) (i : r < ranks) (h : a.step < length ks)
      (fit : IsAsk (m.phase r a.step) a) where
    taken_home_row : (q : ℕ) → ((q ≡ r) ⊎ (q ≡ r → ⊥))
        → over_steps ks home_steps ((taken ks r a rest m).phase q) ≡ over_steps ks home_steps (m.phase q)
    taken_home_row q (inl e) = subst (λ v. over_steps ks home_steps ((taken ks r a rest m).phase v) ≡ over_steps ks home_steps (m.phase v))
        (sym e) (row_same ks home_steps m.phase r a.step (served (m.word a.step) (m.phase r a.step))
        (home_served (choice_at ks a.step) (m.word a.step) (m.phase r a.step) a fit))
    taken_home_row q (inr n) = row_other ks home_steps m.phase r a.step (served (m.word a.step) (m.phase r a.step)) q n

    pub made_taken : steps_made ranks ks (taken ks r a rest m) 0 ≡ suc (steps_made ranks ks m 0)
    made_taken =
        ap₂ (λ x y. made_of (m.started 0) x 0 y) (taken_home_row 0 (cases_eq 0 r))
        (all_more ks requests_taken m.phase r a.step (served (m.word a.step) (m.phase r a.step)) ranks i h
        (taken_served (choice_at ks a.step) (m.word a.step) (m.phase r a.step) a fit))
        ∙ omega arith

    pub made_taken_other : (q : ℕ) → (q ≡ 0 → ⊥) → steps_made ranks ks (taken ks r a rest m) q ≡ steps_made ranks ks m q
    made_taken_other q n =
        ap₂ (λ x b. (if m.started q then 1 else 0) +
        (x + (if b then over_ranks ranks ks requests_taken (taken ks r a rest m).phase else 0))) (taken_home_row q (cases_eq q r))
        (ne_eqb q 0 n)
        ∙ ap (λ b. (if m.started q then 1 else 0) +
        (over_steps ks home_steps (m.phase q) + (if b then over_ranks ranks ks requests_taken m.phase else 0))) (sym (ne_eqb q 0 n))

  pub made_opened : (r : ℕ) → steps_made ranks ks (opened ks) r ≡ 0
  made_opened r =
      let a : over_steps ks home_steps (λ s. Idle) ≡ 0 =
      zero_sum (λ s. home_steps (choice_at ks s) Idle) (length ks) (λ s. home_idle (choice_at ks s)) in
      let b : over_ranks ranks ks requests_taken (λ q s. Idle) ≡ 0 =
      zero_sum (λ q. over_steps ks requests_taken (λ s. Idle)) ranks
      (λ q. zero_sum (λ s. requests_taken (choice_at ks s) Idle) (length ks) (λ s. taken_idle (choice_at ks s))) in
      ap₂ (λ x y. made_of false x r y) a b ∙ none (r == 0)
    where
      zero_sum : (f : ℕ → ℕ) (n : ℕ) → ((x : ℕ) → f x ≡ 0) → sum_by f (from_to 0 n) ≡ 0
      zero_sum f n h = sum_same f 0 0 n h ∙ mul-zero n

      home_idle : (k : ChoiceKind) → home_steps k Idle ≡ 0
      home_idle Elect = refl
      home_idle Tickets = refl

      taken_idle : (k : ChoiceKind) → requests_taken k Idle ≡ 0
      taken_idle Elect = refl
      taken_idle Tickets = refl

      none : (b : Bool) → 0 + (0 + (if b then 0 else 0)) ≡ 0
      none true = refl
      none false = refl

  -- ---- bounds
  home_bound : (m : Moment) → IsLawful ranks ks m → (r : ℕ) → r < ranks
      → over_steps ks home_steps (m.phase r) ≤ sum_by (λ s. told_steps (choice_at ks s)) (from_to 0 (length ks))
  home_bound m now r i = sum_le _ _ (from_to 0 (length ks))
      (λ s j. home_le (choice_at ks s) (m.phase r s) (plain_for m now r s i (let k = from_to-In 0 (length ks) s j in omega arith)))

  taken_bound : (m : Moment) → IsLawful ranks ks m
      → over_ranks ranks ks requests_taken m.phase ≤ ranks * sum_by (λ s. told_requests (choice_at ks s)) (from_to 0 (length ks))
  taken_bound m now =
      let a = sum_le (λ q. over_steps ks requests_taken (m.phase q))
      (λ q. sum_by (λ s. told_requests (choice_at ks s)) (from_to 0 (length ks))) (from_to 0 ranks)
      (λ q j. sum_le _ _ (from_to 0 (length ks))
      (λ s l. taken_le (choice_at ks s) (m.phase q s)
      (plain_for m now q s (let k = from_to-In 0 ranks q j in omega arith) (let k = from_to-In 0 (length ks) s l in omega arith)))) in
      let b = sum_same (λ q. sum_by (λ s. told_requests (choice_at ks s)) (from_to 0 (length ks)))
      (sum_by (λ s. told_requests (choice_at ks s)) (from_to 0 (length ks))) 0 ranks (λ q. refl) in
      omega (arith, a, b)

  pub made_le : (m : Moment) → IsLawful ranks ks m → (r : ℕ) → r < ranks → steps_made ranks ks m r ≤ steps_due ranks ks r
  made_le m now r i = at (m.started r) (r == 0) (home_bound m now r i) (taken_bound m now)
    where
      at : (b z : Bool) → over_steps ks home_steps (m.phase r) ≤ sum_by (λ s. told_steps (choice_at ks s)) (from_to 0 (length ks))
          → over_ranks ranks ks requests_taken m.phase ≤ ranks * sum_by (λ s. told_requests (choice_at ks s)) (from_to 0 (length ks))
          → (if b then 1 else 0) + (over_steps ks home_steps (m.phase r) + (if z then over_ranks ranks ks requests_taken m.phase else 0)) ≤
          1 + (sum_by (λ s. told_steps (choice_at ks s)) (from_to 0 (length ks)) +
          (if z then ranks * sum_by (λ s. told_requests (choice_at ks s)) (from_to 0 (length ks)) else 0))
      at true true x y = omega (arith, x, y)
      at true false x y = omega (arith, x, y)
      at false true x y = omega (arith, x, y)
      at false false x y = omega (arith, x, y)

  -- at rest all is made
  pub made_all : (m : Moment) → IsLawful ranks ks m → IsResting ranks ks m → (r : ℕ) → r < ranks → m.started r ≡ true
      → steps_made ranks ks m r ≡ steps_due ranks ks r
  made_all m now rest r i e =
      ap (λ b. made_of b (over_steps ks home_steps (m.phase r)) r (over_ranks ranks ks requests_taken m.phase)) e
      ∙ ap₂ (λ x y. made_of true x r y)
      (sum_as _ _ (from_to 0 (length ks))
      (λ s j. home_told (choice_at ks s) (m.phase r s)
      (rest_told ranks ks m now rest r s i (let k = from_to-In 0 (length ks) s j in omega arith))))
      (sum_as (λ q. sum_by (λ s. told_requests (choice_at ks s)) (from_to 0 (length ks))) (λ q. over_steps ks requests_taken (m.phase q))
      (from_to 0 ranks)
      (λ q j. sum_as _ _ (from_to 0 (length ks))
      (λ s l. taken_told (choice_at ks s) (m.phase q s)
      (rest_told ranks ks m now rest q s (let k = from_to-In 0 ranks q j in omega arith)
      (let k = from_to-In 0 (length ks) s l in omega arith))))
      ∙ sum_same (λ q. sum_by (λ s. told_requests (choice_at ks s)) (from_to 0 (length ks)))
      (sum_by (λ s. told_requests (choice_at ks s)) (from_to 0 (length ks))) 0 ranks (λ q. refl))

  -- ---- and where all is made, all is told
  sum_eq : (f g : ℕ → ℕ) (xs : List ℕ) → ((x : ℕ) → In x xs → f x ≤ g x) → sum_by f xs ≡ sum_by g xs → (x : ℕ) → In x xs → f x ≡ g x
  sum_eq f g [] h e x i = absurd i
  sum_eq f g (y ∷ xs) h e x i = at i (λ d j. sum_eq f g xs (λ z l. h z (inr l)) d x j)
    where
      parts : (f y ≡ g y) × (sum_by f xs ≡ sum_by g xs)
      parts =
          let a = sum_by-cons f y xs in
          let b = sum_by-cons g y xs in
          let c = h y (inl refl) in
          let d = sum_le f g xs (λ z j. h z (inr j)) in
          (omega (arith, a, b, c, d, e), omega (arith, a, b, c, d, e))

      at : In x (y ∷ xs) → (sum_by f xs ≡ sum_by g xs → In x xs → f x ≡ g x) → f x ≡ g x
      at (inl j) rest = subst (λ v. f v ≡ g v) j parts.0
      at (inr j) rest = rest parts.1 j

  home_full : (k : ChoiceKind) (p : Phase) → IsPlainFor k p → home_steps k p ≡ told_steps k → IsTold p
  home_full Elect (Told old value) h e = record { old = old; value = value; is = refl }
  home_full Tickets (Told old value) h e = record { old = old; value = value; is = refl }
  home_full Elect Idle h e = absurd (omega (arith, e))
  home_full Elect Asked h e = absurd (omega (arith, e))
  home_full Elect (Served old) h e = absurd (omega (arith, e))
  home_full Elect (Answered old) h e = absurd (omega (arith, e))
  home_full Elect (Reading old) h e = absurd (omega (arith, e))
  home_full Elect (Read old value) h e = absurd (omega (arith, e))
  home_full Elect (Learned old value) h e = absurd (omega (arith, e))
  home_full Tickets Idle h e = absurd (omega (arith, e))
  home_full Tickets Asked h e = absurd (omega (arith, e))
  home_full Tickets (Served old) h e = absurd (omega (arith, e))
  home_full Tickets (Answered old) h e = cc
  home_full Tickets (Reading old) h e = cc
  home_full Tickets (Read old value) h e = cc
  home_full Tickets (Learned old value) h e = absurd (omega (arith, e))

  -- the two parts of rank r that tell of itself
  module _ (m : Moment) (now : IsLawful ranks ks m) (r : ℕ) (i : r < ranks) (full : steps_made ranks ks m r ≡ steps_due ranks ks r) where
    pub full_parts : (m.started r ≡ true)
        × (over_steps ks home_steps (m.phase r) ≡ sum_by (λ s. told_steps (choice_at ks s)) (from_to 0 (length ks)))
    full_parts = at (m.started r) (r == 0) (home_bound m now r i) (taken_bound m now) full
      where
        at : (b z : Bool) → over_steps ks home_steps (m.phase r) ≤ sum_by (λ s. told_steps (choice_at ks s)) (from_to 0 (length ks))
            → over_ranks ranks ks requests_taken m.phase ≤ ranks * sum_by (λ s. told_requests (choice_at ks s)) (from_to 0 (length ks))
            → (if b then 1 else 0) + (over_steps ks home_steps (m.phase r) + (if z then over_ranks ranks ks requests_taken m.phase else 0))
            ≡ 1 + (sum_by (λ s. told_steps (choice_at ks s)) (from_to 0 (length ks)) +
            (if z then ranks * sum_by (λ s. told_requests (choice_at ks s)) (from_to 0 (length ks)) else 0))
            → (b ≡ true) × (over_steps ks home_steps (m.phase r) ≡ sum_by (λ s. told_steps (choice_at ks s)) (from_to 0 (length ks)))
        at true true x y e = (refl, omega (arith, x, y, e))
        at true false x y e = (refl, omega (arith, x, y, e))
        at false true x y e = absurd (omega (arith, x, y, e))
        at false false x y e = absurd (omega (arith, x, y, e))

    pub full_told : (s : ℕ) → s < length ks → IsTold (m.phase r s)
    full_told s j =
        home_full (choice_at ks s) (m.phase r s) (plain_for m now r s i j)
        (sum_eq (λ t. home_steps (choice_at ks t) (m.phase r t)) (λ t. told_steps (choice_at ks t)) (from_to 0 (length ks))
        (λ t l. home_le (choice_at ks t) (m.phase r t) (plain_for m now r t i (let k = from_to-In 0 (length ks) t l in omega arith)))
        full_parts.1 s (In-from_to 0 (length ks) s (omega arith) (omega arith)))

    pub full_no_asks : m.asks r ≡ []
    full_no_asks = none (m.asks r) (λ a j. let k = (now.flight r i).asks_known a j in out a (m.phase r a.step) (full_told a.step k.0) k.1)
      where
        none : (xs : List Ask) → ((a : Ask) → In a xs → ⊥) → xs ≡ []
        none [] h = refl
        none (a ∷ xs) h = absurd (h a (inl refl))

        out : (a : Ask) (p : Phase) → IsTold p → IsAsk p a → ⊥
        out a p t h = subst (λ v. IsAsk v a) t.is h

    pub full_no_answers : m.answers r ≡ []
    full_no_answers = none (m.answers r) (λ a j. let k = (now.flight r i).answers_known a j in
        out a (m.phase r a.step) (full_told a.step k.0) k.1)
      where
        none : (xs : List Answer) → ((a : Answer) → In a xs → ⊥) → xs ≡ []
        none [] h = refl
        none (a ∷ xs) h = absurd (h a (inl refl))

        out : (a : Answer) (p : Phase) → IsTold p → IsAnswer p a → ⊥
        out a p t h = subst (λ v. IsAnswer v a) t.is h

    pub full_idle : (s : ℕ) → s < length ks → is_ready (choice_at ks s) (m.phase r s) ≡ false
    full_idle s j = at (choice_at ks s) (m.phase r s) (full_told s j)
      where
        at : (k : ChoiceKind) (p : Phase) → IsTold p → is_ready k p ≡ false
        at Elect p t = ap (is_ready Elect) t.is
        at Tickets p t = ap (is_ready Tickets) t.is

  -- a rank has at most as many requests under way as there are steps, and answers
  pub asks_few : (m : Moment) → IsLawful ranks ks m → (r : ℕ) → r < ranks → length (m.asks r) ≤ length ks
  asks_few m now r i =
      let f = now.flight r i in
      let a = length-Within (map ask_step (m.asks r)) (from_to 0 (length ks)) f.asks_once
      (λ s j. let k = In-map_cases ask_step s (m.asks r) j in
      In-from_to 0 (length ks) s (omega arith) (let l = (f.asks_known k.0 k.1).0 in let e = k.2 in omega (arith, l, e))) in
      let b = length-map' ask_step (m.asks r) in
      let c = length-from_to 0 (length ks) in
      omega (arith, a, b, c)

  pub answers_few : (m : Moment) → IsLawful ranks ks m → (r : ℕ) → r < ranks → length (m.answers r) ≤ length ks
  answers_few m now r i =
      let f = now.flight r i in
      let a = length-Within (map answer_step (m.answers r)) (from_to 0 (length ks)) f.answers_once
      (λ s j. let k = In-map_cases answer_step s (m.answers r) j in
      In-from_to 0 (length ks) s (omega arith) (let l = (f.answers_known k.0 k.1).0 in let e = k.2 in omega (arith, l, e))) in
      let b = length-map' answer_step (m.answers r) in
      let c = length-from_to 0 (length ks) in
      omega (arith, a, b, c)
