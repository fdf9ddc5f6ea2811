-- Moments of interleavings.
use Rattle.cuts.specs.histories.System.{Histories, sent_by, state_at, System}
use Rattle.cuts.specs.histories.Plans.{start_of, system_of}
use Rattle.cuts.specs.histories.Cut.{IsAtRest, got_by, is_stray, owned}
use Rattle.cuts.specs.view.Slots.{Slots}
use Rattle.cuts.specs.histories.Moment.{HasNoneHeld, HasWindow, IsEnabled, IsLocalStep, IsMoment, IsStill, IsStrayOf, IsStrayStep, IsStuck}
use Rattle.cuts.specs.histories.Moment.{Lanes, is_request_lane, sent_more}
use Rattle.std.proofs.Common.{ℕ, suc, true, false, cond, not, ◌≡◌, ◌<◌, ◌≤◌, ◌==◌, List, [], ◌∷◌, ◌++◌, refl, length, ap, ap₂, ◌∙◌, sym}
use Rattle.std.proofs.Common.{subst, inl, inr, filter, if◌then◌else◌, arith, eq-eqb, eqb-true, append-nil, append_assoc, Option, Some, None}
use Rattle.std.proofs.Common.{count_by, zero, Bool}
use Rattle.std.proofs.lemmas.Bool.{cases_Bool, cases_eq, and_parts, ne_eqb}
use Rattle.std.proofs.lemmas.List.Elements.{filter-append}
use Rattle.ni_model.specs.Conditions.{IsKept}
use Rattle.ni_model.specs.Ready.{is_ready, fired}
use Rattle.op_laws.specs.Combining.{CombineStarts, CombineSwaps}
use Rattle.cuts.proofs.histories.Origin.{IsOf, after_of, fired_link}
use Rattle.cuts.specs.histories.History.{Beginning, after, is_start, Legal, Local, May, and_then, got, is_for, made, made_by, sent, state}
use Rattle.cuts.specs.histories.History.{same_lane}
use Rattle.cuts.specs.histories.History.Local.{Fire, Receive, Start}
use Rattle.ni_model.specs.State.{State}
use Rattle.plan_core.proofs.Links.{out_links-In}
use Rattle.plan_core.proofs.Lists.{In-append_right, In-filter_cases, In-append_cases}
use Rattle.plan_core.specs.Members.{In}
use Rattle.plan_core.specs.Plan.{Plan, link}
use Rattle.plan_core.specs.Sound.{AreInputsOf, SoundPlan}
use Rattle.plan_core.specs.Values.{Inputs}
use Rattle.cuts.proofs.rest.Longer.{got_other, legal_longer, not_begun}
use Rattle.cuts.proofs.histories.Fronts.{flag, got-append, made-append, nothing-behind, owned-all}
use Rattle.cuts.proofs.histories.FromCut.{prepared_of}
use Rattle.cuts.specs.view.Calls.{prepare}
use Rattle.ptl_types.specs.Messages.{Sent}
use Rattle.ptl_types.specs.declared.headers.Header.{Header}
use Rattle.ptl_types.specs.declared.headers.Lane.{Lane}
use Rattle.ptl_types.specs.declared.headers.Lane.TheVariants.{Answer, Request}
use Rattle.cuts.proofs.histories.Clean.{made-clean}
use Rattle.cuts.proofs.rest.Next.{next_held}

owned-stray : (m : Sent) → is_stray m ≡ true → owned (m ∷ []) ≡ []
owned-stray m e = ap (λ b. cond (not b) (m ∷ []) []) e

-- ---- a local step
module _ (starts : CombineStarts) (p : Plan) (inputs : Inputs) (sound : SoundPlan p (length inputs)) (fit : AreInputsOf p inputs)
    (swaps : CombineSwaps) (slots : ℕ → Slots) (w : Histories) (held : Lanes) (moment : IsMoment (system_of p inputs slots) w held)
    (next : Histories) (later : Lanes) (step : IsLocalStep (system_of p inputs slots) w held next later) where
  here_or : {X : Type 0} (q : ℕ) (x y : X) → ((q ≡ step.r) → cond (q == step.r) x y ≡ x) × ((q ≡ step.r → ⊥) → cond (q == step.r) x y ≡ y)
  here_or q x y = ((λ e. ap (λ b. cond b x y) (eq-eqb q step.r e)), (λ n. ap (λ b. cond b x y) (ne_eqb q step.r n)))

  -- what rank q sends by the step
  abbrev gained : ℕ → ℕ → Lane → List Sent
  gained q d lane = filter (is_for d lane) (and_then (made_by (state_at (system_of p inputs slots) w q) step.e) [])

  sent_longer : (q d : ℕ) (lane : Lane) → sent (start_of p (slots q) q) (prepare p inputs (slots q) q) (w q ++ step.e ∷ []) d lane
      ≡ sent_by (system_of p inputs slots) w q d lane ++ gained q d lane
  sent_longer q d lane =
      ap (filter (is_for d lane)) (made-append (start_of p (slots q) q) (prepare p inputs (slots q) q) (w q) (step.e ∷ []))
      ∙ filter-append (is_for d lane) (made (start_of p (slots q) q) (prepare p inputs (slots q) q) (w q))
      (and_then (made_by (state_at (system_of p inputs slots) w q) step.e) [])

  sent_next : (s d : ℕ) (lane : Lane) → sent_by (system_of p inputs slots) next s d lane ≡ sent_by (system_of p inputs slots) w s d lane
      ++ sent_more (system_of p inputs slots) w step.r step.e s d lane
  sent_next s d lane = elim (cases_eq s step.r) [
    | inl e ↦ (ap (λ es. sent (start_of p (slots s) s) (prepare p inputs (slots s) s) es d lane)
        (subst (λ q. next q ≡ w q ++ step.e ∷ []) (sym e) step.rank)
        ∙ sent_longer s d lane
        ∙ ap (λ q. sent_by (system_of p inputs slots) w s d lane ++ gained q d lane) e
        ∙ ap (λ v. sent_by (system_of p inputs slots) w s d lane ++ v) (sym ((here_or s (gained step.r d lane) []).0 e)))
    | inr n ↦ (ap (λ es. sent (start_of p (slots s) s) (prepare p inputs (slots s) s) es d lane) (step.others s n)
        ∙ sym (append-nil (sent_by (system_of p inputs slots) w s d lane))
        ∙ ap (λ v. sent_by (system_of p inputs slots) w s d lane ++ v) (sym ((here_or s (gained step.r d lane) []).1 n)))
  ]

  -- no stray is among it
  more_clean : (s d : ℕ) (lane : Lane) (m : Sent) → In m (sent_more (system_of p inputs slots) w step.r step.e s d lane) →
      is_stray m ≡ false
  more_clean s d lane m i =
      made-clean p inputs sound (slots s) s (next s) m
      (In-filter_cases (is_for d lane) m (made (start_of p (slots s) s) (prepare p inputs (slots s) s) (next s))
      (subst (λ v. In m v) (sym (sent_next s d lane)) (In-append_right m (sent_by (system_of p inputs slots) w s d lane)
      (sent_more (system_of p inputs slots) w step.r step.e s d lane) i))).0

  abbrev taken_at : ℕ → ℕ → Lane → List Sent
  taken_at s d lane = if d == step.r then got (step.e ∷ []) s lane else []

  got_next : (s d : ℕ) (lane : Lane) → got (next d) s lane ≡ got (w d) s lane ++ taken_at s d lane
  got_next s d lane = elim (cases_eq d step.r) [
    | inl e ↦ (ap (λ es. got es s lane) (subst (λ q. next q ≡ w q ++ step.e ∷ []) (sym e) step.rank)
        ∙ got-append (w d) (step.e ∷ []) s lane
        ∙ ap (λ v. got (w d) s lane ++ v) (sym ((here_or d (got (step.e ∷ []) s lane) []).0 e)))
    | inr n ↦ (ap (λ es. got es s lane) (step.others d n) ∙ sym (append-nil (got (w d) s lane))
        ∙ ap (λ v. got (w d) s lane ++ v) (sym ((here_or d (got (step.e ∷ []) s lane) []).1 n)))
  ]

  regroup : (a b c d : List Sent) → (a ++ b) ++ (c ++ d) ≡ (a ++ (b ++ c)) ++ d
  regroup a b c d = sym (append_assoc (a ++ b) c d) ∙ ap (λ v. v ++ d) (append_assoc a b c)

  lanes_next : (s d : ℕ) (lane : Lane) → s < p.ranks → d < p.ranks → owned (got (next d) s lane ++ later s d lane) ≡ sent_by
      (system_of p inputs slots) next s d lane
  lanes_next s d lane hs hd =
      ap₂ (λ a b. owned (a ++ b)) (got_next s d lane) (step.left s d lane)
      ∙ ap owned (regroup (got (w d) s lane) (taken_at s d lane) (step.rest s d lane)
      (sent_more (system_of p inputs slots) w step.r step.e s d lane))
      ∙ ap (λ v. owned ((got (w d) s lane ++ v) ++ sent_more (system_of p inputs slots) w step.r step.e s d lane))
      (sym (step.taken s d lane))
      ∙ filter-append (λ m. not (is_stray m)) (got (w d) s lane ++ held s d lane)
      (sent_more (system_of p inputs slots) w step.r step.e s d lane)
      ∙ ap₂ (λ a b. a ++ b) (moment.lanes s d lane hs hd) (owned-all (sent_more (system_of p inputs slots) w step.r step.e s d lane)
      (λ m i. more_clean s d lane m i))
      ∙ sym (sent_next s d lane)

  may_step : (e : Local) → IsEnabled (system_of p inputs slots) w held step.r e →
      May (flag false (w step.r)) (state_at (system_of p inputs slots) w step.r) e
  may_step Start enabled = not_begun (w step.r) enabled
  may_step (Fire t) enabled = enabled
  may_step (Receive s lane m) enabled = next_held starts p inputs sound fit swaps slots w held moment (flag false (w step.r)) step.r s
      lane m enabled.1.0 step.in_range enabled.0 enabled.1.1

  abbrev legal_of : ℕ → List Local → Type 0
  legal_of q es = Legal (start_of p (slots q) q) false (prepare p inputs (slots q) q) es

  legal_next : (q : ℕ) → q < p.ranks → legal_of q (next q)
  legal_next q h = elim (cases_eq q step.r) [
    | inr n ↦ subst (legal_of q) (sym (step.others q n)) (moment.cut.legal q h)
    | inl e ↦ subst (λ x. legal_of x (next x)) (sym e) (subst (legal_of step.r) (sym step.rank)
        (legal_longer (start_of p (slots step.r) step.r) false (prepare p inputs (slots step.r) step.r) (w step.r) step.e
        (moment.cut.legal step.r step.in_range)
        (may_step step.e step.enabled)))
  ]

  nothing_from : (e : Local) → IsEnabled (system_of p inputs slots) w held step.r e → (s : ℕ) (lane : Lane) → p.ranks ≤ s →
      got (e ∷ []) s lane ≡ []
  nothing_from Start enabled s lane h = refl
  nothing_from (Fire t) enabled s lane h = refl
  nothing_from (Receive source l m) enabled s lane h = got_other source s l lane m (λ e. let k = enabled.0 in absurd (omega arith))

  known_next : (q s : ℕ) (lane : Lane) → q < p.ranks → p.ranks ≤ s → got (next q) s lane ≡ []
  known_next q s lane h k = elim (cases_eq q step.r) [
    | inr n ↦ (ap (λ es. got es s lane) (step.others q n) ∙ moment.cut.known q s lane h k)
    | inl e ↦ (ap (λ es. got es s lane) (subst (λ x. next x ≡ w x ++ step.e ∷ []) (sym e) step.rank) ∙ got-append (w q) (step.e ∷ []) s lane
        ∙ ap₂ (λ a b. a ++ b) (moment.cut.known q s lane h k) (nothing_from step.e step.enabled s lane k))
  ]

  strays_next : (s d : ℕ) (lane : Lane) (m : Sent) → s < p.ranks → d < p.ranks → In m (later s d lane) → is_stray m ≡ true →
      IsStrayOf s d lane m
  strays_next s d lane m hs hd i e = elim (In-append_cases m (step.rest s d lane)
      (sent_more (system_of p inputs slots) w step.r step.e s d lane) (subst (λ v. In m v) (step.left s d lane) i)) [
        | inl j ↦ moment.strays s d lane m hs hd (subst (λ v. In m v) (sym (step.taken s d lane))
            (In-append_right m (taken_at s d lane) (step.rest s d lane) j)) e
        | inr j ↦ absurd (both e (more_clean s d lane m j))
      ]
    where
      both : {b : Bool} → b ≡ true → b ≡ false → ⊥
      both e i = cc

  pub next_local : IsMoment (system_of p inputs slots) next later
  next_local = record {
    cut = record {
      legal = legal_next;
      known = known_next;
      lanes = λ s d lane hs hd. (
        owned (later s d lane),
        sym
            (filter-append (λ m. not (is_stray m)) (got (next d) s lane) (later s d lane)) ∙ lanes_next s d lane hs hd,
      );
    };
    lanes = lanes_next;
    strays = strays_next;
  }

-- ---- a stray's step
lane_Request : (l : Lane) → same_lane l Request ≡ true → l ≡ Request
lane_Request Request e = refl
lane_Request Answer e = cc

module _ (p : Plan) (inputs : Inputs) (slots : ℕ → Slots) (w : Histories) (held : Lanes)
    (moment : IsMoment (system_of p inputs slots) w held) (next : Histories) (later : Lanes)
    (step : IsStrayStep (system_of p inputs slots) w held next later) where
  abbrev put_at : ℕ → ℕ → Lane → List Sent
  put_at s d lane = if is_request_lane step.s step.d s d lane then step.m ∷ [] else []

  none_owned : (b : Bool) → owned (cond b (step.m ∷ []) []) ≡ []
  none_owned true = owned-stray step.m step.stray.stray
  none_owned false = refl

  lanes_put : (s d : ℕ) (lane : Lane) → s < p.ranks → d < p.ranks → owned (got (next d) s lane ++ later s d lane) ≡ sent_by
      (system_of p inputs slots) next s d lane
  lanes_put s d lane hs hd =
      ap₂ (λ es v. owned (got es s lane ++ v)) (step.same d) (step.put s d lane)
      ∙ ap owned (sym (append_assoc (got (w d) s lane) (held s d lane) (put_at s d lane)))
      ∙ filter-append (λ m. not (is_stray m)) (got (w d) s lane ++ held s d lane) (put_at s d lane)
      ∙ ap₂ (λ a b. a ++ b) (moment.lanes s d lane hs hd) (none_owned (is_request_lane step.s step.d s d lane))
      ∙ append-nil (sent_by (system_of p inputs slots) w s d lane)
      ∙ sym (ap (λ es. sent (start_of p (slots s) s) (prepare p inputs (slots s) s) es d lane) (step.same s))

  put_one : (s d : ℕ) (lane : Lane) (m : Sent) (b : Bool) → is_request_lane step.s step.d s d lane ≡ b → In m (cond b (step.m ∷ []) []) →
      IsStrayOf s d lane m
  put_one s d lane m false e i = absurd i
  put_one s d lane m true e (inr i) = absurd i
  put_one s d lane m true e (inl f) =
      let a = and_parts _ _ e in
      let b = and_parts _ _ a.1 in
      let z = step.stray in
      record {
        stray = ap is_stray (sym f) ∙ z.stray;
        asks = lane_Request lane b.1;
        source = ap (λ (x : Sent). x.header.source) (sym f) ∙ z.source ∙ sym (eqb-true _ _ a.0);
        target = ap (λ (x : Sent). x.header.target) (sym f) ∙ z.target ∙ sym (eqb-true _ _ b.0);
        kept = subst IsKept f z.kept;
      }

  pub next_stray : IsMoment (system_of p inputs slots) next later
  next_stray = record {
    cut = record {
      legal = λ r h. subst (λ es. Legal (start_of p (slots r) r) false (prepare p inputs (slots r) r) es) (sym (step.same r))
          (moment.cut.legal r h);
      known = λ r s lane h k. ap (λ es. got es s lane) (step.same r) ∙ moment.cut.known r s lane h k;
      lanes = λ s d lane hs hd. (
        owned (later s d lane),
        sym
            (filter-append (λ m. not (is_stray m)) (got (next d) s lane) (later s d lane)) ∙ lanes_put s d lane hs hd,
      );
    };
    lanes = lanes_put;
    strays = λ s d lane m hs hd i e. elim (In-append_cases m (held s d lane) (put_at s d lane)
        (subst (λ v. In m v) (step.put s d lane) i)) [
          | inl j ↦ moment.strays s d lane m hs hd j e
          | inr j ↦ put_one s d lane m (is_request_lane step.s step.d s d lane) refl j
        ];
  }

-- ---- the laws of moments

-- the first moment: nothing was done, and the lanes are empty
pub first_moment : (p : Plan) (inputs : Inputs) (slots : ℕ → Slots) → IsMoment (system_of p inputs slots) (λ r. []) (λ s d lane. [])
first_moment p inputs slots = record {
  cut = record { legal = λ r h. tt; known = λ r s lane h k. refl; lanes = λ s d lane hs hd. ([], refl) };
  lanes = λ s d lane hs hd. refl;
  strays = λ s d lane m hs hd i e. absurd i;
}

-- no step but a stray's is enabled exactly where all is still
pub none_still : (k : System) (w : Histories) (held : Lanes) → ((r : ℕ) (e : Local) → r < k.count → IsEnabled k w held r e → ⊥) →
    IsStill k w held
none_still k w held none = record {
  started = λ r hr. more (count_by is_start (w r)) (λ e. none r Start hr e);
  empty = λ s d lane hs hd. at s d lane hs hd (held s d lane) refl;
  idle = λ r t hr. elim (cases_Bool (is_ready (state_at k w r) t)) [ inr e ↦ e | inl e ↦ absurd (none r (Fire t) hr e) ];
}
  where
    more : (n : ℕ) → (n ≡ 0 → ⊥) → 0 < n
    more zero h = absurd (h refl)
    more (suc n) h = omega arith

    at : (s d : ℕ) (lane : Lane) → s < k.count → d < k.count → (ms : List Sent) → held s d lane ≡ ms → ms ≡ []
    at s d lane hs hd [] e = refl
    at s d lane hs hd (m ∷ later) e = absurd (none d (Receive s lane m) hd (hs, (later, e)))

pub still_none : (k : System) (w : Histories) (held : Lanes) → IsStill k w held → (r : ℕ) (e : Local) → r < k.count →
    IsEnabled k w held r e → ⊥
still_none k w held h r Start hr e = let q = h.started r hr in absurd (omega (arith, q, e))
still_none k w held h r (Fire t) hr e = let q = h.idle r t hr in cc
still_none k w held h r (Receive s lane m) hr e = let q : m ∷ e.1.0 ≡ [] = sym e.1.1 ∙ h.empty s r lane e.0 hr in cc

-- a still moment is at rest
pub still_rest : (p : Plan) (inputs : Inputs) (slots : ℕ → Slots) (w : Histories) (held : Lanes) →
    IsMoment (system_of p inputs slots) w held → IsStill (system_of p inputs slots) w held → IsAtRest (system_of p inputs slots) w
still_rest p inputs slots w held m h = record {
  started = h.started;
  empty = λ s d lane hs hd. ap owned (sym (append-nil (got (w d) s lane)))
      ∙ ap (λ v. owned (got (w d) s lane ++ v)) (sym (h.empty s d lane hs hd)) ∙ m.lanes s d lane hs hd;
  idle = h.idle;
}

-- and one at rest is still where no stray waits
pub rest_still : (p : Plan) (inputs : Inputs) (slots : ℕ → Slots) (w : Histories) (held : Lanes) →
    IsMoment (system_of p inputs slots) w held → HasNoneHeld (system_of p inputs slots) held → IsAtRest (system_of p inputs slots) w →
    IsStill (system_of p inputs slots) w held
rest_still p inputs slots w held m none h = record {
  started = h.started;
  empty = λ s d lane hs hd.
      sym (owned-all (held s d lane) (λ x i. none s d lane x hs hd i))
      ∙ nothing-behind (got_by w d s lane) (owned (held s d lane)) []
      (append-nil (got_by w d s lane ++ owned (held s d lane))
      ∙ sym (filter-append (λ x. not (is_stray x)) (got (w d) s lane) (held s d lane)) ∙ m.lanes s d lane hs hd
      ∙ sym (h.empty s d lane hs hd));
  idle = h.idle;
}

-- an operation that sends goes to a rank
pub target_known : (p : Plan) (inputs : Inputs) → SoundPlan p (length inputs) → (slots : ℕ → Slots) (w : Histories) (r t : ℕ) (m : Sent) →
    (fired (state_at (system_of p inputs slots) w r) t).message ≡ Some m → m.header.target < p.ranks
target_known p inputs sound slots w r t m e =
    let k = fired_link p (slots r) r t (state_at (system_of p inputs slots) w r) m
    (state_of (start_of p (slots r) r) (w r) (prepare p inputs (slots r) r) (prepared_of p inputs sound (slots r) r)) e in
    let q = out_links-In p r k.l k.out in
    subst (λ n. n < p.ranks) (sym (ap (λ (h : Header). h.target) k.header))
    (sound.ranks_known (link p k.l).target (sound.links_sound k.l q.0).cells)
  where
    state_of : (go : Beginning) (es : List Local) (v : State) → IsOf p (slots r) r v → IsOf p (slots r) r (state go v es)
    state_of go [] v h = h
    state_of go (x ∷ es) v h = state_of go es (after go v x) (after_of p (slots r) r go v x h)

-- under a window of at least one message, a moment at which no step is possible is one at which none is enabled
pub stuck_still : (p : Plan) (inputs : Inputs) → SoundPlan p (length inputs) → (slots : ℕ → Slots) (w : Histories) (held : Lanes)
    (window : ℕ) → 0 < window → IsStuck (system_of p inputs slots) w held window → IsStill (system_of p inputs slots) w held
stuck_still p inputs sound slots w held window some stuck = record {
  started = λ r hr. more (count_by is_start (w r)) (λ e. stuck r Start hr e tt);
  empty = λ s d lane hs hd. empty s d lane hs hd;
  idle = λ r t hr. elim (cases_Bool (is_ready (state_at (system_of p inputs slots) w r) t)) [
    | inr e ↦ e
    | inl e ↦ absurd (stuck r (Fire t) hr e (goes r t hr (fired (state_at (system_of p inputs slots) w r) t).message refl))
  ];
}
  where
    more : (n : ℕ) → (n ≡ 0 → ⊥) → 0 < n
    more zero h = absurd (h refl)
    more (suc n) h = omega arith

    answers : (s d : ℕ) → s < p.ranks → d < p.ranks → held s d Answer ≡ []
    answers s d hs hd = at (held s d Answer) refl
      where
        at : (ms : List Sent) → held s d Answer ≡ ms → ms ≡ []
        at [] e = refl
        at (m ∷ later) e = absurd (stuck d (Receive s Answer m) hd (hs, (later, e)) tt)

    requests : (s d : ℕ) → s < p.ranks → d < p.ranks → held s d Request ≡ []
    requests s d hs hd = at (held s d Request) refl
      where
        at : (ms : List Sent) → held s d Request ≡ ms → ms ≡ []
        at [] e = refl
        at (m ∷ later) e = absurd (stuck d (Receive s Request m) hd (hs, (later, e)) (let z = ap length (answers d s hd hs) in
            omega (arith, z, some)))

    goes : (r t : ℕ) → r < p.ranks → (o : Option Sent) → (fired (state_at (system_of p inputs slots) w r) t).message ≡ o →
        HasWindow held window r o
    goes r t hr None e = tt
    goes r t hr (Some m) e = let z = ap length (requests r m.header.target hr (target_known p inputs sound slots w r t m e)) in
        omega (arith, z, some)

    empty : (s d : ℕ) (lane : Lane) → s < p.ranks → d < p.ranks → held s d lane ≡ []
    empty s d Request hs hd = requests s d hs hd
    empty s d Answer hs hd = answers s d hs hd
