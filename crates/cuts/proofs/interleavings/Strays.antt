-- No stray is received that wasn't put in a lane: those received and those that wait are as many as were put.
use Rattle.std.proofs.Common.{ℕ, zero, suc, Bool, true, false, cond, ◌&&◌, ◌==◌, ◌≡◌, ◌<◌, ◌≤◌, ◌+◌, List, [], ◌∷◌, ◌++◌, refl, length, ap}
use Rattle.std.proofs.Common.{ap₂, ◌∙◌, sym, subst, inl, inr, arith, if◌then◌else◌, filter, count_by, sum_by, eq-eqb}
use Rattle.std.proofs.lemmas.Bool.{cases_eq, ne_eqb}
use Rattle.ptl_types.specs.Messages.{Sent}
use Rattle.ptl_types.specs.declared.headers.Lane.{Lane}
use Rattle.ptl_types.specs.declared.headers.Lane.TheVariants.{Answer, Request}
use Rattle.op_laws.specs.Combining.{CombineStarts, CombineSwaps}
use Rattle.plan_core.proofs.Lists.{In-append_right, In-filter_cases, count-append, count-cons}
use Rattle.plan_core.specs.Members.{In}
use Rattle.plan_core.specs.Plan.{Plan, from_to}
use Rattle.plan_core.specs.Sound.{AreInputsOf, SoundPlan}
use Rattle.plan_core.specs.Values.{Inputs}
use Rattle.cuts.specs.view.Calls.{prepare}
use Rattle.cuts.specs.view.Slots.{Slots}
use Rattle.cuts.proofs.histories.Clean.{made-clean}
use Rattle.cuts.proofs.histories.Fronts.{made-append}
use Rattle.cuts.specs.histories.Cut.{is_received_stray, is_stray}
use Rattle.cuts.specs.histories.History.{Local, and_then, got, is_for, made, made_by}
use Rattle.cuts.specs.histories.History.Local.{Fire, Receive, Start}
use Rattle.cuts.specs.histories.Moment.{IsEnabled, IsLocalStep, IsMoment, IsStrayStep, Lanes, is_request_lane, sent_more}
use Rattle.cuts.specs.histories.Plans.{start_of, system_of}
use Rattle.cuts.specs.histories.System.{Histories, state_at}
use Rattle.cuts.proofs.rest.Longer.{got_one, got_other}
use Rattle.cuts.specs.interleavings.Interleaving.{IsReachedIn, strays_received}
use Rattle.cuts.specs.interleavings.Interleaving.IsReachedIn.{Begun, Stepped, Strayed}
use Rattle.cuts.proofs.interleavings.Counted.{sum_alike, sum_both, sum_but_one}
use Rattle.cuts.proofs.interleavings.Interleavings.{reached_moment}

-- the strays that wait for rank d, sent by the first n ranks
abbrev waiting : Lanes → ℕ → ℕ → ℕ
waiting held n d = sum_by (λ s. count_by is_stray (held s d Request)) (from_to 0 n)

-- those that it received and those that wait for it
abbrev strays_for : Histories → Lanes → ℕ → ℕ → ℕ
strays_for w held n d = count_by is_received_stray (w d) + waiting held n d

-- 1 where it is so
abbrev one_if : Bool → ℕ
one_if b = if b then 1 else 0

none : (n i : ℕ) → sum_by (λ (r : ℕ). 0) (from_to i n) ≡ 0
none zero i = refl
none (suc n) i = none n (suc i)

clean_none : (ms : List Sent) → ((m : Sent) → In m ms → is_stray m ≡ false) → count_by is_stray ms ≡ 0
clean_none [] h = refl
clean_none (m ∷ ms) h =
    let a = count-cons is_stray m ms ∙ ap (λ b. cond {A = ℕ} b 1 0 + count_by is_stray ms) (h m (inl refl)) in
    let b = clean_none ms (λ x i. h x (inr i)) in
    omega (arith, a, b)

-- the strays among what a step takes from request lanes
taken_by : (w : Histories) (held : Lanes) (p : Plan) (inputs : Inputs) (slots : ℕ → Slots) → IsMoment (system_of p inputs slots) w held
    → (r : ℕ) → r < p.ranks
    → (e : Local) → IsEnabled (system_of p inputs slots) w held r e
    → sum_by (λ s. count_by is_stray (got (e ∷ []) s Request)) (from_to 0 p.ranks) ≡ one_if (is_received_stray e)
taken_by w held p inputs slots m r h Start on = none p.ranks 0
taken_by w held p inputs slots m r h (Fire t) on = none p.ranks 0
taken_by w held p inputs slots m r h (Receive q Answer x) on =
    sum_alike (λ s. 0) (λ s. count_by is_stray (got (Receive q Answer x ∷ []) s Request)) 0 p.ranks (λ s low high. not_asked (q == s))
    ∙ none p.ranks 0
    ∙ sym (ap one_if (clean (is_stray x) refl))
  where
    not_asked : (b : Bool) → count_by is_stray (cond (b && false) (x ∷ []) []) ≡ 0
    not_asked true = refl
    not_asked false = refl

    clean : (b : Bool) → is_stray x ≡ b → is_stray x ≡ false
    clean false e = e
    clean true e = let k = (m.strays q r Answer x on.0 h (subst (λ v. In x v) (sym on.1.1) (inl refl)) e).asks in absurd (apart k)
      where
        apart : Answer ≡ Request → ⊥
        apart k = cc
taken_by w held p inputs slots m r h (Receive q Request x) on =
    let one = ap (count_by is_stray) (got_one q Request x) in
    let all = sum_but_one (λ s. 0) (λ s. count_by is_stray (got (Receive q Request x ∷ []) s Request)) q 0
    (one_if (is_stray x)) 0 p.ranks (omega arith) (let k = on.0 in omega (arith, k))
    (λ s apart low high. ap (count_by is_stray) (got_other q s Request Request x (λ e. apart (sym e)))) (omega (arith, one)) in
    let nothing = none p.ranks 0 in
    omega (arith, all, nothing)

module _ (starts : CombineStarts) (p : Plan) (inputs : Inputs) (sound : SoundPlan p (length inputs)) (fit : AreInputsOf p inputs)
    (swaps : CombineSwaps) (slots : ℕ → Slots) where
  -- no stray is among what a step makes
  made_clean : (w : Histories) (r s d : ℕ) (e : Local) (lane : Lane) (m : Sent)
      → In m (sent_more (system_of p inputs slots) w r e s d lane) → is_stray m ≡ false
  made_clean w r s d e lane m i = at (s == r) i
    where
      at : (b : Bool) → In m (if b then filter (is_for d lane) (and_then (made_by (state_at (system_of p inputs slots) w r) e) []) else [])
          → is_stray m ≡ false
      at false i = absurd i
      at true i =
          made-clean p inputs sound (slots r) r (w r ++ e ∷ []) m
          (subst (λ v. In m v) (sym (made-append (start_of p (slots r) r) (prepare p inputs (slots r) r) (w r) (e ∷ [])))
          (In-append_right m (made (start_of p (slots r) r) (prepare p inputs (slots r) r) (w r))
          (and_then (made_by (state_at (system_of p inputs slots) w r) e) [])
          (In-filter_cases (is_for d lane) m (and_then (made_by (state_at (system_of p inputs slots) w r) e) []) i).0))

  -- a local step leaves as many for each rank
  as_many : (w : Histories) (held : Lanes) → IsMoment (system_of p inputs slots) w held → (next : Histories) (later : Lanes)
      → IsLocalStep (system_of p inputs slots) w held next later
      → (d : ℕ) → strays_for next later p.ranks d ≡ strays_for w held p.ranks d
  as_many w held m next later step d = elim (cases_eq d step.r) [ inl e ↦ here e | inr n ↦ elsewhere n ]
    where
      left_over : (s : ℕ) → count_by is_stray (later s d Request) ≡ count_by is_stray (step.rest s d Request)
      left_over s =
          let a = ap (count_by is_stray) (step.left s d Request)
          ∙ count-append is_stray (step.rest s d Request) (sent_more (system_of p inputs slots) w step.r step.e s d Request) in
          let b = clean_none (sent_more (system_of p inputs slots) w step.r step.e s d Request)
          (λ x i. made_clean w step.r s d step.e Request x i) in
          omega (arith, a, b)

      rest_waits : waiting later p.ranks d ≡ waiting step.rest p.ranks d
      rest_waits = sum_alike (λ s. count_by is_stray (step.rest s d Request)) (λ s. count_by is_stray (later s d Request)) 0 p.ranks
          (λ s low high. left_over s)

      elsewhere : (d ≡ step.r → ⊥) → strays_for next later p.ranks d ≡ strays_for w held p.ranks d
      elsewhere n =
          ap₂ (λ a b. a + b) (ap (count_by is_received_stray) (step.others d n))
          (rest_waits ∙ sym (sum_alike (λ s. count_by is_stray (step.rest s d Request))
          (λ s. count_by is_stray (held s d Request)) 0 p.ranks
          (λ s low high. ap (count_by is_stray) (step.taken s d Request
          ∙ ap (λ b. (if b then got (step.e ∷ []) s Request else []) ++ step.rest s d Request) (ne_eqb d step.r n)))))

      here : d ≡ step.r → strays_for next later p.ranks d ≡ strays_for w held p.ranks d
      here e =
          let longer : count_by is_received_stray (next d) ≡ count_by is_received_stray (w d) +
          (0 + one_if (is_received_stray step.e)) =
          ap (count_by is_received_stray) (subst (λ q. next q ≡ w q ++ step.e ∷ []) (sym e) step.rank)
          ∙ count-append is_received_stray (w d) (step.e ∷ []) in
          let taken = taken_by w held p inputs slots m step.r step.in_range step.e step.enabled in
          let both : waiting held p.ranks d ≡ sum_by (λ s. count_by is_stray (got (step.e ∷ []) s Request) + count_by is_stray
          (step.rest s d Request)) (from_to 0 p.ranks) =
          sum_alike (λ s. count_by is_stray (got (step.e ∷ []) s Request) + count_by is_stray (step.rest s d Request))
          (λ s. count_by is_stray (held s d Request)) 0 p.ranks
          (λ s low high. ap (count_by is_stray) (step.taken s d Request
          ∙ ap (λ b. (if b then got (step.e ∷ []) s Request else [])
          ++ step.rest s d Request) (eq-eqb d step.r e)) ∙ count-append is_stray (got (step.e ∷ []) s Request) (step.rest s d Request)) in
          let parts = sum_both (λ s. count_by is_stray (got (step.e ∷ []) s Request)) (λ s. count_by is_stray (step.rest s d Request))
          (from_to 0 p.ranks) in
          let r = rest_waits in
          omega (arith, longer, taken, both, parts, r)

  -- a stray's step leaves one more for its target
  one_more_put : (w : Histories) (held : Lanes) (next : Histories) (later : Lanes)
      → (step : IsStrayStep (system_of p inputs slots) w held next later)
      → sum_by (strays_for next later p.ranks) (from_to 0 p.ranks) ≡ sum_by (strays_for w held p.ranks) (from_to 0 p.ranks) + 1
  one_more_put w held next later step =
      let all = sum_but_one (strays_for w held p.ranks) (strays_for next later p.ranks) step.d 0 1 0 p.ranks (omega arith)
      (let h = step.to in omega (arith, h))
      (λ d apart low high. ap₂ (λ a b. a + b) (ap (count_by is_received_stray) (step.same d))
      (sum_alike (λ s. count_by is_stray (held s d Request)) (λ s. count_by is_stray (later s d Request)) 0 p.ranks
      (λ s l h. other s d apart)))
      target in
      omega (arith, all)
    where
      put_at : ℕ → ℕ → Bool
      put_at s d = is_request_lane step.s step.d s d Request

      counted : (s d : ℕ) → count_by is_stray (later s d Request) ≡ count_by is_stray (held s d Request) + one_if (put_at s d)
      counted s d =
          ap (count_by is_stray) (step.put s d Request) ∙ count-append is_stray (held s d Request) (if put_at s d then step.m ∷ [] else [])
          ∙ ap (λ n. count_by is_stray (held s d Request) + n) (at (put_at s d))
        where
          at : (b : Bool) → count_by is_stray (if b then step.m ∷ [] else []) ≡ one_if b
          at true = ap (λ b. 0 + cond {A = ℕ} b 1 0) step.stray.stray
          at false = refl

      other : (s d : ℕ) → (d ≡ step.d → ⊥) → count_by is_stray (later s d Request) ≡ count_by is_stray (held s d Request)
      other s d n =
          let a = counted s d in
          let b : one_if (put_at s d) ≡ 0 = at (s == step.s) (d == step.d) (ne_eqb d step.d n) in
          omega (arith, a, b)
        where
          at : (a b : Bool) → b ≡ false → one_if (a && (b && true)) ≡ 0
          at true false e = refl
          at false false e = refl
          at a true e = cc

      target : strays_for next later p.ranks step.d + 0 ≡ strays_for w held p.ranks step.d + 1
      target =
          let same = ap (count_by is_received_stray) (step.same step.d) in
          let here = counted step.s step.d in
          let put : one_if (put_at step.s step.d) ≡ 1 = ap₂ (λ a b. one_if (a && (b && true)))
          (eq-eqb step.s step.s refl) (eq-eqb step.d step.d refl) in
          let more = sum_but_one (λ s. count_by is_stray (held s step.d Request))
          (λ s. count_by is_stray (later s step.d Request)) step.s 0 1 0 p.ranks (omega arith) (let h = step.from in omega (arith, h))
          (λ s apart low high. beside s apart) (omega (arith, here, put)) in
          omega (arith, same, more)
        where
          beside : (s : ℕ) → (s ≡ step.s → ⊥) → count_by is_stray (later s step.d Request) ≡ count_by is_stray (held s step.d Request)
          beside s n =
              let a = counted s step.d in
              let b : one_if (put_at s step.d) ≡ 0 = ap (λ c. one_if (c && ((step.d == step.d) && true)))
              (ne_eqb s step.s n) in
              omega (arith, a, b)

  all_put : (steps strays : ℕ) (w : Histories) (held : Lanes) → IsReachedIn (system_of p inputs slots) steps strays w held
      → sum_by (strays_for w held p.ranks) (from_to 0 p.ranks) ≡ strays
  all_put zero zero w held Begun = sum_alike (λ d. 0) (strays_for (λ r. []) (λ s d lane. []) p.ranks) 0 p.ranks
      (λ d low high. ap (λ n. 0 + n) (none p.ranks 0)) ∙ none p.ranks 0
  all_put (suc steps) strays next later (Stepped {w = w} {held = held} x step) =
      sum_alike (strays_for w held p.ranks) (strays_for next later p.ranks) 0 p.ranks
      (λ d low high. as_many w held (reached_moment starts p inputs sound fit swaps slots steps strays w held x) next later step d)
      ∙ all_put steps strays w held x
  all_put steps (suc strays) next later (Strayed {w = w} {held = held} x step) =
      let a = all_put steps strays w held x in
      let b = one_more_put w held next later step in
      omega (arith, a, b)

  pub received_were_put : (steps strays : ℕ) (w : Histories) (held : Lanes) → IsReachedIn (system_of p inputs slots) steps strays w held
      → strays_received w p.ranks ≤ strays
  received_were_put steps strays w held x =
      let a = all_put steps strays w held x in
      let b = sum_both (λ r. count_by is_received_stray (w r)) (λ r. waiting held p.ranks r) (from_to 0 p.ranks) in
      omega (arith, a, b)
