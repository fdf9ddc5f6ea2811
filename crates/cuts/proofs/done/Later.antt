-- A rank that is done stays done; and where nothing is left at it, strays alone come.
use Rattle.std.proofs.Common.{ℕ, Bool, true, false, cond, not, ◌+◌, ◌≡◌, ◌<◌, ◌≤◌, List, [], ◌∷◌, ◌++◌, refl, length, length-append, ap}
use Rattle.std.proofs.Common.{ap₂, ◌∙◌, sym, subst, inl, inr, arith, count_by}
use Rattle.std.proofs.lemmas.Bool.{cases_Bool, cases_lt}
use Rattle.std.proofs.lemmas.List.Elements.{filter-append}
use Rattle.ni_model.specs.Counts.{successes}
use Rattle.ni_model.specs.State.{Delivers, State}
use Rattle.op_laws.specs.Combining.{CombineStarts}
use Rattle.plan_core.proofs.Links.{In-own}
use Rattle.plan_core.specs.Members.{In}
use Rattle.plan_core.specs.Plan.{Plan}
use Rattle.plan_core.specs.Sound.{AreInputsOf, SoundPlan}
use Rattle.plan_core.specs.Values.{Inputs}
use Rattle.cuts.proofs.histories.Fronts.{OnlyReceipts, flag-started, got-append, legal-back, nil-right, nothing-behind, only_receipts}
use Rattle.cuts.proofs.histories.Fronts.{state-append}
use Rattle.cuts.proofs.histories.FromCut.{moves_at, prepared_of, simulation}
use Rattle.cuts.proofs.histories.Origin.{got_first, got_later}
use Rattle.cuts.proofs.histories.RunFacts.{Ended, run_ended}
use Rattle.cuts.proofs.histories.RunTraffic.{has_start}
use Rattle.cuts.proofs.histories.Runs.{nothing_raised, run_moves}
use Rattle.cuts.proofs.histories.Simulate.{moves_of, stray-parts}
use Rattle.cuts.proofs.histories.Stepping.{annex-quiet}
use Rattle.cuts.proofs.histories.Traffic.{In-owned, own_received}
use Rattle.cuts.specs.histories.Cut.{IsCut, got_by, is_stray, owned}
use Rattle.cuts.specs.histories.History.{Legal, Local, got, state}
use Rattle.cuts.specs.histories.History.Local.{Fire, Receive, Start}
use Rattle.cuts.specs.histories.Plans.{start_of, system_of}
use Rattle.cuts.specs.histories.System.{Histories, state_at}
use Rattle.cuts.specs.machine.Machine.{all_seen, note, seen}
use Rattle.cuts.specs.machine.Machine.Move.{Strayed}
use Rattle.cuts.specs.machine.Seen.{Came, Seen, nothing_seen, tells}
use Rattle.cuts.proofs.start.Prepared.{prepared}
use Rattle.cuts.specs.start.Waiting.{annex_of}
use Rattle.cuts.proofs.view.StepArrive.{step_stray}
use Rattle.cuts.specs.view.Calls.{prepare}
use Rattle.cuts.specs.view.Slots.{Slots}
use Rattle.cuts.specs.view.View.{view}
use Rattle.ptl_types.specs.Messages.{Sent}
use Rattle.ptl_types.specs.declared.headers.Lane.{Lane}
use Rattle.ptl_types.specs.declared.headers.Lane.TheVariants.{Answer}
use Rattle.cuts.proofs.done.Counted.{counted, enough, reached}
use Rattle.cuts.proofs.done.Nothing.{nothing_comes}
use Rattle.cuts.proofs.done.Rising.{go_unraised, received-append, seen-append, started_counts, told_rise}
use Rattle.cuts.specs.done.Done.{AreStrays, GoesOn, IsDone, IsLeftAlone}

-- ---- the interface, as strays come
abbrev StraysCome : Plan → Inputs → (ℕ → Slots) → ℕ → List Came → Seen → List Local → Type 0
StraysCome p inputs k r early g es =
    (n : ℕ) × (state (start_of p (k r) r) (view (annex_of p (k r) r early) p inputs (k r) r g) es ≡ view
    (annex_of p (k r) r early) p inputs (k r) r (record g { strays = n }))

strays_come : (p : Plan) (inputs : Inputs) → SoundPlan p (length inputs)
    → (k : ℕ → Slots) (r : ℕ) (early : List Came) (es : List Local) (g : Seen) → AreStrays es → StraysCome p inputs k r early g es
strays_come p inputs sound k r early [] g a = (g.strays, refl)
strays_come p inputs sound k r early (Start ∷ es) g a = let q = a.0 in cc
strays_come p inputs sound k r early (Fire t ∷ es) g a = let q = a.0 in cc
strays_come p inputs sound k r early (Receive s lane m ∷ es) g a =
    let q = stray-parts m a.0 in
    let f = step_stray (annex_of p (k r) r early) (annex-quiet p inputs sound (k r) r k early) p inputs sound (k r) r g m q.0 q.1 q.2 in
    let rest = strays_come p inputs sound k r early es (note p g Strayed) a.1 in
    (rest.0, ap (λ (x : Delivers). state (start_of p (k r) r) x.state es) f ∙ rest.1)

module _ (starts : CombineStarts) (p : Plan) (inputs : Inputs) (sound : SoundPlan p (length inputs)) (fit : AreInputsOf p inputs)
    (slots : ℕ → Slots) (w : Histories) (cut : IsCut (system_of p inputs slots) w) (r : ℕ) (h : r < p.ranks)
    (done : IsDone p inputs slots w r) where
  -- ---- it has started, since its go cell has reached its needs
  begun : has_start (w r) ≡ true
  begun = elim (cases_Bool (has_start (w r))) [
    | inl e ↦ e
    | inr e ↦ absurd (
        let q = sound.go_needs r h in
        let inside = sound.all_go in
        let n = reached starts p inputs sound fit slots w cut r h done r (In-own p r r (omega (arith, h, inside)) q.2) in
        let z = go_unraised p inputs sound r h (slots r) (start_of p (slots r) r) (w r) [] nothing_seen false
        (prepare p inputs (slots r) r) (prepared_of p inputs sound (slots r) r) (cut.legal r h) e (nothing_raised p r r) in
        omega (arith, n, q.0, z))
  ]

  -- its interface is that of a rank that has started
  ended : Ended p inputs slots r (state_at (system_of p inputs slots) w r) (all_seen p (moves_at p w) r)
  ended =
      let e = run_ended p inputs slots r (w r) [] nothing_seen begun in
      record {
        early =
            e.early;
        is = ap (λ x. state (start_of p (slots r) r) x (w r)) (prepared p inputs (slots r) r slots (length inputs) sound)
            ∙ (simulation starts p inputs sound fit slots w cut r h).ends ∙ e.is;
      }

module _ (starts : CombineStarts) (p : Plan) (inputs : Inputs) (sound : SoundPlan p (length inputs)) (fit : AreInputsOf p inputs)
    (slots : ℕ → Slots) (w : Histories) (cut : IsCut (system_of p inputs slots) w) (r : ℕ) (h : r < p.ranks)
    (done : IsDone p inputs slots w r) (v : Histories) (then : IsCut (system_of p inputs slots) v)
    (on : GoesOn (system_of p inputs slots) w v) where
  -- ---- it stays done
  goes_on : all_seen p (moves_at p v) r ≡ seen p (all_seen p (moves_at p w) r) (moves_of p r (on r h).0)
  goes_on =
      ap (λ es. seen p nothing_seen (run_moves p r [] es)) (sym (on r h).1)
      ∙ seen-append p r (w r) (on r h).0 [] nothing_seen (begun starts p inputs sound fit slots w cut r h done)

  no_fewer : cond p.remote (length (own_received Answer (w r))) 0 ≤ cond p.remote (length (own_received Answer (v r))) 0
  no_fewer = at p.remote
    where
      at : (b : Bool) → cond b (length (own_received Answer (w r))) 0 ≤ cond b (length (own_received Answer (v r))) 0
      at true =
          let a = ap (λ es. length (own_received Answer es)) (sym (on r h).1) ∙ ap length (received-append Answer (w r) (on r h).0) in
          let b = length-append (own_received Answer (w r)) (own_received Answer (on r h).0) in
          omega (arith, a, b)
      at false = omega arith

  pub stays_done : IsDone p inputs slots v r
  stays_done = record {
    count = successes (count_by tells (all_seen p (moves_at p v) r).fired + cond p.remote (length (own_received Answer (v r))) 0);
    counter = counted starts p inputs sound fit slots v then r h;
    enough = (let a = enough starts p inputs sound fit slots w cut r h done in
        let b = told_rise p (moves_of p r (on r h).0) (all_seen p (moves_at p w) r) in
        let c = ap (λ (g : Seen). count_by tells g.fired) goes_on in
        let d = no_fewer in
        omega (arith, a, b, c, d));
  }

  -- ---- only strays come
  more_are : (s : ℕ) (lane : Lane) (m : Sent) → In m (got (on r h).0 s lane) → is_stray m ≡ true
  more_are s lane m i = elim (cases_lt s p.ranks) [
    | inl k ↦ elim (cases_Bool (is_stray m)) [
      | inl e ↦ e
      | inr e ↦ absurd (subst (λ ms. In m ms) (none_more k) (In-owned m (got (on r h).0 s lane) i e))
    ]
    | inr k ↦ absurd
        (subst (λ ms. In m ms) (nil-right (got (w r) s lane) (got (on r h).0 s lane) (sym split ∙ then.known r s lane h k)) i)
  ]
    where
      split : got (v r) s lane ≡ got (w r) s lane ++ got (on r h).0 s lane
      split = ap (λ es. got es s lane) (sym (on r h).1) ∙ got-append (w r) (on r h).0 s lane

      none_more : s < p.ranks → owned (got (on r h).0 s lane) ≡ []
      none_more k =
          let x = then.lanes s r lane k h in
          nothing-behind (got_by w r s lane) (owned (got (on r h).0 s lane)) x.0
          (ap (λ ms. ms ++ x.0) (sym (ap owned split ∙ filter-append (λ m. not (is_stray m)) (got (w r) s lane) (got (on r h).0 s lane)))
          ∙ x.1 ∙ nothing_comes starts p inputs sound fit slots w cut r h done v then on s lane k)

  each_stray : (es : List Local) → OnlyReceipts es → ((s : ℕ) (lane : Lane) (m : Sent) → In m (got es s lane) → is_stray m ≡ true)
      → AreStrays es
  each_stray [] o f = tt
  each_stray (Start ∷ es) o f = absurd o
  each_stray (Fire t ∷ es) o f = absurd o
  each_stray (Receive s lane m ∷ es) o f =
      (f s lane m (got_first s lane m es), each_stray es o (λ u l x i. f u l x (got_later (Receive s lane m) es u l x i)))

  pub left_alone : (state_at (system_of p inputs slots) w r).pending.waiting ≡ [] → IsLeftAlone (system_of p inputs slots) w r v
  left_alone none = record { more = (on r h).0; goes_on = (on r h).1; strays = strays; state = same }
    where
      legal : Legal (start_of p (slots r) r) true (state_at (system_of p inputs slots) w r) (on r h).0
      legal =
          subst (λ b. Legal (start_of p (slots r) r) b (state_at (system_of p inputs slots) w r) (on r h).0)
          (flag-started false (w r) (started_counts (w r) (begun starts p inputs sound fit slots w cut r h done)))
          (legal-back (start_of p (slots r) r) false (prepare p inputs (slots r) r) (w r) (on r h).0
          (subst (λ es. Legal (start_of p (slots r) r) false (prepare p inputs (slots r) r) es) (sym (on r h).1) (then.legal r h)))

      strays : AreStrays (on r h).0
      strays =
          each_stray (on r h).0
          (only_receipts (start_of p (slots r) r) (state_at (system_of p inputs slots) w r) (on r h).0 none legal) more_are

      same : state_at (system_of p inputs slots) v r ≡ record
          (state_at (system_of p inputs slots) w r) { drops = (state_at (system_of p inputs slots) v r).drops }
      same =
          let e = ended starts p inputs sound fit slots w cut r h done in
          let n = strays_come p inputs sound slots r e.early (on r h).0 (all_seen p (moves_at p w) r) strays in
          let now : state_at (system_of p inputs slots) v r ≡ view (annex_of p (slots r) r e.early) p inputs (slots r) r
          (record (all_seen p (moves_at p w) r) { strays = n.0 }) =
          ap (state (start_of p (slots r) r) (prepare p inputs (slots r) r)) (sym (on r h).1)
          ∙ state-append (start_of p (slots r) r) (prepare p inputs (slots r) r) (w r) (on r h).0
          ∙ ap (λ x. state (start_of p (slots r) r) x (on r h).0) e.is ∙ n.1 in
          now ∙ ap₂ (λ (x : State) d. record x { drops = d }) (sym e.is) (ap (λ (x : State). x.drops) (sym now))
