-- One wave of probes.
use Rattle.cuts.specs.histories.System.{Histories, sent_by, state_at, System}
use Rattle.cuts.specs.histories.Plans.{start_of, system_of}
use Rattle.cuts.specs.histories.Cut.{IsAtRest, IsCut, IsPrefixOf, got_by, is_stray}
use Rattle.cuts.specs.view.Slots.{Slots}
use Rattle.cuts.specs.histories.Wave.{HasNoStray}
use Rattle.std.proofs.Common.{ℕ, true, false, ◌≡◌, ◌<◌, List, [], ◌++◌, length, ap, ◌∙◌, sym, subst, inl, inr, filter, append-nil}
use Rattle.std.proofs.Common.{append_assoc, ◌≤◌, ◌⊎◌, count_by, arith}
use Rattle.std.proofs.lemmas.Bool.{cases_lt}
use Rattle.std.proofs.lemmas.List.Elements.{filter-append}
use Rattle.ni_model.specs.State.{State}
use Rattle.op_laws.specs.Combining.{CombineStarts, CombineSwaps}
use Rattle.plan_core.proofs.Lists.{In-append_left}
use Rattle.plan_core.specs.Members.{In}
use Rattle.plan_core.specs.Plan.{Plan}
use Rattle.plan_core.specs.Sound.{AreInputsOf, SoundPlan}
use Rattle.plan_core.specs.Values.{Inputs}
use Rattle.cuts.proofs.histories.Fronts.{OnlyReceipts, flag-started, got-append, legal-back, legal-front, made-append, nil-left, nil-right}
use Rattle.cuts.proofs.histories.Fronts.{no-answers, no-requests, nothing-behind, nothing-got, only_receipts, owned-all, same-front}
use Rattle.cuts.specs.histories.History.{Beginning, Legal, Local, got, is_for, made, sent, is_start}
use Rattle.cuts.proofs.rest.FromRest.{completes}
use Rattle.cuts.specs.view.Calls.{prepare}
use Rattle.ptl_types.specs.Messages.{Sent}
use Rattle.ptl_types.specs.declared.headers.Lane.{Lane}
use Rattle.ptl_types.specs.declared.headers.Lane.TheVariants.{Answer, Request}
use Rattle.ni_model.specs.Ready.{is_ready}

-- a wave that looks at every lane
pub record IsWholeWave (k : System) (v w : Histories) : Type 0 where
  pub front : (r : ℕ) → r < k.count → IsPrefixOf (v r) (w r)
  pub started : (r : ℕ) → r < k.count → 0 < count_by is_start (v r)
  pub idle : (r t : ℕ) → r < k.count → is_ready (state_at k v r) t ≡ false
  pub balanced : (s d : ℕ) (lane : Lane) → s < k.count → d < k.count → length (got (v d) s lane) ≡ length (sent_by k v s d lane)

-- what stands after the fronts
module _ (k : System) (v w : Histories) (front : (r : ℕ) → r < k.count → IsPrefixOf (v r) (w r)) where
  behind_by : (r : ℕ) → ((r < k.count) ⊎ (k.count ≤ r)) → List Local
  behind_by r (inl h) = (front r h).0
  behind_by r (inr h) = []

  pub behind : ℕ → List Local
  behind r = behind_by r (cases_lt r k.count)

  pub behind_is : (r : ℕ) → r < k.count → v r ++ behind r ≡ w r
  unfolding behind behind_by
  behind_is r h = at (cases_lt r k.count)
    where
      at : (o : (r < k.count) ⊎ (k.count ≤ r)) → v r ++ behind_by r o ≡ w r
      at (inl l) = (front r l).1
      at (inr l) = absurd (omega arith)

  pub sent_split : (s d : ℕ) (lane : Lane) → s < k.count → sent_by k w s d lane ≡ sent_by k v s d lane ++ sent (k.go s) (state_at k v s)
      (behind s) d lane
  sent_split s d lane h =
      ap (λ es. sent (k.go s) (k.first s) es d lane) (sym (behind_is s h))
      ∙ ap (filter (is_for d lane)) (made-append (k.go s) (k.first s) (v s) (behind s))
      ∙ filter-append (is_for d lane) (made (k.go s) (k.first s) (v s)) (made (k.go s) (state_at k v s) (behind s))

  pub got_split : (s d : ℕ) (lane : Lane) → d < k.count → got (w d) s lane ≡ got (v d) s lane ++ got (behind d) s lane
  got_split s d lane h = ap (λ es. got es s lane) (sym (behind_is d h)) ∙ got-append (v d) (behind d) s lane

module _ (starts : CombineStarts) (p : Plan) (inputs : Inputs) (sound : SoundPlan p (length inputs)) (fit : AreInputsOf p inputs)
    (swaps : CombineSwaps) (slots : ℕ → Slots) (v w : Histories)
    (cut : IsCut (system_of p inputs slots) w) (clean : HasNoStray (system_of p inputs slots) w)
    (wave : IsWholeWave (system_of p inputs slots) v w) where
  abbrev later_steps : ℕ → List Local
  later_steps r = behind (system_of p inputs slots) v w wave.front r

  abbrev go : ℕ → Beginning
  go r = start_of p (slots r) r

  abbrev begin : ℕ → State
  begin r = prepare p inputs (slots r) r

  legal_all : (r : ℕ) → r < p.ranks → Legal (go r) false (begin r) (v r ++ later_steps r)
  legal_all r h = subst (λ es. Legal (go r) false (begin r) es) (sym (behind_is (system_of p inputs slots) v w wave.front r h))
      (cut.legal r h)

  sent_split' : (s d : ℕ) (lane : Lane) → s < p.ranks → sent_by (system_of p inputs slots) w s d lane ≡ sent_by (system_of p inputs slots)
      v s d lane ++ sent (go s) (state_at (system_of p inputs slots) v s) (later_steps s) d lane
  sent_split' s d lane h = sent_split (system_of p inputs slots) v w wave.front s d lane h

  got_split' : (s d : ℕ) (lane : Lane) → d < p.ranks → got (w d) s lane ≡ got (v d) s lane ++ got (later_steps d) s lane
  got_split' s d lane h = got_split (system_of p inputs slots) v w wave.front s d lane h

  clean_front : (r s : ℕ) (lane : Lane) (m : Sent) → r < p.ranks → s < p.ranks → In m (got (v r) s lane) → is_stray m ≡ false
  clean_front r s lane m hr hs i = clean r s lane m hr hs (subst (λ ms. In m ms) (sym (got_split' s r lane hr))
      (In-append_left m (got (v r) s lane) (got (later_steps r) s lane) i))

  -- what was received, then what is between, is what was sent
  lane_is : (s d : ℕ) (lane : Lane) → s < p.ranks → d < p.ranks → (rest : List Sent) ×
      ((got (v d) s lane ++ got (later_steps d) s lane) ++ rest ≡ sent_by (system_of p inputs slots) v s d lane ++ sent (go s)
      (state_at (system_of p inputs slots) v s) (later_steps s) d lane)
  lane_is s d lane hs hd =
      let x = cut.lanes s d lane hs hd in (
        x.0,
        ap (λ ms. ms ++ x.0) (sym (owned-all (got (w d) s lane) (λ m i. clean d s lane m hd hs i) ∙ got_split' s d lane hd)) ∙ x.1
            ∙ sent_split' s d lane hs,
      )

  equal : (s d : ℕ) (lane : Lane) → s < p.ranks → d < p.ranks → got (v d) s lane ≡ sent_by (system_of p inputs slots) v s d lane
  equal s d lane hs hd =
      let x = lane_is s d lane hs hd in
      same-front (got (v d) s lane) (got (later_steps d) s lane ++ x.0) (sent_by (system_of p inputs slots) v s d lane)
      (sent (go s) (state_at (system_of p inputs slots) v s) (later_steps s) d lane)
      (sym (append_assoc (got (v d) s lane) (got (later_steps d) s lane) x.0) ∙ x.1) (wave.balanced s d lane hs hd)

  equal_owned : (s d : ℕ) (lane : Lane) → s < p.ranks → d < p.ranks → got_by v d s lane ≡ sent_by (system_of p inputs slots) v s d lane
  equal_owned s d lane hs hd = owned-all (got (v d) s lane) (λ m i. clean_front d s lane m hd hs i) ∙ equal s d lane hs hd

  pub fronts_cut : IsCut (system_of p inputs slots) v
  fronts_cut = record {
    legal = λ r h. legal-front (go r) false (begin r) (v r) (later_steps r) (legal_all r h);
    known = λ r s lane h k. nil-left (got (v r) s lane) (got (later_steps r) s lane) (sym (got_split' s r lane h) ∙ cut.known r s lane h k);
    lanes = λ s d lane hs hd. ([], append-nil (got_by v d s lane) ∙ equal_owned s d lane hs hd);
  }

  pub fronts_rest : IsAtRest (system_of p inputs slots) v
  fronts_rest = record { started = wave.started; empty = λ s d lane hs hd. equal_owned s d lane hs hd; idle = wave.idle }

  legal_behind : (r : ℕ) → r < p.ranks → Legal (go r) true (state_at (system_of p inputs slots) v r) (later_steps r)
  legal_behind r h = subst (λ b. Legal (go r) b (state_at (system_of p inputs slots) v r) (later_steps r))
      (flag-started false (v r) (wave.started r h)) (legal-back (go r) false (begin r) (v r) (later_steps r) (legal_all r h))

  only : (r : ℕ) → r < p.ranks → OnlyReceipts (later_steps r)
  only r h = only_receipts (go r) (state_at (system_of p inputs slots) v r) (later_steps r)
      (completes starts p inputs sound fit swaps slots v fronts_cut fronts_rest r h).none_pending (legal_behind r h)

  -- nothing further is received on a lane on which nothing further is sent
  no_more : (s d : ℕ) (lane : Lane) → d < p.ranks → (s < p.ranks → sent (go s) (state_at (system_of p inputs slots) v s) (later_steps s) d
      lane ≡ []) → got (later_steps d) s lane ≡ []
  no_more s d lane hd none = elim (cases_lt s p.ranks) [
    | inr k ↦ nil-right (got (v d) s lane) (got (later_steps d) s lane) (sym (got_split' s d lane hd) ∙ cut.known d s lane hd k)
    | inl k ↦ (let x = lane_is s d lane k hd in
        nothing-behind (got (v d) s lane) (got (later_steps d) s lane) x.0
        (x.1 ∙ ap (λ ms. sent_by (system_of p inputs slots) v s d lane ++ ms) (none k)
        ∙ append-nil (sent_by (system_of p inputs slots) v s d lane) ∙ sym (equal s d lane k hd)))
  ]

  no_more_requests : (s d : ℕ) → d < p.ranks → got (later_steps d) s Request ≡ []
  no_more_requests s d hd = no_more s d Request hd (λ k. no-requests (go s) (state_at (system_of p inputs slots) v s) (later_steps s) d
      (only s k))

  no_more_answers : (s d : ℕ) → d < p.ranks → got (later_steps d) s Answer ≡ []
  no_more_answers s d hd = no_more s d Answer hd (λ k. ap (filter (is_for d Answer))
      (no-answers (go s) (state_at (system_of p inputs slots) v s) (later_steps s) true (only s k) (legal_behind s k)
      (λ u. no_more_requests u s k)))

  pub fronts_whole : (r : ℕ) → r < p.ranks → v r ≡ w r
  fronts_whole r h = sym (append-nil (v r)) ∙ ap (λ es. v r ++ es) (sym (nothing-got (later_steps r) (only r h) none))
      ∙ behind_is (system_of p inputs slots) v w wave.front r h
    where
      none : (s : ℕ) (lane : Lane) → got (later_steps r) s lane ≡ []
      none s Request = no_more_requests s r h
      none s Answer = no_more_answers s r h
