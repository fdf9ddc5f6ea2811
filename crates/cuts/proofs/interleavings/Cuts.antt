-- Two cuts of a sound plan's ranks whose listed histories agree are one.
use Rattle.std.proofs.Common.{ℕ, Bool, true, false, ◌≡◌, ◌<◌, ◌≤◌, ◌⊎◌, List, [], ◌∷◌, refl, length, map, filter, ap, ap₂, ◌∙◌, sym}
use Rattle.std.proofs.Common.{subst, inl, inr, Option, Some, None, if◌then◌else◌}
use Rattle.std.proofs.lemmas.Bool.{cases_lt}
use Rattle.ptl_types.specs.Messages.{Sent}
use Rattle.ptl_types.specs.declared.headers.Lane.{Lane}
use Rattle.ptl_types.specs.declared.headers.Lane.TheVariants.{Answer, Request}
use Rattle.ptl_types.specs.declared.steps.LocalStep.{LocalStep}
use Rattle.op_laws.specs.Combining.{CombineStarts, CombineSwaps}
use Rattle.plan_core.specs.Members.{In}
use Rattle.plan_core.specs.Plan.{Plan}
use Rattle.plan_core.specs.Sound.{AreInputsOf, SoundPlan}
use Rattle.plan_core.specs.Values.{Inputs}
use Rattle.cuts.specs.view.Calls.{prepare}
use Rattle.cuts.specs.view.Slots.{Slots}
use Rattle.cuts.specs.histories.Cut.{IsCut, is_stray, owned}
use Rattle.cuts.specs.histories.History.{Local, got}
use Rattle.cuts.specs.histories.History.Local.{Fire, Receive, Start}
use Rattle.cuts.specs.histories.Plans.{start_of, system_of}
use Rattle.cuts.specs.histories.System.{Histories, sent_by}
use Rattle.cuts.specs.histories.Wave.{HasNoStray}
use Rattle.cuts.proofs.histories.FromCut.{answers_loc, answers_rem}
use Rattle.cuts.proofs.histories.Fronts.{same-front}
use Rattle.cuts.proofs.histories.Origin.{got_first, got_later}
use Rattle.cuts.proofs.histories.Traffic.{ack, as_message, goes_to}
use Rattle.cuts.specs.orders.Taking.{listed}
use Rattle.cuts.specs.interleavings.Open.{stray_in}
use Rattle.cuts.proofs.interleavings.Listed.{one_history, same_sizes}
use Rattle.cuts.proofs.interleavings.Sends.{along, brought, own-from, requests_listed}

module _ (starts : CombineStarts) (p : Plan) (inputs : Inputs) (sound : SoundPlan p (length inputs)) (fit : AreInputsOf p inputs)
    (swaps : CombineSwaps) (slots : ℕ → Slots) (w v : Histories) (a : IsCut (system_of p inputs slots) w)
    (b : IsCut (system_of p inputs slots) v) (same : (r : ℕ) → r < p.ranks → map listed (w r) ≡ map listed (v r))
    (strays : (r : ℕ) → r < p.ranks → map stray_in (w r) ≡ map stray_in (v r)) where
  -- what was received of a lane, strays left out, is as much of what was sent on it
  same_got : (r s : ℕ) (lane : Lane) → r < p.ranks → s < p.ranks
      → sent_by (system_of p inputs slots) w s r lane ≡ sent_by (system_of p inputs slots) v s r lane
      → owned (got (w r) s lane) ≡ owned (got (v r) s lane)
  same_got r s lane hr hs sent =
      let x = a.lanes s r lane hs hr in
      let y = b.lanes s r lane hs hr in
      same-front (owned (got (w r) s lane)) x.0 (owned (got (v r) s lane)) y.0 (x.1 ∙ sent
      ∙ sym y.1) (same_sizes s lane (w r) (v r) (same r hr) (strays r hr))

  same_requests : (s r : ℕ) → s < p.ranks
      → sent_by (system_of p inputs slots) w s r Request ≡ sent_by (system_of p inputs slots) v s r Request
  same_requests s r h =
      requests_listed starts p inputs sound fit swaps slots w a s r h
      ∙ ap (λ xs. map (as_message p (slots s)) (filter (goes_to p r) (map (brought p inputs) (along p s xs)))) (same s h)
      ∙ sym (requests_listed starts p inputs sound fit swaps slots v b s r h)

  -- a rank answers what came to it from there
  answers_come : (u : Histories) → IsCut (system_of p inputs slots) u → p.remote ≡ true → (s r : ℕ) → s < p.ranks
      → sent_by (system_of p inputs slots) u s r Answer ≡ map ack (owned (got (u s) r Request))
  answers_come u cut rem s r h =
      answers_rem starts p inputs sound fit slots u cut rem s r h
      ∙ ap (map ack) (own-from r (start_of p (slots s) s) false (prepare p inputs (slots s) s) (u s) (cut.legal s h))

  same_answers : (s r : ℕ) → s < p.ranks → r < p.ranks
      → sent_by (system_of p inputs slots) w s r Answer ≡ sent_by (system_of p inputs slots) v s r Answer
  same_answers s r hs hr = at p.remote refl
    where
      at : (c : Bool) → p.remote ≡ c → sent_by (system_of p inputs slots) w s r Answer ≡ sent_by (system_of p inputs slots) v s r Answer
      at true rem =
          answers_come w a rem s r hs
          ∙ ap (map ack) (same_got s r Request hs hr (same_requests r s hr))
          ∙ sym (answers_come v b rem s r hs)
      at false rem = answers_loc starts p inputs sound fit slots w a rem s r hs
          ∙ sym (answers_loc starts p inputs sound fit slots v b rem s r hs)

  same_lanes : (r s : ℕ) (lane : Lane) → r < p.ranks → owned (got (w r) s lane) ≡ owned (got (v r) s lane)
  same_lanes r s lane hr = elim (cases_lt s p.ranks) [
    | inr l ↦ ap owned (a.known r s lane hr l ∙ sym (b.known r s lane hr l))
    | inl hs ↦ same_got r s lane hr hs (sends lane hs)
  ]
    where
      sends : (lane : Lane) → s < p.ranks → sent_by (system_of p inputs slots) w s r lane ≡ sent_by (system_of p inputs slots) v s r lane
      sends Request hs = same_requests s r hs
      sends Answer hs = same_answers s r hs hr

  pub one_choice : (r : ℕ) → r < p.ranks → w r ≡ v r
  one_choice r h = one_history (w r) (v r) (same r h) (strays r h) (λ s lane. same_lanes r s lane h)

-- ---- where no stray was received, none is told
abbrev nothing_told : LocalStep → Option Sent
nothing_told x = None

none_told : (es : List Local) → ((s : ℕ) (lane : Lane) (m : Sent) → In m (got es s lane) → is_stray m ≡ false)
    → map stray_in es ≡ map nothing_told (map listed es)
none_told [] clean = refl
none_told (Start ∷ es) clean = ap (λ v. None ∷ v) (none_told es (λ s lane m i. clean s lane m (got_later Start es s lane m i)))
none_told (Fire t ∷ es) clean = ap (λ v. None ∷ v) (none_told es (λ s lane m i. clean s lane m (got_later (Fire t) es s lane m i)))
none_told (Receive q l x ∷ es) clean =
    ap₂ (λ b v. (if b then Some x else None) ∷ v) (clean q l x (got_first q l x es))
    (none_told es (λ s lane m i. clean s lane m (got_later (Receive q l x) es s lane m i)))

pub one_choice_clean : CombineStarts → (p : Plan) (inputs : Inputs) → SoundPlan p (length inputs) → AreInputsOf p inputs → CombineSwaps
    → (slots : ℕ → Slots) (w v : Histories)
    → IsCut (system_of p inputs slots) w → IsCut (system_of p inputs slots) v → HasNoStray (system_of p inputs slots) w
    → HasNoStray (system_of p inputs slots) v
    → ((r : ℕ) → r < p.ranks → map listed (w r) ≡ map listed (v r)) → (r : ℕ) → r < p.ranks → w r ≡ v r
one_choice_clean starts p inputs sound fit swaps slots w v a b clean other same r h =
    one_choice starts p inputs sound fit swaps slots w v a b same (λ q k. none w a clean q k ∙ ap (map nothing_told) (same q k)
    ∙ sym (none v b other q k)) r h
  where
    none : (u : Histories) → IsCut (system_of p inputs slots) u → HasNoStray (system_of p inputs slots) u → (q : ℕ) → q < p.ranks
        → map stray_in (u q) ≡ map nothing_told (map listed (u q))
    none u cut clean q k = none_told (u q) (λ s lane m i. from s lane m i (cases_lt s p.ranks))
      where
        from : (s : ℕ) (lane : Lane) (m : Sent) → In m (got (u q) s lane) → (s < p.ranks) ⊎ (p.ranks ≤ s) → is_stray m ≡ false
        from s lane m i (inl l) = clean q s lane m k l i
        from s lane m i (inr l) = absurd (subst (λ xs. In m xs) (cut.known q s lane k l) i)
