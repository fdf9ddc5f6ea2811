-- What was sent in a cut may be received.
use Rattle.cuts.specs.histories.System.{Histories, sent_by}
use Rattle.cuts.specs.histories.Plans.{start_of, system_of}
use Rattle.cuts.specs.histories.Cut.{IsCut, is_stray}
use Rattle.cuts.specs.view.Slots.{Slots}
use Rattle.std.proofs.Common.{ℕ, suc, true, false, ◌≡◌, ◌<◌, refl, length, ap, ◌∙◌, sym, subst, inl, inr, filter, arith, eqb-true}
use Rattle.std.proofs.lemmas.Bool.{and_parts}
use Rattle.ni_model.specs.Conditions.{IsKept}
use Rattle.op_laws.specs.Combining.{CombineStarts, CombineSwaps}
use Rattle.cuts.proofs.histories.Origin.{Reply, legal_got, made_from}
use Rattle.cuts.specs.histories.History.{is_for, is_lane, made}
use Rattle.plan_core.proofs.Links.{out_links-In}
use Rattle.plan_core.proofs.Lists.{In-filter_cases, In-map_cases}
use Rattle.plan_core.proofs.Values.{length-due, length-value}
use Rattle.plan_core.specs.Members.{In}
use Rattle.plan_core.specs.Plan.{Plan, cell, link}
use Rattle.plan_core.specs.Sound.{AreInputsOf, SoundPlan}
use Rattle.plan_core.specs.Values.{Inputs}
use Rattle.cuts.proofs.histories.Conform.{stray_request}
use Rattle.cuts.proofs.rest.Longer.{answer_source, kept_link}
use Rattle.cuts.proofs.histories.Simulate.{link-no_stray}
use Rattle.cuts.proofs.histories.Traffic.{as_message, goes_to, outs_are}
use Rattle.cuts.proofs.rest.Due.{sent_ack}
use Rattle.cuts.proofs.histories.FromCut.{moves_at, machine_cut, prepared_of, sent_requests}
use Rattle.cuts.specs.view.Calls.{prepare}
use Rattle.cuts.proofs.machine.Central.{all_good, ours_nothing, outs_good}
use Rattle.cuts.specs.machine.Machine.{outs}
use Rattle.cuts.specs.machine.Seen.{Came, nothing_seen}
use Rattle.cuts.specs.view.TriggeredOps.{link_header}
use Rattle.ptl_types.specs.Messages.{Sent}
use Rattle.ptl_types.specs.declared.headers.Header.{Header}
use Rattle.ptl_types.specs.declared.headers.Lane.{Lane}
use Rattle.ptl_types.specs.declared.headers.Lane.TheVariants.{Answer, Request}

module _ (starts : CombineStarts) (p : Plan) (inputs : Inputs) (sound : SoundPlan p (length inputs)) (fit : AreInputsOf p inputs)
    (swaps : CombineSwaps) (slots : ℕ → Slots) (w : Histories) (cut : IsCut (system_of p inputs slots) w) where
  -- what was sent may be received: all but whether an answer is awaited
  pub record Fair (s d : ℕ) (lane : Lane) (m : Sent) : Type 0 where
    pub source : m.header.source ≡ s
    pub target : m.header.target ≡ d
    pub kind : is_lane lane m.header.kind ≡ true
    pub kept : IsKept m
    pub clean : is_stray m ≡ false

  pub out_bytes : (s : ℕ) (a : Came) → s < p.ranks → In a (outs p inputs nothing_seen (moves_at p w s)) →
      length a.bytes ≡ (link p a.link).length
  out_bytes s a h i =
      let c = machine_cut starts p inputs sound fit slots w cut in
      let o = outs_are p inputs s (moves_at p w s) nothing_seen (c.moves s h) a i in
      let k = out_links-In p s a.link o.out in
      let l = sound.links_sound a.link k.0 in
      let up = l.rising in
      let top = l.cells in
      let e = outs_good swaps p inputs sound fit s (suc (link p a.link).source) h (moves_at p w s) nothing_seen (c.moves s h)
      (ours_nothing p s) (c.proper s h)
      (λ d j. all_good swaps p inputs sound fit (moves_at p w) c s d h) a i (omega arith) in
      ap length e ∙ length-due p inputs a.link l (length-value p inputs sound fit (link p a.link).source (omega arith))

  pub fair : (s d : ℕ) (lane : Lane) (m : Sent) → s < p.ranks → d < p.ranks → In m (sent_by (system_of p inputs slots) w s d lane) →
      Fair s d lane m
  fair s d Answer m hs hd i =
      let f = In-filter_cases (is_for d Answer) m (made (start_of p (slots s) s) (prepare p inputs (slots s) s) (w s)) i in
      let q = and_parts _ _ f.1 in
      let a = sent_ack starts p inputs sound fit slots w cut d s m hs i in
      record {
        source = elim (made_from p (slots s) s (start_of p (slots s) s) (w s) (prepare p inputs (slots s) s) m
            (prepared_of p inputs sound (slots s) s) f.0) [
              | inl x ↦ ap (λ (y : Header). y.source) x.header ∙ (out_links-In p s x.l x.out).1
              | inr x ↦ reply x
            ];
        target = eqb-true _ _ q.0;
        kind = q.1;
        kept = subst IsKept a.is refl;
        clean = stray_request m q.1;
      }
    where
      reply : Reply (w s) m → m.header.source ≡ s
      reply x =
          let a = x.answers in
          answer_source a.ok a.length a.bytes x.to.header m a.is
          ∙ (legal_got p (slots s) s (start_of p (slots s) s) (w s) false (prepare p inputs (slots s) s)
          (prepared_of p inputs sound (slots s) s) (cut.legal s hs) x.source x.lane x.to x.came).target
  fair s d Request m hs hd i =
      let o = subst (λ v. In m v) (sent_requests starts p inputs sound fit slots w cut s d hs) i in
      let y = In-map_cases (as_message p (slots s)) m (filter (goes_to p d) (outs p inputs nothing_seen (moves_at p w s))) o in
      let z = In-filter_cases (goes_to p d) y.0 (outs p inputs nothing_seen (moves_at p w s)) y.1 in
      let f = In-filter_cases (is_for d Request) m (made (start_of p (slots s) s) (prepare p inputs (slots s) s) (w s)) i in
      let q = and_parts _ _ f.1 in
      let c = machine_cut starts p inputs sound fit slots w cut in
      let out = outs_are p inputs s (moves_at p w s) nothing_seen (c.moves s hs) y.0 z.0 in
      let k = out_links-In p s y.0.link out.out in
      subst (Fair s d Request) y.2 (record {
        source = k.1;
        target = eqb-true _ _ z.1;
        kind = subst (λ (x : Sent). is_lane Request x.header.kind ≡ true) (sym y.2) q.1;
        kept = out_bytes s y.0 hs z.0 ∙ kept_link (cell p (link p y.0.link).target).op (link_header p (slots s) y.0.link) refl;
        clean = link-no_stray p inputs sound (slots s) d y.0.link (record { known = k.0; sends = out.sends; here = eqb-true _ _ z.1 })
            (as_message p (slots s) y.0) refl;
      })
