-- Rest gives completion.
use Rattle.cuts.specs.histories.System.{Histories, sent_by, state_at}
use Rattle.cuts.specs.histories.Plans.{IsComplete, start_of, system_of}
use Rattle.cuts.specs.histories.Cut.{IsAtRest, IsCut, is_received_stray, is_stray, owned}
use Rattle.cuts.specs.view.Slots.{Slots, done_ct}
use Rattle.std.proofs.Common.{ℕ, Bool, true, false, cond, not, ◌+◌, ◌≡◌, ◌<◌, ◌≤◌, ◌==◌, List, [], ◌∷◌, refl, length, ap, ◌∙◌, sym, subst}
use Rattle.std.proofs.Common.{inl, inr, map, filter, Some, if◌then◌else◌, eq-eqb, eqb-true, arith, count_by, min, add-zero, flat_map, ◌++◌}
use Rattle.std.proofs.lemmas.Bool.{cases_Bool, cases_lt, not-true, not_from_false, not_from_true}
use Rattle.std.proofs.lemmas.List.Sums.{length-filter}
use Rattle.ni_model.specs.Counts.{successes}
use Rattle.ni_model.specs.Ready.{is_ready}
use Rattle.ni_model.specs.State.{State}
use Rattle.ni_model.specs.Tables.{lookup}
use Rattle.op_laws.proofs.Bytes.{part_all}
use Rattle.op_laws.specs.Combining.{CombineStarts, CombineSwaps}
use Rattle.plan_core.proofs.Flat.{part_flat}
use Rattle.plan_core.proofs.Links.{Distinct-out_links, In-out_links, In-own, out_links-In, own-In}
use Rattle.plan_core.proofs.Lists.{Distinct-filter, In-filter, In-filter_cases, In-map, In-map_cases, count_same, length-Within}
use Rattle.plan_core.proofs.Lists.{length-map'}
use Rattle.plan_core.proofs.Growth.{filter-none}
use Rattle.plan_core.specs.Members.{Distinct, In, Within}
use Rattle.plan_core.specs.Places.{cell_length, start_in}
use Rattle.plan_core.specs.Plan.{Plan, cell, is_bump, link, out_links, own}
use Rattle.plan_core.specs.Sound.{AreInputsOf, SoundPlan}
use Rattle.plan_core.specs.Values.{Inputs, initial, value}
use Rattle.cuts.proofs.histories.Conform.{stray_request}
use Rattle.cuts.proofs.histories.Told.{answers_in, answers_in-got, count-out-le, done_min, done_seen, heard, heard_is, length-own-le}
use Rattle.cuts.proofs.histories.Told.{ready_from, tells_works}
use Rattle.cuts.proofs.histories.Traffic.{In-owned, ack, all_distinct, as_message, came_from, goes_to, got-own_received, number_in}
use Rattle.cuts.proofs.histories.Traffic.{outs_are, own_received, own_received-got, owned-In, to_came}
use Rattle.cuts.specs.histories.History.{got, is_for, made, state}
use Rattle.cuts.proofs.histories.RunFacts.{Ended, has_start-of, run_ended, run_heard, run_ok, run_started, run_strays}
use Rattle.cuts.proofs.histories.FromCut.{answer_is, came_all, moves_at, machine_cut, received_once, request_is, sender, sent_requests}
use Rattle.cuts.proofs.histories.FromCut.{simulation}
use Rattle.cuts.proofs.start.Prepared.{prepared}
use Rattle.cuts.proofs.histories.RunTraffic.{has_start, run_answers_local, run_answers_remote}
use Rattle.cuts.specs.start.Waiting.{annex_of}
use Rattle.cuts.proofs.machine.Central.{ours_nothing, ours_seen, rest_fires, rest_values, sent_along}
use Rattle.cuts.proofs.machine.Reached.{Distinct-map_filter, Ours, fired-In}
use Rattle.cuts.proofs.machine.RankOps.{Distinct-rank_ops, In-works_along}
use Rattle.cuts.specs.machine.Machine.{IsMachineCut, IsMachineRest, all_seen, link_of, outs, source_rank}
use Rattle.cuts.specs.machine.Seen.{Came, Seen, content, nothing_seen, tells, was_fired}
use Rattle.plan_core.specs.calls.RankOps.{RankOp, rank_ops, done_threshold, number_of}
use Rattle.plan_core.specs.calls.RankOps.RankOp.{ForLink}
use Rattle.cuts.proofs.view.Tables.{same_handle-refl}
use Rattle.cuts.specs.view.View.{counter_of, view}
use Rattle.cuts.specs.view.TriggeredOps.{operation}
use Rattle.ptl_types.specs.Elements.{part}
use Rattle.ptl_types.specs.Handles.{top}
use Rattle.ptl_types.specs.Kinds.{is_answer}
use Rattle.ptl_types.specs.Messages.{Sent}
use Rattle.ptl_types.specs.declared.headers.Header.{Header}
use Rattle.ptl_types.specs.declared.headers.Lane.TheVariants.{Answer, Request}

module _ (starts : CombineStarts) (p : Plan) (inputs : Inputs) (sound : SoundPlan p (length inputs)) (fit : AreInputsOf p inputs)
    (swaps : CombineSwaps) (slots : ℕ → Slots) (w : Histories) (cut : IsCut (system_of p inputs slots) w)
    (rest : IsAtRest (system_of p inputs slots) w) where
  begun : (r : ℕ) → r < p.ranks → has_start (w r) ≡ true
  begun r h = has_start-of (w r) (rest.started r h)

  ended : (r : ℕ) → r < p.ranks → Ended p inputs slots r (state_at (system_of p inputs slots) w r) (all_seen p (moves_at p w) r)
  ended r h =
      let e = run_ended p inputs slots r (w r) [] nothing_seen (begun r h) in
      record {
        early = e.early;
        is = ap (λ v. state (start_of p (slots r) r) v (w r))
            (prepared p inputs (slots r) r slots (length inputs) sound)
            ∙ (simulation starts p inputs sound fit slots w cut r h).ends ∙ e.is;
      }

  end_is : (r : ℕ) (h : r < p.ranks) → state_at (system_of p inputs slots) w r ≡ view (annex_of p (slots r) r (ended r h).early) p inputs
      (slots r) r (all_seen p (moves_at p w) r)
  end_is r h = (ended r h).is

  came_started : (r : ℕ) → r < p.ranks → (all_seen p (moves_at p w) r).came ≡ map to_came (own_received Request (w r))
  came_started r h = came_all starts p inputs sound fit slots w cut r
      ∙ ap (λ b. if b then map to_came (own_received Request (w r)) else []) (begun r h)

  answers_rem : p.remote ≡ true → (s d : ℕ) → s < p.ranks → sent_by (system_of p inputs slots) w s d Answer ≡ map ack
      (filter (came_from d) (own_received Request (w s)))
  answers_rem rem s d h =
      ap (λ v. filter (is_for d Answer) (made (start_of p (slots s) s) v (w s))) (prepared p inputs (slots s) s slots (length inputs) sound)
      ∙ ap (filter (is_for d Answer)) (simulation starts p inputs sound fit slots w cut s h).makes_them
      ∙ run_answers_remote p inputs (slots s) s d rem (w s) [] nothing_seen

  answers_loc : p.remote ≡ false → (s d : ℕ) → s < p.ranks → sent_by (system_of p inputs slots) w s d Answer ≡ []
  answers_loc rem s d h =
      ap (λ v. filter (is_for d Answer) (made (start_of p (slots s) s) v (w s))) (prepared p inputs (slots s) s slots (length inputs) sound)
      ∙ ap (filter (is_for d Answer)) (simulation starts p inputs sound fit slots w cut s h).makes_them
      ∙ run_answers_local p inputs (slots s) s d rem (w s) [] nothing_seen

  machine : IsMachineCut p inputs (moves_at p w)
  machine = machine_cut starts p inputs sound fit slots w cut

  pub machine_rest : IsMachineRest p inputs (moves_at p w)
  machine_rest = record {
    started = λ r h. run_started p r (w r) [] nothing_seen (begun r h);
    taken = λ r a h i. taken r a h i;
    idle = λ r v h i n. elim (cases_Bool (was_fired (all_seen p (moves_at p w) r).fired v)) [
      | inl e ↦ e
      | inr e ↦ absurd (both (ready_from (annex_of p (slots r) r (ended r h).early) p inputs sound (slots r) r
          (all_seen p (moves_at p w) r) v i e n)
          (subst (λ s. is_ready s (number_of p r v) ≡ false) (end_is r h) (rest.idle r (number_of p r v) h)))
    ];
  }
    where
      both : {b : Bool} → b ≡ true → b ≡ false → ⊥
      both e i = cc

      taken : (r : ℕ) (a : Came) → r < p.ranks → In a (outs p inputs nothing_seen (moves_at p w r)) →
          In a (all_seen p (moves_at p w) (cell p (link p a.link).target).rank).came
      taken r a h i =
          let o = outs_are p inputs r (moves_at p w r) nothing_seen (simulation starts p inputs sound fit slots w cut r h).moves a i in
          let k = out_links-In p r a.link o.out in
          let s = sound.links_sound a.link k.0 in
          let d = (cell p (link p a.link).target).rank in
          let in_range = sound.ranks_known (link p a.link).target s.cells in
          let m : In (as_message p (slots r) a) (sent_by (system_of p inputs slots) w r (cell p (link p a.link).target).rank Request) =
          subst (λ v. In (as_message p (slots r) a) v) (sym (sent_requests starts p inputs sound fit slots w cut r
          (cell p (link p a.link).target).rank h))
          (In-map (as_message p (slots r)) a (filter (goes_to p (cell p (link p a.link).target).rank)
          (outs p inputs nothing_seen (moves_at p w r)))
          (In-filter (goes_to p (cell p (link p a.link).target).rank) a (outs p inputs nothing_seen (moves_at p w r)) i
          (eq-eqb _ _ refl))) in
          let g = owned-In (as_message p (slots r) a) (got (w (cell p (link p a.link).target).rank) r Request)
          (subst (λ v. In (as_message p (slots r) a) v) (sym (rest.empty r (cell p (link p a.link).target).rank Request h in_range))
          m) in
          let q = got-own_received Request (w (cell p (link p a.link).target).rank) r (as_message p (slots r) a) g.0 g.1 in
          subst (λ v. In a v) (sym (came_started (cell p (link p a.link).target).rank in_range))
          (In-map to_came (as_message p (slots r) a) (own_received Request (w (cell p (link p a.link).target).rank)) q)

  all_fired : (r : ℕ) → r < p.ranks → (v : RankOp) → In v (rank_ops p r) → was_fired (all_seen p (moves_at p w) r).fired v ≡ true
  all_fired r h v i = rest_fires p inputs sound (moves_at p w) machine_rest r h v i

  mine : (r : ℕ) → r < p.ranks → Ours p r (all_seen p (moves_at p w) r).fired
  mine r h = ours_seen p r (moves_at p w r) nothing_seen (ours_nothing p r) (machine.moves r h)

  -- an answer that was received is the acknowledgement of a link's message
  answer_of : (r s : ℕ) (m : Sent) → r < p.ranks → In m (got (w r) s Answer) → (p.remote ≡ true) ×
      ((q : Sent) × In q (own_received Request (w s)) × ((q.header.source == r) ≡ true) × (ack q ≡ m))
  answer_of r s m h i =
      let k = sender starts p inputs sound fit slots w cut r s Answer m h i in
      let a = answer_is starts p inputs sound fit slots w cut r s m h i in
      let clean = stray_request m (ap is_answer a.kind) in
      let o : In m (sent_by (system_of p inputs slots) w s r Answer) =
      subst (λ v. In m v) (rest.empty s r Answer k h) (In-owned m (got (w r) s Answer) i clean) in
      at p.remote refl k o
    where
      at : (b : Bool) → p.remote ≡ b → s < p.ranks → In m (sent_by (system_of p inputs slots) w s r Answer) → (p.remote ≡ true) ×
          ((q : Sent) × In q (own_received Request (w s)) × ((q.header.source == r) ≡ true) × (ack q ≡ m))
      at true e k j =
          let y = In-map_cases ack m (filter (came_from r) (own_received Request (w s))) (subst (λ v. In m v) (answers_rem e s r k) j) in
          let z = In-filter_cases (came_from r) y.0 (own_received Request (w s)) y.1 in
          (e, (y.0, z.0, z.1, y.2))
      at false e k j = absurd (subst (λ v. In m v) (answers_loc e s r k) j)

  answer_clean : (r : ℕ) → r < p.ranks → (m : Sent) → In m (answers_in (w r)) → is_stray m ≡ false
  answer_clean r h m i =
      let k = answers_in-got (w r) m i in
      let a = answer_is starts p inputs sound fit slots w cut r k.0 m h k.1 in
      stray_request m (ap is_answer a.kind)

  answer_ok : (r : ℕ) → r < p.ranks → (m : Sent) → In m (answers_in (w r)) → m.header.ok ≡ true
  answer_ok r h m i =
      let k = answers_in-got (w r) m i in
      let a = answer_of r k.0 m h k.1 in
      sym (ap (λ (x : Sent). x.header.ok) a.1.3)

  -- what is known of a link whose message was received
  link_of_own : (d : ℕ) (q : Sent) → d < p.ranks → In q (own_received Request (w d)) → (number_in q < length p.links) ×
      (is_bump (link p (number_in q)).kind ≡ false) × ((cell p (link p (number_in q)).target).rank ≡ d) ×
      (source_rank p (number_in q) ≡ q.header.source)
  link_of_own d q h i =
      let g = own_received-got Request (w d) q i in
      let k = (request_is starts p inputs sound fit slots w cut d g.from q h g.got_it g.clean).0 in
      let n : k.l ≡ number_in q = sym (ap (λ (x : Header). x.hdr_data) k.header) in
      subst (λ l. (l < length p.links) × (is_bump (link p l).kind ≡ false) × ((cell p (link p l).target).rank ≡ d) ×
      (source_rank p l ≡ q.header.source)) n
      (k.here.known, k.here.sends, k.here.here, sym (ap (λ (x : Header). x.source) k.header))

  sends_of : ℕ → List ℕ
  sends_of r = filter (λ l. not (is_bump (link p l).kind)) (out_links p r)

  acked : ℕ → List ℕ
  acked r = map number_in (own_received Answer (w r))

  acked_once : p.remote ≡ true → (r : ℕ) → r < p.ranks → Distinct (acked r)
  unfolding acked
  acked_once rem r h = all_distinct Answer (λ l. (cell p (link p l).target).rank) (w r)
      (λ s m i e. let a = answer_of r s m h i in let k = sender starts p inputs sound fit slots w cut r s Answer m h i in
      subst (λ l. (cell p (link p l).target).rank ≡ s) (ap number_in a.1.3) (link_of_own s a.1.0 k a.1.1).2)
      (λ s. elim (cases_lt s p.ranks) [
        | inl k ↦ subst (λ v. Distinct (map number_in v)) (sym (rest.empty s r Answer k h ∙ answers_rem rem s r k))
            (subst Distinct (sym (numbers (filter (came_from r) (own_received Request (w s)))))
            (Distinct-map_filter number_in (came_from r) (own_received Request (w s))
            (received_once starts p inputs sound fit slots w cut s k)))
        | inr k ↦ subst (λ v. Distinct (map number_in (owned v))) (sym (cut.known r s Answer h k)) tt
      ])
    where
      numbers : (xs : List Sent) → map number_in (map ack xs) ≡ map number_in xs
      numbers [] = refl
      numbers (x ∷ xs) = ap (λ v. number_in x ∷ v) (numbers xs)

  acked_in : (r : ℕ) → r < p.ranks → Within (acked r) (sends_of r)
  unfolding acked sends_of
  acked_in r h l i =
      let y = In-map_cases number_in l (own_received Answer (w r)) i in
      let g = own_received-got Answer (w r) y.0 y.1 in
      let a = answer_of r g.from y.0 h g.got_it in
      let k = sender starts p inputs sound fit slots w cut r g.from Answer y.0 h g.got_it in
      let f = link_of_own g.from a.1.0 k a.1.1 in
      let n : number_in a.1.0 ≡ l = ap number_in a.1.3 ∙ y.2 in
      subst (λ v. In v (filter (λ l. not (is_bump (link p l).kind)) (out_links p r))) n
      (In-filter (λ l. not (is_bump (link p l).kind)) (number_in a.1.0) (out_links p r)
      (In-out_links p r (number_in a.1.0) f.0 (f.3 ∙ eqb-true _ _ a.1.2)) (not_from_false _ f.1))

  all_acked : p.remote ≡ true → (r : ℕ) → r < p.ranks → Within (sends_of r) (acked r)
  unfolding acked sends_of
  all_acked rem r h l i =
      let f = In-filter_cases (λ l. not (is_bump (link p l).kind)) l (out_links p r) i in
      let b = not-true _ f.1 in
      let fired = fired-In (all_seen p (moves_at p w) r).fired (ForLink l) (all_fired r h (ForLink l) (In-works_along p r l f.0)) in
      elim (sent_along p inputs (moves_at p w r) nothing_seen l b fired) [
        | inl z ↦ absurd z
        | inr o ↦ back o.0 o.1 o.2
      ]
    where
      back : (a : Came) → In a (outs p inputs nothing_seen (moves_at p w r)) → a.link ≡ l → In l (map number_in (own_received Answer (w r)))
      back a o e =
          let out = outs_are p inputs r (moves_at p w r) nothing_seen (simulation starts p inputs sound fit slots w cut r h).moves a o in
          let x = out_links-In p r a.link out.out in
          let s = sound.links_sound a.link x.0 in
          let in_range = sound.ranks_known (link p a.link).target s.cells in
          let c = subst (λ v. In a v) (came_started (cell p (link p a.link).target).rank in_range) (machine_rest.taken r a h o) in
          let y = In-map_cases to_came a (own_received Request (w (cell p (link p a.link).target).rank)) c in
          let k = link_of_own (cell p (link p a.link).target).rank y.0 in_range y.1 in
          let n : number_in y.0 ≡ l = ap link_of y.2 ∙ e in
          let from_r : y.0.header.source ≡ r = sym k.3 ∙ ap (source_rank p) (ap link_of y.2) ∙ x.1 in
          let sent_it : In (ack y.0) (sent_by (system_of p inputs slots) w (cell p (link p a.link).target).rank r Answer) =
          subst (λ v. In (ack y.0) v) (sym (answers_rem rem (cell p (link p a.link).target).rank r in_range))
          (In-map ack y.0 (filter (came_from r) (own_received Request (w (cell p (link p a.link).target).rank)))
          (In-filter (came_from r) y.0 (own_received Request (w (cell p (link p a.link).target).rank)) y.1 (eq-eqb _ _ from_r))) in
          let g = owned-In (ack y.0) (got (w r) (cell p (link p a.link).target).rank Answer)
          (subst (λ v. In (ack y.0) v) (sym (rest.empty (cell p (link p a.link).target).rank r Answer in_range h)) sent_it) in
          subst (λ v. In v (map number_in (own_received Answer (w r)))) n
          (In-map number_in (ack y.0) (own_received Answer (w r))
          (got-own_received Answer (w r) (cell p (link p a.link).target).rank (ack y.0) g.0 g.1))

  acks_counted : p.remote ≡ true → (r : ℕ) → r < p.ranks → length (own_received Answer (w r)) ≡ count_by
      (λ l. not (is_bump (link p l).kind)) (out_links p r)
  unfolding acked sends_of
  acks_counted rem r h =
      let a = length-Within (acked r) (sends_of r) (acked_once rem r h) (acked_in r h) in
      let b = length-Within (sends_of r) (acked r) (Distinct-filter _ (out_links p r) (Distinct-out_links p r)) (all_acked rem r h) in
      let c = length-map' number_in (own_received Answer (w r)) in
      let d = length-filter (λ l. not (is_bump (link p l).kind)) (out_links p r) in
      omega (arith, a, b, c, d)

  acks_due : (r : ℕ) → r < p.ranks → (if p.remote then length (own_received Answer (w r)) else 0)
      ≡ (if p.remote then count_by (λ l. not (is_bump (link p l).kind)) (out_links p r) else 0)
  acks_due r h = at p.remote refl
    where
      at : (b : Bool) → p.remote ≡ b → (if b then length (own_received Answer (w r)) else 0)
          ≡ (if b then count_by (λ l. not (is_bump (link p l).kind)) (out_links p r) else 0)
      at true e = acks_counted e r h
      at false e = refl

  tells_counted : (r : ℕ) → r < p.ranks → count_by tells (all_seen p (moves_at p w) r).fired ≡ length (own p r)
  tells_counted r h =
      let m = mine r h in
      count_same tells (all_seen p (moves_at p w) r).fired (rank_ops p r) m.once m.ours
      (length-Within (rank_ops p r) (all_seen p (moves_at p w) r).fired (Distinct-rank_ops p r)
      (λ v i. fired-In (all_seen p (moves_at p w) r).fired v (all_fired r h v i)))
      ∙ tells_works p r

  threshold_small : (r : ℕ) → done_threshold p r ≤ top
  threshold_small r = at p.remote
    where
      at : (b : Bool) → length (own p r) + (if b then count_by (λ l. not (is_bump (link p l).kind)) (out_links p r) else 0) ≤ top
      at true = let a = length-own-le p r in let b = count-out-le p r in let at_most = sound.few_together in omega arith
      at false = let a = length-own-le p r in let at_most = sound.few_together in omega arith

  done_is : (r : ℕ) → r < p.ranks → (all_seen p (moves_at p w) r).done ≡ successes (done_threshold p r)
  done_is r h =
      let e = done_seen p (moves_at p w r) nothing_seen 0 (run_ok p r (w r) [] (answer_ok r h)) refl in
      let k = run_heard p r (w r) [] ∙ heard_is p r (w r) (answer_clean r h) in
      let t = tells_counted r h in
      let a = acks_due r h in
      let small = threshold_small r in
      e ∙ done_min _ _ (let q : count_by tells (all_seen p (moves_at p w) r).fired + (0 + heard p (moves_at p w r)) ≡ done_threshold p r =
      omega (arith, k, t, a) in q)
      ∙ ap successes (let q : min (done_threshold p r) top ≡ done_threshold p r = omega (arith, small) in q)

  -- ---- the theorem
  pub completes : (r : ℕ) → r < p.ranks → IsComplete p inputs slots w r
  completes r h = record {
    done = ap (λ (s : State). lookup (done_ct (slots r)) s.cts.live) (end_is r h)
        ∙ ap (λ b. cond b (Some g.done) (lookup (done_ct (slots r)) (map (counter_of p (slots r) r g) (own p r))))
        (same_handle-refl (done_ct (slots r))) ∙ ap Some (done_is r h);
    none_pending = ap (λ (s : State). s.pending.waiting) (end_is r h)
        ∙ ap (map (operation p (slots r) r)) (filter-none (λ v. not (was_fired g.fired v)) (rank_ops p r)
        (λ v i. not_from_true _ (all_fired r h v i)));
    no_header = ap (λ (s : State). s.headers.unexpected) (end_is r h);
    drops = ap (λ (s : State). s.drops) (end_is r h) ∙ ap (λ n. min n top) (run_strays p r (w r) [] nothing_seen (answer_clean r h)
        ∙ (let q : 0 + count_by is_received_stray (w r) ≡ count_by is_received_stray (w r) = omega arith in q));
    violations = ap (λ (s : State). s.violations) (end_is r h);
    cells = λ c i e.
        let sized = (simulation starts p inputs sound fit slots w cut r h).sized in
        ap (λ (s : State). part (start_in p (own p r) c) (cell p c).length s.memory) (end_is r h)
        ∙ ap (λ n. part n (cell p c).length (flat_map (λ d. content p g.came d (initial p inputs d)) (own p r) ++
        (annex_of p (slots r) r (ended r h).early).tail)) (sym (add-zero (start_in p (own p r) c)))
        ∙ part_flat (cell_length p) (λ d. content p g.came d (initial p inputs d)) (own p r) (λ d j. sized d (own-In p r d j).0) c 0
        (cell p c).length (In-own p r c i e) (let q : 0 + (cell p c).length ≤ (cell p c).length = omega arith in q)
        (annex_of p (slots r) r (ended r h).early).tail
        ∙ part_all (cell p c).length (content p g.came c (initial p inputs c)) (sized c i)
        ∙ subst (λ v. content p (all_seen p (moves_at p w) v).came c (initial p inputs c) ≡ value p inputs c) e
        (rest_values swaps p inputs sound fit (moves_at p w) machine machine_rest c i);
  }
    where
      g : Seen
      g = all_seen p (moves_at p w) r
