-- Nothing of the job comes to a rank that is done: all its links have come, and all its messages are acknowledged.
use Rattle.std.proofs.Common.{ℕ, Bool, true, false, cond, not, ◌≡◌, ◌<◌, List, [], ◌∷◌, ◌++◌, refl, length, ap, ◌∙◌, sym, subst, inl, inr}
use Rattle.std.proofs.Common.{map, filter, append-nil, append_assoc}
use Rattle.std.proofs.lemmas.Bool.{eqb-true}
use Rattle.std.proofs.lemmas.List.{map-append}
use Rattle.std.proofs.lemmas.List.Elements.{filter-append}
use Rattle.op_laws.specs.Combining.{CombineStarts}
use Rattle.plan_core.specs.calls.RankOps.{is_message}
use Rattle.plan_core.proofs.Links.{In-in_links, In-own, In-out_links, out_links-In}
use Rattle.plan_core.proofs.Lists.{In-append_cases, In-append_right, In-filter, In-filter_cases, In-map, In-map_cases}
use Rattle.plan_core.specs.Members.{Distinct, In}
use Rattle.plan_core.specs.Plan.{Plan, cell, is_bump, link, out_links}
use Rattle.plan_core.specs.Sound.{AreInputsOf, SoundPlan}
use Rattle.plan_core.specs.Values.{Inputs}
use Rattle.cuts.proofs.histories.Fronts.{got-append, nil-left}
use Rattle.cuts.proofs.histories.FromCut.{answers_loc, answers_rem, came_all, machine_cut, moves_at, prepared_of, received_once, request_is}
use Rattle.cuts.proofs.histories.FromCut.{sender, sent_requests, simulation}
use Rattle.cuts.proofs.histories.RunTraffic.{has_start}
use Rattle.cuts.proofs.histories.SentOnce.{sent_once}
use Rattle.cuts.proofs.histories.Traffic.{In-owned, ack, as_message, came_from, goes_to, number_in, outs_are, own_received}
use Rattle.cuts.proofs.histories.Traffic.{own_received-got}
use Rattle.cuts.proofs.histories.Traffic.{to_came}
use Rattle.cuts.specs.histories.Cut.{IsCut, got_by, owned, is_stray}
use Rattle.cuts.specs.histories.History.{got}
use Rattle.cuts.specs.histories.Plans.{start_of, system_of}
use Rattle.cuts.specs.histories.System.{Histories, sent_by}
use Rattle.cuts.proofs.machine.Reached.{Distinct-map_filter, all_in, bumped_to, bumped_to-In, came_to, came_to-In}
use Rattle.cuts.specs.machine.Machine.{all_seen, link_of, outs, source_rank}
use Rattle.cuts.specs.machine.Seen.{Came, nothing_seen}
use Rattle.cuts.proofs.rest.Due.{got_ack, link_to, sent_ack}
use Rattle.cuts.specs.view.Calls.{prepare}
use Rattle.cuts.specs.view.Slots.{Slots}
use Rattle.ptl_types.specs.Messages.{Sent}
use Rattle.ptl_types.specs.declared.headers.Header.{Header}
use Rattle.ptl_types.specs.declared.headers.Lane.{Lane}
use Rattle.ptl_types.specs.declared.headers.Lane.TheVariants.{Answer, Request}
use Rattle.cuts.proofs.done.Counted.{all_acknowledged, mine, reached}
use Rattle.cuts.specs.done.Done.{GoesOn, IsDone}

-- ---- what stands behind a front that has each number already is nothing
not_twice : (ns : List ℕ) (n : ℕ) (ms : List ℕ) → Distinct (ns ++ n ∷ ms) → In n ns → ⊥
not_twice [] n ms d i = absurd i
not_twice (x ∷ ns) n ms d (inl e) = d.0 (subst (λ v. In v (ns ++ n ∷ ms)) (sym e) (In-append_right n ns (n ∷ ms) (inl refl)))
not_twice (x ∷ ns) n ms d (inr i) = not_twice ns n ms d.1 i

none_behind : (xs ys zs : List Sent) → xs ++ ys ≡ zs → Distinct (map number_in zs)
    → ((m : Sent) → In m zs → In (number_in m) (map number_in xs)) → zs ≡ xs
none_behind xs [] zs e d all = sym e ∙ append-nil xs
none_behind xs (m ∷ ys) zs e d all =
    absurd (not_twice (map number_in xs) (number_in m) (map number_in ys)
    (subst Distinct (map-append number_in xs (m ∷ ys)) (subst (λ v. Distinct (map number_in v)) (sym e) d))
    (all m (subst (λ v. In m v) e (In-append_right m xs (m ∷ ys) (inl refl)))))

module _ (starts : CombineStarts) (p : Plan) (inputs : Inputs) (sound : SoundPlan p (length inputs)) (fit : AreInputsOf p inputs)
    (slots : ℕ → Slots) (w : Histories) (cut : IsCut (system_of p inputs slots) w) (r : ℕ) (h : r < p.ranks)
    (done : IsDone p inputs slots w r) where
  -- ---- each message of a link to this rank has come
  arrived : (l : ℕ) → l < length p.links → (cell p (link p l).target).rank ≡ r → is_bump (link p l).kind ≡ false
      → In l (map number_in (own_received Request (w r)))
  arrived l known here sends =
      let c = (link p l).target in
      let s = sound.links_sound l known in
      let m = machine_cut starts p inputs sound fit slots w cut in
      let all = all_in p inputs sound r (link p l).target (all_seen p (moves_at p w) r) h s.cells (m.proper r h)
      (mine starts p inputs sound fit slots w cut r h)
      (reached starts p inputs sound fit slots w cut r h done (link p l).target (In-own p r (link p l).target s.cells here)) l
      (In-in_links p (link p l).target l known refl) in
      elim (In-append_cases l (came_to p (link p l).target (all_seen p (moves_at p w) r).came)
      (bumped_to p (link p l).target (all_seen p (moves_at p w) r).fired) all) [
        | inl i ↦ (let k = came_to-In p (link p l).target (all_seen p (moves_at p w) r).came l i in
            let q = In-map_cases to_came k.0 (own_received Request (w r)) (came_early k.0 k.1) in
            subst (λ n. In n (map number_in (own_received Request (w r)))) (ap link_of q.2 ∙ k.2)
            (In-map number_in q.0 (own_received Request (w r)) q.1))
        | inr i ↦ absurd (both (bumped_to-In p (link p l).target (all_seen p (moves_at p w) r).fired l i).1 sends)
      ]
    where
      both : {b : Bool} → b ≡ true → b ≡ false → ⊥
      both e i = cc

      came_early : (a : Came) → In a (all_seen p (moves_at p w) r).came → In a (map to_came (own_received Request (w r)))
      came_early a i = at (has_start (w r)) (subst (λ v. In a v) (came_all starts p inputs sound fit slots w cut r) i)
        where
          at : (b : Bool) → In a (cond b (map to_came (own_received Request (w r))) []) → In a (map to_came (own_received Request (w r)))
          at true i = i
          at false i = absurd i

  -- on the lane from the rank that fires the link
  arrived_from : (s l : ℕ) → source_rank p l ≡ s → In l (map number_in (own_received Request (w r)))
      → In l (map number_in (got_by w r s Request))
  arrived_from s l of i =
      let q = In-map_cases number_in l (own_received Request (w r)) i in
      let g = own_received-got Request (w r) q.0 q.1 in
      let k = request_is starts p inputs sound fit slots w cut r g.from q.0 h g.got_it g.clean in
      let n : k.0.l ≡ l = sym (ap (λ (x : Header). x.hdr_data) k.0.header) ∙ q.2 in
      let same : g.from ≡ s = sym k.1 ∙ ap (source_rank p) n ∙ of in
      subst (λ v. In v (map number_in (got_by w r s Request))) q.2
      (In-map number_in q.0 (got_by w r s Request)
      (In-owned q.0 (got (w r) s Request) (subst (λ v. In q.0 (got (w r) v Request)) same g.got_it) g.clean))

  -- ---- each acknowledgement has come, on the lane from the rank that gives it
  answered_from : p.remote ≡ true → (s l : ℕ) → (cell p (link p l).target).rank ≡ s → In l (filter (is_message p) (out_links p r))
      → In l (map number_in (got_by w r s Answer))
  answered_from rem s l to i =
      let q = In-map_cases number_in l (own_received Answer (w r))
      (all_acknowledged starts p inputs sound fit slots w cut r h done rem l i) in
      let g = own_received-got Answer (w r) q.0 q.1 in
      let a = got_ack starts p inputs sound fit slots w cut r g.from q.0 h g.got_it in
      let k = link_to starts p inputs sound fit slots w cut g.from a.of
      (sender starts p inputs sound fit slots w cut r g.from Answer q.0 h g.got_it) a.came in
      let n : number_in a.of ≡ l = ap number_in a.is ∙ q.2 in
      let same : g.from ≡ s = sym k.target ∙ ap (λ v. (cell p (link p v).target).rank) n ∙ to in
      subst (λ v. In v (map number_in (got_by w r s Answer))) q.2
      (In-map number_in q.0 (got_by w r s Answer)
      (In-owned q.0 (got (w r) s Answer) (subst (λ v. In q.0 (got (w r) v Answer)) same g.got_it) g.clean))

-- ---- later
module _ (starts : CombineStarts) (p : Plan) (inputs : Inputs) (sound : SoundPlan p (length inputs)) (fit : AreInputsOf p inputs)
    (slots : ℕ → Slots) (w : Histories) (cut : IsCut (system_of p inputs slots) w) (r : ℕ) (h : r < p.ranks)
    (done : IsDone p inputs slots w r) (v : Histories) (then : IsCut (system_of p inputs slots) v)
    (on : GoesOn (system_of p inputs slots) w v) where
  front : (s : ℕ) (lane : Lane) → s < p.ranks
      → (rest : List Sent) × (got_by w r s lane ++ rest ≡ sent_by (system_of p inputs slots) v s r lane)
  front s lane k =
      let x = then.lanes s r lane k h in
      let more = owned (got (on r h).0 s lane) in
      let split : got_by v r s lane ≡ got_by w r s lane ++ owned (got (on r h).0 s lane) =
      ap (λ es. owned (got es s lane)) (sym (on r h).1) ∙ ap owned (got-append (w r) (on r h).0 s lane)
      ∙ filter-append (λ m. not (is_stray m)) (got (w r) s lane) (got (on r h).0 s lane) in
      (more ++ x.0, sym (append_assoc (got_by w r s lane) more x.0) ∙ ap (λ ms. ms ++ x.0) (sym split) ∙ x.1)

  requests : (s : ℕ) → s < p.ranks → sent_by (system_of p inputs slots) v s r Request ≡ got_by w r s Request
  requests s k =
      let f = front s Request k in
      none_behind (got_by w r s Request) f.0 (sent_by (system_of p inputs slots) v s r Request) f.1
      (sent_once p (slots s) s (start_of p (slots s) s) (v s) false (prepare p inputs (slots s) s)
      (prepared_of p inputs sound (slots s) s) (then.legal s k) r)
      each
    where
      each : (m : Sent) → In m (sent_by (system_of p inputs slots) v s r Request)
          → In (number_in m) (map number_in (got_by w r s Request))
      each m i =
          let q = In-map_cases (as_message p (slots s)) m (filter (goes_to p r) (outs p inputs nothing_seen (moves_at p v s)))
          (subst (λ ms. In m ms) (sent_requests starts p inputs sound fit slots v then s r k) i) in
          let f = In-filter_cases (goes_to p r) q.0 (outs p inputs nothing_seen (moves_at p v s)) q.1 in
          let o = outs_are p inputs s (moves_at p v s) nothing_seen
          (simulation starts p inputs sound fit slots v then s k).moves q.0 f.0 in
          let x = out_links-In p s q.0.link o.out in
          let n : q.0.link ≡ number_in m = ap number_in q.2 in
          subst (λ l. In l (map number_in (got_by w r s Request))) n
          (arrived_from starts p inputs sound fit slots w cut r h done s q.0.link x.1
          (arrived starts p inputs sound fit slots w cut r h done q.0.link x.0 (eqb-true _ _ f.1) o.sends))

  answers : (s : ℕ) → s < p.ranks → sent_by (system_of p inputs slots) v s r Answer ≡ got_by w r s Answer
  answers s k = at p.remote refl
    where
      each : p.remote ≡ true → (m : Sent) → In m (sent_by (system_of p inputs slots) v s r Answer)
          → In (number_in m) (map number_in (got_by w r s Answer))
      each rem m i =
          let a = sent_ack starts p inputs sound fit slots v then r s m k i in
          let l = link_to starts p inputs sound fit slots v then s a.of k a.came in
          subst (λ n. In n (map number_in (got_by w r s Answer))) (ap number_in a.is)
          (answered_from starts p inputs sound fit slots w cut r h done rem s (number_in a.of) l.target
          (In-filter (is_message p) (number_in a.of) (out_links p r) (In-out_links p r (number_in a.of) l.known (l.source ∙ a.from))
          (ap not l.kind)))

      numbers : (xs : List Sent) → map number_in (map ack xs) ≡ map number_in xs
      numbers [] = refl
      numbers (x ∷ xs) = ap (λ v. number_in x ∷ v) (numbers xs)

      once : p.remote ≡ true → Distinct (map number_in (sent_by (system_of p inputs slots) v s r Answer))
      once rem =
          subst (λ ms. Distinct (map number_in ms)) (sym (answers_rem starts p inputs sound fit slots v then rem s r k))
          (subst Distinct (sym (numbers (filter (came_from r) (own_received Request (v s)))))
          (Distinct-map_filter number_in (came_from r) (own_received Request (v s))
          (received_once starts p inputs sound fit slots v then s k)))

      at : (b : Bool) → p.remote ≡ b → sent_by (system_of p inputs slots) v s r Answer ≡ got_by w r s Answer
      at true rem =
          let f = front s Answer k in none_behind (got_by w r s Answer) f.0 (sent_by (system_of p inputs slots) v s r Answer) f.1
          (once rem) (each rem)
      at false rem =
          let e = answers_loc starts p inputs sound fit slots v then rem s r k in
          let f = front s Answer k in
          e ∙ sym (nil-left (got_by w r s Answer) f.0 (f.1 ∙ e))

  pub nothing_comes : (s : ℕ) (lane : Lane) → s < p.ranks → sent_by (system_of p inputs slots) v s r lane ≡ got_by w r s lane
  nothing_comes s Request k = requests s k
  nothing_comes s Answer k = answers s k
