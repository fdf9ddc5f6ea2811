-- In a cut, the next answer on a lane is awaited.
use Rattle.cuts.specs.histories.System.{Histories, sent_by, state_at}
use Rattle.cuts.specs.histories.Plans.{system_of}
use Rattle.cuts.specs.histories.Cut.{IsCut, got_by, is_stray, owned}
use Rattle.cuts.specs.view.Slots.{Slots, the_md}
use Rattle.std.proofs.Common.{ℕ, suc, Bool, true, false, ◌||◌, ◌≡◌, ◌<◌, ◌≤◌, List, [], ◌∷◌, ◌++◌, refl, length, ap, ap₂, ◌∙◌, sym, subst}
use Rattle.std.proofs.Common.{inl, inr, map, filter, if◌then◌else◌, arith, eqb-true, nat_lt, lt-ltb, IsTrue}
use Rattle.std.proofs.lemmas.Bool.{cases_lt, not_from_false}
use Rattle.std.proofs.lemmas.List.{map-append}
use Rattle.std.proofs.lemmas.List.Sums.{length-filter}
use Rattle.ni_model.specs.Answers.{is_awaited}
use Rattle.ni_model.specs.declared.Bound.{Bound}
use Rattle.op_laws.specs.Combining.{CombineStarts}
use Rattle.ni_model.specs.Tables.{Table}
use Rattle.plan_core.proofs.Links.{In-from_to}
use Rattle.plan_core.specs.Plan.{from_to, Plan, cell, is_bump, link}
use Rattle.cuts.proofs.start.Starting.{length-from_to}
use Rattle.plan_core.proofs.Lists.{Distinct_left, In-append_right, In-filter, In-filter_cases, In-map, In-map_cases, length-Within}
use Rattle.plan_core.proofs.Lists.{length-map'}
use Rattle.plan_core.specs.Members.{Distinct, In}
use Rattle.plan_core.specs.Sound.{AreInputsOf, SoundPlan}
use Rattle.plan_core.specs.Values.{Inputs}
use Rattle.cuts.proofs.rest.Awaits.{awaits_seen}
use Rattle.cuts.proofs.histories.Conform.{home-remote, prefix-In, stray_request}
use Rattle.cuts.proofs.histories.Told.{answers_in, answers_in-got, heard_is}
use Rattle.cuts.proofs.histories.Traffic.{In-owned, ack, all_distinct, came_from, number_in, own_received, own_received-got, to_came}
use Rattle.cuts.specs.histories.History.{IsDue, got}
use Rattle.cuts.proofs.histories.RunFacts.{run_heard}
use Rattle.cuts.proofs.histories.FromCut.{answer_is, answers_loc, answers_rem, came_out, moves_at, received_once, request_is, sender}
use Rattle.cuts.proofs.histories.Shape.{shape}
use Rattle.cuts.proofs.machine.Ancestors.{sent_fired}
use Rattle.cuts.proofs.machine.Reached.{Distinct-map_filter, link_along}
use Rattle.cuts.specs.machine.Machine.{all_seen, outs, source_rank}
use Rattle.cuts.specs.machine.Seen.{nothing_seen, sends}
use Rattle.plan_core.specs.calls.RankOps.RankOp.{ForLink}
use Rattle.cuts.specs.view.TriggeredOps.{link_header}
use Rattle.cuts.specs.view.Steps.{IsAckHere}
use Rattle.ptl_types.specs.Kinds.{is_answer}
use Rattle.ptl_types.specs.Messages.{Sent}
use Rattle.ptl_types.specs.declared.headers.Header.{Header}
use Rattle.ptl_types.specs.declared.headers.Lane.TheVariants.{Answer, Request}

module _ (starts : CombineStarts) (p : Plan) (inputs : Inputs) (sound : SoundPlan p (length inputs)) (fit : AreInputsOf p inputs)
    (slots : ℕ → Slots) (w : Histories) (cut : IsCut (system_of p inputs slots) w) where
  -- an answer that was sent is the acknowledgement of a message that came from there
  pub record AckOf (r s : ℕ) (m : Sent) : Type 0 where
    pub remote : p.remote ≡ true
    pub of : Sent
    pub came : In of (own_received Request (w s))
    pub from : of.header.source ≡ r
    pub is : ack of ≡ m

  pub sent_ack : (r s : ℕ) (m : Sent) → s < p.ranks → In m (sent_by (system_of p inputs slots) w s r Answer) → AckOf r s m
  sent_ack r s m k o = at p.remote refl o
    where
      at : (b : Bool) → p.remote ≡ b → In m (sent_by (system_of p inputs slots) w s r Answer) → AckOf r s m
      at true e j =
          let y = In-map_cases ack m (filter (came_from r) (own_received Request (w s)))
          (subst (λ v. In m v) (answers_rem starts p inputs sound fit slots w cut e s r k) j) in
          let z = In-filter_cases (came_from r) y.0 (own_received Request (w s)) y.1 in
          record { remote = e; of = y.0; came = z.0; from = eqb-true _ _ z.1; is = y.2 }
      at false e j = absurd (subst (λ v. In m v) (answers_loc starts p inputs sound fit slots w cut e s r k) j)

  -- what is known of the link of a message that rank s received
  pub record LinkTo (s : ℕ) (q : Sent) : Type 0 where
    pub known : number_in q < length p.links
    pub kind : is_bump (link p (number_in q)).kind ≡ false
    pub target : (cell p (link p (number_in q)).target).rank ≡ s
    pub source : source_rank p (number_in q) ≡ q.header.source
    pub header : q.header ≡ link_header p (slots q.header.source) (number_in q)
    pub sent_it : In (to_came q) (outs p inputs nothing_seen (moves_at p w q.header.source))

  pub link_to : (s : ℕ) (q : Sent) → s < p.ranks → In q (own_received Request (w s)) → LinkTo s q
  link_to s q h i =
      let g = own_received-got Request (w s) q i in
      let x = request_is starts p inputs sound fit slots w cut s g.from q h g.got_it g.clean in
      let k = x.0 in
      let n : k.l ≡ number_in q = sym (ap (λ (y : Header). y.hdr_data) k.header) in
      let src : source_rank p k.l ≡ q.header.source = sym (ap (λ (y : Header). y.source) k.header) in
      record {
        known = subst (λ l. l < length p.links) n k.here.known;
        kind = subst (λ l. is_bump (link p l).kind ≡ false) n k.here.sends;
        target = subst (λ l. (cell p (link p l).target).rank ≡ s) n k.here.here;
        source = subst (λ l. source_rank p l ≡ q.header.source) n src;
        header = k.header ∙ ap₂ (λ v l. link_header p (slots v) l) src n;
        sent_it = subst (λ v. In (to_came q) (outs p inputs nothing_seen (moves_at p w v))) (sym x.1 ∙ src)
            (came_out starts p inputs sound fit slots w cut s g.from q h g.got_it g.clean);
      }

  sent_numbers : (r s : ℕ) → p.remote ≡ true → s < p.ranks → Distinct (map number_in (sent_by (system_of p inputs slots) w s r Answer))
  sent_numbers r s rem k =
      subst (λ v. Distinct (map number_in v)) (sym (answers_rem starts p inputs sound fit slots w cut rem s r k))
      (subst Distinct (sym (numbers (filter (came_from r) (own_received Request (w s)))))
      (Distinct-map_filter number_in (came_from r) (own_received Request (w s))
      (received_once starts p inputs sound fit slots w cut s k)))
    where
      numbers : (xs : List Sent) → map number_in (map ack xs) ≡ map number_in xs
      numbers [] = refl
      numbers (x ∷ xs) = ap (λ v. number_in x ∷ v) (numbers xs)

  pub got_ack : (r s : ℕ) (m : Sent) → r < p.ranks → In m (got (w r) s Answer) → AckOf r s m
  got_ack r s m h i =
      let k = sender starts p inputs sound fit slots w cut r s Answer m h i in
      let a = answer_is starts p inputs sound fit slots w cut r s m h i in
      sent_ack r s m k (prefix-In m (got_by w r s Answer) (sent_by (system_of p inputs slots) w s r Answer) (cut.lanes s r Answer k h)
      (In-owned m (got (w r) s Answer) i (stray_request m (ap is_answer a.kind))))

  ack_home : (r s : ℕ) (m : Sent) → s < p.ranks → AckOf r s m → (cell p (link p (number_in m)).target).rank ≡ s
  ack_home r s m k a = subst (λ x. (cell p (link p (number_in x)).target).rank ≡ s) a.is (link_to s a.of k a.came).target

  ack_fired : (r s : ℕ) (m : Sent) → s < p.ranks → AckOf r s m →
      In (number_in m) (map link_along (filter (sends p) (all_seen p (moves_at p w) r).fired))
  ack_fired r s m k a =
      let l = link_to s a.of k a.came in
      let f = sent_fired p inputs (moves_at p w a.of.header.source) nothing_seen (to_came a.of) l.sent_it in
      let f' : In (ForLink (number_in a.of)) (all_seen p (moves_at p w) r).fired =
      subst (λ v. In (ForLink (number_in a.of)) (all_seen p (moves_at p w) v).fired) a.from f in
      subst (λ x. In (number_in x) (map link_along (filter (sends p) (all_seen p (moves_at p w) r).fired))) a.is
      (In-map link_along (ForLink (number_in a.of)) (filter (sends p) (all_seen p (moves_at p w) r).fired)
      (In-filter (sends p) (ForLink (number_in a.of)) (all_seen p (moves_at p w) r).fired f' (not_from_false _ l.kind)))

  ack_known : (r s : ℕ) (m : Sent) → s < p.ranks → AckOf r s m → number_in m < length p.links
  ack_known r s m k a = subst (λ x. number_in x < length p.links) a.is (link_to s a.of k a.came).known

  lane_once : (r s : ℕ) → r < p.ranks → p.remote ≡ true → Distinct (map number_in (got_by w r s Answer))
  lane_once r s h rem = elim (cases_lt s p.ranks) [
    | inl k ↦ (let x = cut.lanes s r Answer k h in
        Distinct_left (map number_in (got_by w r s Answer)) (map number_in x.0)
        (subst Distinct (map-append number_in (got_by w r s Answer) x.0)
        (subst (λ v. Distinct (map number_in v)) (sym x.1) (sent_numbers r s rem k))))
    | inr k ↦ subst (λ v. Distinct (map number_in (owned v))) (sym (cut.known r s Answer h k)) tt
  ]

  pub answers_once : (r : ℕ) → r < p.ranks → p.remote ≡ true → Distinct (map number_in (own_received Answer (w r)))
  answers_once r h rem = all_distinct Answer (λ l. (cell p (link p l).target).rank) (w r)
      (λ s m i e. ack_home r s m (sender starts p inputs sound fit slots w cut r s Answer m h i) (got_ack r s m h i))
      (λ s. lane_once r s h rem)

  -- the next one on a lane isn't among those that came
  is_new : (r s : ℕ) (m : Sent) (later : List Sent) → r < p.ranks → s < p.ranks → p.remote ≡ true →
      got_by w r s Answer ++ m ∷ later ≡ sent_by (system_of p inputs slots) w s r Answer → AckOf r s m →
      In (number_in m) (map number_in (own_received Answer (w r))) → ⊥
  is_new r s m later h k rem e a i =
      let y = In-map_cases number_in (number_in m) (own_received Answer (w r)) i in
      let g = own_received-got Answer (w r) y.0 y.1 in
      let z = got_ack r g.from y.0 h g.got_it in
      let home = ack_home r g.from y.0 (sender starts p inputs sound fit slots w cut r g.from Answer y.0 h g.got_it) z in
      let same : g.from ≡ s = sym home ∙ ap (λ l. (cell p (link p l).target).rank) y.2 ∙ ack_home r s m k a in
      let here : In y.0 (got_by w r s Answer) = In-owned y.0 (got (w r) s Answer) (subst (λ v. In y.0 (got (w r) v Answer)) same g.got_it)
      g.clean in
      apart (got_by w r s Answer) (subst (λ v. Distinct (map number_in v)) (sym e) (sent_numbers r s rem k)) y.0 here y.2
    where
      apart : (xs : List Sent) → Distinct (map number_in (xs ++ m ∷ later)) → (y : Sent) → In y xs → number_in y ≡ number_in m → ⊥
      apart [] d y i q = absurd i
      apart (x ∷ xs) d y (inl f) q = d.0 (subst (λ v. In v (map number_in (xs ++ m ∷ later))) (sym q ∙ sym (ap number_in f))
          (In-map number_in m (xs ++ m ∷ later) (In-append_right m xs (m ∷ later) (inl refl))))
      apart (x ∷ xs) d y (inr i) q = apart xs d.1 y i q

  here_ack : (r s : ℕ) (m : Sent) → s < p.ranks → AckOf r s m → IsAckHere (slots r) m
  here_ack r s m k a =
      let l = link_to s a.of k a.came in
      let hd : a.of.header ≡ link_header p (slots r) (number_in a.of) =
      subst (λ v. a.of.header ≡ link_header p (slots v) (number_in a.of)) a.from l.header in
      record {
        kind = sym (ap (λ (x : Sent). x.header.kind) a.is);
        home = sym (ap (λ (x : Sent). x.header.home) a.is) ∙ ap (λ (x : Header). x.home) hd
            ∙ home-remote p.remote (the_md (slots r)) a.remote;
        answered = sym (ap (λ (x : Sent). x.header.ack) a.is);
      }

  -- there are fewer answers than links
  few_answers : (r s : ℕ) (m : Sent) (later : List Sent) → r < p.ranks → s < p.ranks →
      got_by w r s Answer ++ m ∷ later ≡ sent_by (system_of p inputs slots) w s r Answer → AckOf r s m →
      suc (length (own_received Answer (w r))) ≤ length p.links
  few_answers r s m later h k e a =
      let size = length-Within (number_in m ∷ map number_in (own_received Answer (w r))) (from_to 0 (length p.links))
      (is_new r s m later h k a.remote e a, answers_once r h a.remote)
      (λ n i. elim i [
        | inl q ↦ link_number n (subst (λ v. v < length p.links) q (ack_known r s m k a))
        | inr j ↦ link_number n (other n j)
      ]) in
      let y = length-map' number_in (own_received Answer (w r)) in
      let z = length-from_to 0 (length p.links) in
      omega (arith, size, y, z)
    where
      link_number : (n : ℕ) → n < length p.links → In n (from_to 0 (length p.links))
      link_number n l = In-from_to 0 (length p.links) n (omega arith) (omega arith)

      other : (n : ℕ) → In n (map number_in (own_received Answer (w r))) → n < length p.links
      other n i =
          let y = In-map_cases number_in n (own_received Answer (w r)) i in
          let g = own_received-got Answer (w r) y.0 y.1 in
          subst (λ v. v < length p.links) y.2 (ack_known r g.from y.0
          (sender starts p inputs sound fit slots w cut r g.from Answer y.0 h g.got_it) (got_ack r g.from y.0 h g.got_it))

  enough : (r s : ℕ) (m : Sent) (later : List Sent) → r < p.ranks → s < p.ranks →
      got_by w r s Answer ++ m ∷ later ≡ sent_by (system_of p inputs slots) w s r Answer → AckOf r s m →
      0 < (all_seen p (moves_at p w) r).awaits
  enough r s m later h k e a =
      let g = all_seen p (moves_at p w) r in
      let sent_list = map link_along (filter (sends p) (all_seen p (moves_at p w) r).fired) in
      let size = length-Within (number_in m ∷ map number_in (own_received Answer (w r)))
      (map link_along (filter (sends p) (all_seen p (moves_at p w) r).fired))
      (is_new r s m later h k a.remote e a, answers_once r h a.remote)
      (λ n i. elim i [
        | inl q ↦ subst (λ v. In v (map link_along (filter (sends p) (all_seen p (moves_at p w) r).fired))) q (ack_fired r s m k a)
        | inr j ↦ other n j
      ]) in
      let f = length-filter (sends p) (all_seen p (moves_at p w) r).fired in
      let q = length-map' link_along (filter (sends p) (all_seen p (moves_at p w) r).fired) in
      let y = length-map' number_in (own_received Answer (w r)) in
      let aw = awaits_seen p a.remote (moves_at p w r) nothing_seen 0 (omega arith) in
      let hd = run_heard p r (w r) [] ∙ heard_is p r (w r) clean ∙ ap (λ b. if b then length (own_received Answer (w r)) else 0) a.remote in
      let at_most = few_answers r s m later h k e a in
      let bound = sound.few_together in
      omega (arith, size, f, q, y, aw, hd, at_most, bound)
    where
      clean : (x : Sent) → In x (answers_in (w r)) → is_stray x ≡ false
      clean x i = let j = answers_in-got (w r) x i in stray_request x
          (ap is_answer (answer_is starts p inputs sound fit slots w cut r j.0 x h j.1).kind)

      other : (n : ℕ) → In n (map number_in (own_received Answer (w r))) →
          In n (map link_along (filter (sends p) (all_seen p (moves_at p w) r).fired))
      other n i =
          let y = In-map_cases number_in n (own_received Answer (w r)) i in
          let g = own_received-got Answer (w r) y.0 y.1 in
          subst (λ v. In v (map link_along (filter (sends p) (all_seen p (moves_at p w) r).fired))) y.2
          (ack_fired r g.from y.0 (sender starts p inputs sound fit slots w cut r g.from Answer y.0 h g.got_it)
          (got_ack r g.from y.0 h g.got_it))

  pub next_answer_due : (r s : ℕ) (m : Sent) (later : List Sent) → r < p.ranks → s < p.ranks →
      got_by w r s Answer ++ m ∷ later ≡ sent_by (system_of p inputs slots) w s r Answer →
      IsDue (state_at (system_of p inputs slots) w r) Answer m
  next_answer_due r s m later h k e =
      let a = sent_ack r s m k (subst (λ v. In m v) e (In-append_right m (got_by w r s Answer) (m ∷ later) (inl refl))) in
      let here = here_ack r s m k a in
      let n : nat_lt 0 (all_seen p (moves_at p w) r).awaits ≡ true = lt-ltb _ _ (enough r s m later h k e a) in
      let sh = shape starts p inputs sound fit slots w cut r h in
      subst (λ (ms : Table Bound). IsTrue (is_awaited ms.live)) (sym sh.mds) (or_true (nat_lt 0 (all_seen p (moves_at p w) r).awaits) n)
    where
      or_true : (b : Bool) → b ≡ true → IsTrue (b || false)
      or_true true e = refl
      or_true false e = cc
