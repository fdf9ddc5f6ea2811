-- A cut is a cut of their plan's machine.
use Rattle.cuts.specs.histories.System.{Histories, sent_by}
use Rattle.cuts.specs.histories.Plans.{start_of, system_of}
use Rattle.cuts.specs.histories.Cut.{IsCut, got_by, is_stray, owned}
use Rattle.cuts.specs.view.Slots.{Slots, the_md}
use Rattle.std.proofs.Common.{ℕ, Bool, true, false, ◌≡◌, ◌<◌, List, [], ◌∷◌, refl, length, ap, ◌∙◌, sym, subst, inl, inr, map, filter}
use Rattle.std.proofs.Common.{Option, Some, None, if◌then◌else◌, cond}
use Rattle.std.proofs.lemmas.Bool.{cases_Bool, cases_lt, not-true}
use Rattle.std.proofs.lemmas.List.{map-append}
use Rattle.cuts.proofs.histories.Origin.{Received, FromLink, IsOf, Reply, from_link-request, legal_got, made_from, reply-answer}
use Rattle.ni_model.specs.Arrive.{answer}
use Rattle.op_laws.specs.Combining.{CombineStarts}
use Rattle.plan_core.proofs.Links.{out_links-In}
use Rattle.plan_core.proofs.Lists.{Distinct_left, In-filter_cases, In-map_cases}
use Rattle.plan_core.proofs.Values.{length-initial}
use Rattle.plan_core.specs.Members.{Distinct, In}
use Rattle.plan_core.specs.Plan.{Plan, cell, link}
use Rattle.plan_core.specs.Sound.{AreInputsOf, SoundPlan}
use Rattle.plan_core.specs.Values.{Inputs}
use Rattle.cuts.proofs.histories.Conform.{build_conform, home-remote, pending_of, link-is_put, prefix-In, reply-to_link, stray-no_answer}
use Rattle.cuts.proofs.histories.Conform.{stray_request}
use Rattle.cuts.proofs.histories.SentOnce.{sent_once}
use Rattle.cuts.proofs.histories.Simulate.{AllConform, IsLink}
use Rattle.cuts.proofs.histories.Traffic.{In-owned, ack, all_distinct, as_message, came_from, goes_to, number_in, own_received}
use Rattle.cuts.proofs.histories.Traffic.{own_received-got, to_came}
use Rattle.cuts.specs.histories.History.{Legal, got, is_for, made}
use Rattle.cuts.proofs.start.Areas.{MayLie}
use Rattle.cuts.proofs.histories.Runs.{nothing_raised, SimulatesRun, before_start, run_moves, simulates_run}
use Rattle.cuts.proofs.start.Prepared.{prepared}
use Rattle.cuts.proofs.histories.RunTraffic.{before-front, has_start, run_answers_local, run_answers_remote, run_came, run_requests}
use Rattle.cuts.specs.view.Calls.{prepare}
use Rattle.cuts.specs.machine.Machine.{IsMachineCut, Move, all_seen, link_of, outs, source_rank}
use Rattle.cuts.specs.machine.Seen.{Came, nothing_seen}
use Rattle.cuts.specs.view.TriggeredOps.{kind_for, link_header}
use Rattle.cuts.specs.view.Steps.{IsAckHere, IsLinkHere}
use Rattle.ptl_types.specs.Messages.{Sent, bytes_due}
use Rattle.ptl_types.specs.declared.elements.AtomicOp.{AtomicOp}
use Rattle.ptl_types.specs.declared.headers.Header.{Header}
use Rattle.ptl_types.specs.declared.headers.Lane.{Lane}
use Rattle.ptl_types.specs.declared.headers.Lane.TheVariants.{Answer, Request}

-- the machine's histories
abbrev pub moves_at : Plan → Histories → ℕ → List Move
moves_at p w r = run_moves p r [] (w r)

pub prepared_of : (p : Plan) (inputs : Inputs) → SoundPlan p (length inputs) → (s : Slots) (r : ℕ) → IsOf p s r (prepare p inputs s r)
prepared_of p inputs sound s r = subst (IsOf p s r) (sym (prepared p inputs s r (λ n. s) (length inputs) sound))
    (record { rank = refl; pending = pending_of p s r })

module _ (starts : CombineStarts) (p : Plan) (inputs : Inputs) (sound : SoundPlan p (length inputs)) (fit : AreInputsOf p inputs)
    (slots : ℕ → Slots) (w : Histories) (cut : IsCut (system_of p inputs slots) w) where
  -- the sender of what was received is a rank
  pub sender : (r s : ℕ) (lane : Lane) (m : Sent) → r < p.ranks → In m (got (w r) s lane) → s < p.ranks
  sender r s lane m h i = elim (cases_lt s p.ranks) [ inl l ↦ l | inr l ↦ absurd (subst (λ v. In m v) (cut.known r s lane h l) i) ]

  received : (r s : ℕ) (lane : Lane) (m : Sent) → r < p.ranks → In m (got (w r) s lane) → Received r s lane m
  received r s lane m h i = legal_got p (slots r) r (start_of p (slots r) r) (w r) false (prepare p inputs (slots r) r)
      (prepared_of p inputs sound (slots r) r) (cut.legal r h) s lane m i

  was_sent : (r s : ℕ) (lane : Lane) (m : Sent) → r < p.ranks → s < p.ranks → In m (got (w r) s lane) → is_stray m ≡ false →
      In m (made (start_of p (slots s) s) (prepare p inputs (slots s) s) (w s)) × (is_for r lane m ≡ true)
  was_sent r s lane m h k i e =
      In-filter_cases (is_for r lane) m (made (start_of p (slots s) s) (prepare p inputs (slots s) s) (w s))
      (prefix-In m (got_by w r s lane) (sent_by (system_of p inputs slots) w s r lane) (cut.lanes s r lane k h)
      (In-owned m (got (w r) s lane) i e))

  -- a request that is received is a stray or a link's message
  pub request_is : (r s : ℕ) (m : Sent) → r < p.ranks → In m (got (w r) s Request) → is_stray m ≡ false → (k : IsLink p slots r m) ×
      (source_rank p k.l ≡ s)
  request_is r s m h i e =
      let k = sender r s Request m h i in
      let x = received r s Request m h i in
      let o = was_sent r s Request m h k i e in
      elim (made_from p (slots s) s (start_of p (slots s) s) (w s) (prepare p inputs (slots s) s) m
      (prepared_of p inputs sound (slots s) s) o.0) [
        | inl f ↦ here f x k
        | inr a ↦ absurd (both (reply-answer (w s) m a) (not-true _ x.kind))
      ]
    where
      both : {b : Bool} → b ≡ true → b ≡ false → ⊥
      both e i = cc

      sized : (o : Option AtomicOp) (hd : Header) → hd.kind ≡ kind_for o → bytes_due hd.kind hd.ok hd.length ≡ hd.length
      sized None hd e = ap (λ k. bytes_due k hd.ok hd.length) e
      sized (Some o) hd e = ap (λ k. bytes_due k hd.ok hd.length) e

      here : (f : FromLink p (slots s) s m) → Received r s Request m → s < p.ranks → (k : IsLink p slots r m) × (source_rank p k.l ≡ s)
      here f x k =
          let q = out_links-In p s f.l f.out in (
            record {
              l = f.l;
              here = record { known = q.0; sends = f.sends; here = sym (ap (λ (y : Header). y.target) f.header) ∙ x.target };
              header = subst (λ v. m.header ≡ link_header p (slots v) f.l) (sym q.1) f.header;
              size = x.kept ∙ sized (cell p (link p f.l).target).op m.header (ap (λ (y : Header). y.kind) f.header)
                  ∙ ap (λ (y : Header). y.length) f.header;
            },
            q.1,
          )

  -- an answer that is received is an acknowledgement for this rank's descriptor
  pub answer_is : (r s : ℕ) (m : Sent) → r < p.ranks → In m (got (w r) s Answer) → IsAckHere (slots r) m
  answer_is r s m h i =
      let k = sender r s Answer m h i in
      let x = received r s Answer m h i in
      let o = was_sent r s Answer m h k i (stray_request m x.kind) in
      elim (made_from p (slots s) s (start_of p (slots s) s) (w s) (prepare p inputs (slots s) s) m
      (prepared_of p inputs sound (slots s) s) o.0) [
        | inl f ↦ absurd (both x.kind (from_link-request p (slots s) s m f))
        | inr a ↦ reply a x k
      ]
    where
      both : {b : Bool} → b ≡ true → b ≡ false → ⊥
      both e i = cc

      reply : Reply (w s) m → Received r s Answer m → s < p.ranks → IsAckHere (slots r) m
      reply a x k = request a.lane a.came (legal_got p (slots s) s (start_of p (slots s) s) (w s) false (prepare p inputs (slots s) s)
          (prepared_of p inputs sound (slots s) s) (cut.legal s k) a.source a.lane a.to a.came)
        where
          at_link : (q : IsLink p slots s a.to) → IsAckHere (slots r) m
          at_link q =
              let l = q.l in
              let f = a.answers in
              let y = reply-to_link p.remote f.ok f.length f.bytes (link_header p (slots (source_rank p q.l)) q.l) m
              (link-is_put p (slots (source_rank p q.l)) q.l) refl (ap (answer f.ok f.length f.bytes) (sym q.header) ∙ f.is) in
              let z : source_rank p q.l ≡ r = sym (ap (λ (v : Header). v.target) y.1) ∙ x.target in
              record {
                kind = ap (λ (v : Header). v.kind) y.1;
                home = ap (λ (v : Header). v.home) y.1 ∙ home-remote p.remote _ y.0 ∙ ap (λ v. Some (the_md (slots v))) z;
                answered = ap (λ (v : Header). v.ack) y.1;
              }

          none_some : {y : Sent} → None ≡ Some y → ⊥
          none_some e = cc

          request : (lane : Lane) → In a.to (got (w s) a.source lane) → Received s a.source lane a.to → IsAckHere (slots r) m
          request Answer c y = absurd (both y.kind a.request)
          request Request c y = elim (cases_Bool (is_stray a.to)) [
            | inl e ↦ (let f = a.answers in absurd (none_some (sym (stray-no_answer f.ok f.length f.bytes a.to e) ∙ f.is)))
            | inr e ↦ at_link (request_is s a.source a.to k c e).0
          ]

  pub conforms : (r : ℕ) → r < p.ranks → AllConform p slots r (w r)
  conforms r h = build_conform p slots r (w r)
      (λ s m i. elim (cases_Bool (is_stray m)) [ inl e ↦ inl e | inr e ↦ inr (request_is r s m h i e).0 ])
      (λ s m i. answer_is r s m h i)

  -- within one lane no link comes twice: before the simulation, since a start needs it
  numbers_once : (r s : ℕ) → r < p.ranks → Distinct (map number_in (got_by w r s Request))
  numbers_once r s h = elim (cases_lt s p.ranks) [
    | inl k ↦ (let x = cut.lanes s r Request k h in
        Distinct_left (map number_in (got_by w r s Request)) (map number_in x.0)
        (subst Distinct (map-append number_in (got_by w r s Request) x.0)
        (subst (λ v. Distinct (map number_in v)) (sym x.1)
        (sent_once p (slots s) s (start_of p (slots s) s) (w s) false (prepare p inputs (slots s) s)
        (prepared_of p inputs sound (slots s) s) (cut.legal s k) r))))
    | inr k ↦ subst (λ v. Distinct (map number_in (owned v))) (sym (cut.known r s Request h k)) tt
  ]

  source_of : (r s : ℕ) (m : Sent) → r < p.ranks → In m (got (w r) s Request) → is_stray m ≡ false → source_rank p (number_in m) ≡ s
  source_of r s m h i e = let k = request_is r s m h i e in ap (λ (x : Header). source_rank p x.hdr_data) k.0.header ∙ k.1

  pub received_once : (r : ℕ) → r < p.ranks → Distinct (map number_in (own_received Request (w r)))
  received_once r h = all_distinct Request (source_rank p) (w r) (λ s m i e. source_of r s m h i e) (λ s. numbers_once r s h)

  links_of : (ms : List Sent) → map link_of (map to_came ms) ≡ map number_in ms
  links_of [] = refl
  links_of (m ∷ ms) = ap (λ v. number_in m ∷ v) (links_of ms)

  pub all_once : (r : ℕ) → r < p.ranks → Distinct (map link_of (map to_came (own_received Request (w r))))
  all_once r h = subst Distinct (sym (links_of (own_received Request (w r)))) (received_once r h)

  pub received_link : (r : ℕ) → r < p.ranks → (a : Came) → In a (map to_came (own_received Request (w r))) → IsLinkHere p r a.link ×
      (length a.bytes ≡ (link p a.link).length)
  received_link r h a i =
      let q = In-map_cases to_came a (own_received Request (w r)) i in
      let g = own_received-got Request (w r) q.0 q.1 in
      let k = (request_is r g.from q.0 h g.got_it g.clean).0 in
      let n : k.l ≡ a.link = sym (ap (λ (x : Header). x.hdr_data) k.header) ∙ ap link_of q.2 in
      subst (λ l. IsLinkHere p r l × (length a.bytes ≡ (link p l).length)) n (k.here, sym (ap (λ (c : Came). length c.bytes) q.2) ∙ k.size)

  -- what came before the start may lie in the areas
  early_lie : (r : ℕ) → r < p.ranks → MayLie p r (before_start (w r))
  early_lie r h =
      let f = before-front (w r) in
      let inside : (a : Came) → In a (before_start (w r)) → In a (map to_came (own_received Request (w r))) =
      (λ a i. prefix-In a (before_start (w r)) (map to_came (own_received Request (w r))) f i) in
      record {
        here = λ a i. (received_link r h a (inside a i)).0;
        size = λ a i. (received_link r h a (inside a i)).1;
        once = Distinct_left (map link_of (before_start (w r))) (map link_of f.0)
            (subst Distinct (map-append link_of (before_start (w r)) f.0) (subst (λ v. Distinct (map link_of v)) (sym f.1) (all_once r h)));
      }

  pub simulation : (r : ℕ) → r < p.ranks → SimulatesRun p inputs slots r [] nothing_seen (w r)
  simulation r h =
      simulates_run p inputs sound starts slots r h (w r) [] nothing_seen (λ d i. length-initial p inputs sound fit d i) refl
      (nothing_raised p r r) (early_lie r h)
      (subst (λ v. Legal (start_of p (slots r) r) false v (w r)) (prepared p inputs (slots r) r slots (length inputs) sound)
      (cut.legal r h)) (conforms r h)

  pub sent_requests : (s d : ℕ) → s < p.ranks → sent_by (system_of p inputs slots) w s d Request ≡ map (as_message p (slots s))
      (filter (goes_to p d) (outs p inputs nothing_seen (moves_at p w s)))
  sent_requests s d h = ap (λ v. filter (is_for d Request) (made (start_of p (slots s) s) v (w s)))
      (prepared p inputs (slots s) s slots (length inputs) sound) ∙ ap (filter (is_for d Request)) (simulation s h).makes_them
      ∙ run_requests p inputs (slots s) s d (w s) [] nothing_seen

  got_own : (r s : ℕ) (m : Sent) → r < p.ranks → In m (got (w r) s Request) → is_stray m ≡ false →
      In m (sent_by (system_of p inputs slots) w s r Request)
  got_own r s m h i e = prefix-In m (got_by w r s Request) (sent_by (system_of p inputs slots) w s r Request)
      (cut.lanes s r Request (sender r s Request m h i) h) (In-owned m (got (w r) s Request) i e)

  -- what came was sent, with its bytes
  pub came_out : (r s : ℕ) (m : Sent) → r < p.ranks → In m (got (w r) s Request) → is_stray m ≡ false →
      In (to_came m) (outs p inputs nothing_seen (moves_at p w s))
  came_out r s m h i e =
      let k = sender r s Request m h i in
      let o = subst (λ v. In m v) (sent_requests s r k) (got_own r s m h i e) in
      let q = In-map_cases (as_message p (slots s)) m (filter (goes_to p r) (outs p inputs nothing_seen (moves_at p w s))) o in
      let f = In-filter_cases (goes_to p r) q.0 (outs p inputs nothing_seen (moves_at p w s)) q.1 in
      subst (λ v. In v (outs p inputs nothing_seen (moves_at p w s))) (ap to_came q.2) f.0

  pub came_all : (r : ℕ) → (all_seen p (moves_at p w) r).came ≡ (if has_start (w r) then map to_came (own_received Request (w r)) else [])
  came_all r = run_came p r (w r) [] nothing_seen

  came_in : (r : ℕ) (a : Came) → In a (all_seen p (moves_at p w) r).came → In a (map to_came (own_received Request (w r)))
  came_in r a i = at (has_start (w r)) (subst (λ v. In a v) (came_all r) i)
    where
      at : (b : Bool) → In a (cond b (map to_came (own_received Request (w r))) []) → In a (map to_came (own_received Request (w r)))
      at true i = i
      at false i = absurd i

  came_once : (r : ℕ) → r < p.ranks → Distinct (map link_of (all_seen p (moves_at p w) r).came)
  came_once r h = subst (λ v. Distinct (map link_of v)) (sym (came_all r)) (at (has_start (w r)))
    where
      at : (b : Bool) → Distinct (map link_of (cond b (map to_came (own_received Request (w r))) []))
      at true = all_once r h
      at false = tt

  pub machine_cut : IsMachineCut p inputs (moves_at p w)
  machine_cut = record {
    moves = λ r h. (simulation r h).moves;
    proper = λ r h. record {
      links = λ a i. (let k = (received_link r h a (came_in r a i)).0 in (k.known, k.sends, k.here));
      once = came_once r h;
    };
    made = λ r a h i. out_facts r h a (came_in r a i);
  }
    where
      out_facts : (r : ℕ) → r < p.ranks → (a : Came) → In a (map to_came (own_received Request (w r))) →
          In a (outs p inputs nothing_seen (moves_at p w (source_rank p a.link)))
      out_facts r h a i =
          let q = In-map_cases to_came a (own_received Request (w r)) i in
          let g = own_received-got Request (w r) q.0 q.1 in
          let o = came_out r g.from q.0 h g.got_it g.clean in
          let n : source_rank p a.link ≡ g.from = ap (source_rank p) (sym (ap link_of q.2)) ∙ source_of r g.from q.0 h g.got_it g.clean in
          subst (λ v. In a (outs p inputs nothing_seen (moves_at p w v))) (sym n)
          (subst (λ v. In v (outs p inputs nothing_seen (moves_at p w g.from))) q.2 o)

  -- what answers were sent
  pub answers_rem : p.remote ≡ true → (s d : ℕ) → s < p.ranks → sent_by (system_of p inputs slots) w s d Answer ≡ map ack
      (filter (came_from d) (own_received Request (w s)))
  answers_rem rem s d h =
      ap (λ v. filter (is_for d Answer) (made (start_of p (slots s) s) v (w s))) (prepared p inputs (slots s) s slots (length inputs) sound)
      ∙ ap (filter (is_for d Answer)) (simulation s h).makes_them
      ∙ run_answers_remote p inputs (slots s) s d rem (w s) [] nothing_seen

  pub answers_loc : p.remote ≡ false → (s d : ℕ) → s < p.ranks → sent_by (system_of p inputs slots) w s d Answer ≡ []
  answers_loc rem s d h =
      ap (λ v. filter (is_for d Answer) (made (start_of p (slots s) s) v (w s))) (prepared p inputs (slots s) s slots (length inputs) sound)
      ∙ ap (filter (is_for d Answer)) (simulation s h).makes_them
      ∙ run_answers_local p inputs (slots s) s d rem (w s) [] nothing_seen
