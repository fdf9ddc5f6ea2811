-- In a legal history that begins with the plan's operations a lane carries at most the plan's messages, whatever is received.
use Rattle.std.proofs.Common.{ℕ, Bool, true, false, cond, not, ◌==◌, ◌+◌, ◌≡◌, ◌≤◌, List, [], ◌∷◌, refl, length, ap, ◌∙◌, sym, subst, inl}
use Rattle.std.proofs.Common.{inr, arith, map, filter, drop, Option, Some, None, eqb-true, eq-eqb, sum_by, zero-le}
use Rattle.std.proofs.lemmas.Bool.{and_from, and_parts, not-true}
use Rattle.std.proofs.lemmas.List.{length-take}
use Rattle.std.proofs.lemmas.List.Sums.{sum_by-cons}
use Rattle.ptl_types.specs.declared.headers.Header.{Header}
use Rattle.ptl_types.specs.Messages.{Sent}
use Rattle.ptl_types.specs.Elements.{part}
use Rattle.ptl_types.specs.Kinds.{is_answer}
use Rattle.ptl_types.specs.declared.headers.Lane.TheVariants.{Request}
use Rattle.ptl_types.specs.declared.elements.AtomicOp.{AtomicOp}
use Rattle.ptl_types.specs.declared.calls.TriggeredOp.TheVariants.{Inc as IncAction}
use Rattle.ni_model.specs.declared.Bound.{Bound}
use Rattle.ni_model.specs.Counts.{successes}
use Rattle.ni_model.specs.Ready.{done, fired, fired_op, is_number, posted_at}
use Rattle.ni_model.specs.Starts.{bytes_at, started}
use Rattle.ni_model.specs.State.{Posted, State}
use Rattle.ni_model.specs.Tables.{lookup}
use Rattle.plan_core.specs.Members.{Distinct, In, Within}
use Rattle.plan_core.specs.Plan.{Plan, all_links, cell, is_bump, link}
use Rattle.plan_core.proofs.Links.{In-from_to, out_links-In}
use Rattle.plan_core.proofs.Lists.{In-filter, In-filter_cases, In-map_cases, length-Within, length-map'}
use Rattle.cuts.proofs.machine.RankOps.{rank_ops-along}
use Rattle.plan_core.specs.calls.RankOps.{RankOp, rank_ops}
use Rattle.plan_core.specs.calls.RankOps.RankOp.{ForLink, ForDone}
use Rattle.cuts.proofs.view.Tables.{find-In}
use Rattle.cuts.specs.view.Slots.{Slots, cell_ct, the_md}
use Rattle.cuts.specs.view.TriggeredOps.{operation, send_action}
use Rattle.cuts.specs.histories.History.{Beginning, Legal, Local, after, and_then, is_for, made, made_by}
use Rattle.cuts.specs.histories.History.Local.{Fire, Receive, Start}
use Rattle.cuts.proofs.histories.Origin.{FromLink, IsOf, after_of, made_from, reply-answer, some_one, target_answers, answer_kind, without}
use Rattle.cuts.proofs.histories.Origin.{send_link}
use Rattle.cuts.proofs.histories.SentOnce.{sent_once}
use Rattle.cuts.proofs.histories.Traffic.{number_in}
use Rattle.cuts.specs.histories.Lanes.{bytes_in}
use Rattle.plan_core.specs.calls.Lanes.{goes_along, lane_bytes, lane_links}
use Rattle.cuts.proofs.start.Areas.{sum-Within}

-- ---- a firing sends no more than its link carries
part-short : (at n : ℕ) (xs : List ℕ) → length (part at n xs) ≤ n
part-short at n xs = let q = length-take n (drop at xs) in omega (arith, q)

read-short : (o : Option Bound) (at n : ℕ) (xs : List ℕ) → length (bytes_at o at n xs) ≤ n
read-short None at n xs = zero-le
read-short (Some b) at n xs = part-short (b.md.start + at) n xs

send_short : (p : Plan) (s : Slots) (l : ℕ) (v : State) (m : Sent) (o : Option AtomicOp) → (done v (send_action p s l o)).message ≡ Some m →
    length m.bytes ≤ (link p l).length
unfolding started
send_short p s l v m None i = subst (λ (x : Sent). length x.bytes ≤ (link p l).length) (some_one i)
    (read-short (lookup (the_md s) v.mds.live) _ (link p l).length v.memory)
send_short p s l v m (Some o) i = subst (λ (x : Sent). length x.bytes ≤ (link p l).length) (some_one i)
    (read-short (lookup (the_md s) v.mds.live) _ (link p l).length v.memory)

work_short : (p : Plan) (s : Slots) (r : ℕ) (v : State) (m : Sent) → v.rank ≡ r → (w : RankOp) → In w (rank_ops p r) →
    (done v (operation p s r w).action).message ≡ Some m → length m.bytes ≤ (link p (number_in m)).length
work_short p s r v m e (ForDone c) h i = cc
work_short p s r v m e (ForLink l) h i = at (is_bump (link p l).kind) i
  where
    at : (b : Bool) → (done v (cond b (IncAction (cell_ct p s (link p l).target) (successes 1))
        (send_action p s l (cell p (link p l).target).op))).message ≡ Some m → length m.bytes ≤ (link p (number_in m)).length
    at true i = cc
    at false i =
        let hd = send_link p s r l v m (cell p (link p l).target).op refl (e ∙ sym (out_links-In p r l (rank_ops-along p r l h)).1) i in
        subst (λ n. length m.bytes ≤ (link p n).length) (sym (ap (λ (x : Header). x.hdr_data) hd))
        (send_short p s l v m (cell p (link p l).target).op i)

fired_short : (p : Plan) (s : Slots) (r t : ℕ) (v : State) (m : Sent) → IsOf p s r v → (fired v t).message ≡ Some m →
    length m.bytes ≤ (link p (number_in m)).length
unfolding fired
fired_short p s r t v m h e = at (posted_at t v.pending) refl e
  where
    at : (o : Option Posted) → posted_at t v.pending ≡ o → (fired_op v o).message ≡ Some m → length m.bytes ≤ (link p (number_in m)).length
    at None q e = cc
    at (Some x) q e =
        let i = h.pending x (find-In (is_number t) v.pending.waiting x q).0 in
        let k = In-map_cases (operation p s r) x (rank_ops p r) i in
        work_short p s r (without x.number v) m h.rank k.0 k.1
        (subst (λ (y : Posted). (done (without x.number v) y.action).message ≡ Some m) (sym k.2) e)

made_short : (p : Plan) (s : Slots) (r : ℕ) (go : Beginning) (es : List Local) (v : State) (m : Sent) → IsOf p s r v →
    In m (made go v es) → is_answer m.header.kind ≡ false → length m.bytes ≤ (link p (number_in m)).length
made_short p s r go [] v m h i a = absurd i
made_short p s r go (e ∷ es) v m h i a = at (made_by v e) refl i (λ j. made_short p s r go es (after go v e) m (after_of p s r go v e h) j
    a)
  where
    both : {b : Bool} → b ≡ true → b ≡ false → ⊥
    both e i = cc

    now : (e : Local) (x : Sent) → made_by v e ≡ Some x → x ≡ m → length m.bytes ≤ (link p (number_in m)).length
    now Start x q f = cc
    now (Fire t) x q f = fired_short p s r t v m h (q ∙ ap Some f)
    now (Receive source lane y) x q f = let z = (target_answers v y m (q ∙ ap Some f)).1 in
        absurd (both (answer_kind z.ok z.length z.bytes y.header m z.is) a)

    at : (o : Option Sent) → made_by v e ≡ o → In m (and_then o (made go (after go v e) es)) →
        (In m (made go (after go v e) es) → length m.bytes ≤ (link p (number_in m)).length) → length m.bytes ≤ (link p (number_in m)).length
    at None q i rest = rest i
    at (Some x) q (inl f) rest = now e x q f
    at (Some x) q (inr i) rest = rest i

-- ---- the lane
module _ (p : Plan) (s : Slots) (r : ℕ) (go : Beginning) (es : List Local) (b : Bool) (v : State) (h : IsOf p s r v)
    (legal : Legal go b v es) (d : ℕ) where
  abbrev on_lane : List Sent
  on_lane = filter (is_for d Request) (made go v es)

  request_for : (m : Sent) → In m on_lane → In m (made go v es) × (m.header.target ≡ d) × (is_answer m.header.kind ≡ false)
  request_for m i =
      let q = In-filter_cases (is_for d Request) m (made go v es) i in
      let k = and_parts (m.header.target == d) (not (is_answer m.header.kind)) q.1 in
      (q.0, eqb-true _ _ k.0, not-true (is_answer m.header.kind) k.1)

  along : (m : Sent) → In m on_lane → In (number_in m) (lane_links p r d)
  along m i = elim (made_from p s r go es v m h (request_for m i).0) [
    | inl f ↦ link_here f
    | inr a ↦ absurd (both (reply-answer es m a) (request_for m i).2)
  ]
    where
      both : {b : Bool} → b ≡ true → b ≡ false → ⊥
      both e i = cc

      link_here : FromLink p s r m → In (number_in m) (lane_links p r d)
      link_here f =
          let q = out_links-In p r f.l f.out in
          let n : number_in m ≡ f.l = ap (λ (x : Header). x.hdr_data) f.header in
          let t : (cell p (link p f.l).target).rank ≡ d = sym (ap (λ (x : Header). x.target) f.header) ∙ (request_for m i).1 in
          subst (λ l. In l (lane_links p r d)) (sym n)
          (In-filter (goes_along p r d) f.l (all_links p) (In-from_to 0 (length p.links) f.l zero-le (let k = q.0 in omega arith))
          (and_from _ _ (ap not f.sends) (and_from _ _ (eq-eqb _ _ q.1) (eq-eqb _ _ t))))

  once : Distinct (map number_in on_lane)
  once = sent_once p s r go es b v h legal d

  within : Within (map number_in on_lane) (lane_links p r d)
  within l i = let q = In-map_cases number_in l on_lane i in subst (λ n. In n (lane_links p r d)) q.2 (along q.0 q.1)

  pub few_messages : length on_lane ≤ length (lane_links p r d)
  few_messages = subst (λ n. n ≤ length (lane_links p r d)) (length-map' number_in on_lane)
      (length-Within (map number_in on_lane) (lane_links p r d) once within)

  pub few_bytes : bytes_in on_lane ≤ lane_bytes p r d
  few_bytes = let a = short on_lane (λ m i. i) in let w = sum-Within (λ l. (link p l).length) (map number_in on_lane) (lane_links p r d)
      once within in omega (arith, a, w)
    where
      short : (ms : List Sent) → ((m : Sent) → In m ms → In m on_lane) → bytes_in ms ≤ sum_by (λ l. (link p l).length) (map number_in ms)
      short [] sub = zero-le
      short (m ∷ ms) sub =
          let q = request_for m (sub m (inl refl)) in
          let one = made_short p s r go es v m h q.0 q.2 in
          let rest = short ms (λ x i. sub x (inr i)) in
          let x = sum_by-cons (λ (m : Sent). length m.bytes) m ms in
          let y = sum_by-cons (λ l. (link p l).length) (number_in m) (map number_in ms) in
          omega (arith, one, rest, x, y)
