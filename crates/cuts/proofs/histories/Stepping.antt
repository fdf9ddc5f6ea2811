-- The steps of a rank's interface: before its start, the start, and after it.
use Rattle.std.proofs.Common.{if◌then◌else◌, ℕ, true, false, cond, ◌+◌, ◌*◌, ◌/◌, ◌%◌, ◌^◌, ◌≡◌, ◌≤◌, ◌<◌, List, [], ◌∷◌, ◌++◌, refl}
use Rattle.std.proofs.Common.{length, ap, ap₂, ◌∙◌, sym, subst, inl, inr, arith, map, find, flat_map, Option, Some, None, append_assoc}
use Rattle.std.proofs.Common.{◌==◌, suc, zero}
use Rattle.std.proofs.lemmas.Bool.{and_parts, and_left, eqb-false, false_from_ne_true, ne_eqb}
use Rattle.std.proofs.lemmas.List.{map-append}
use Rattle.ni_model.specs.Answers.{is_due, Returned, answered}
use Rattle.ni_model.specs.Arrive.{judged, request, ack_header, reply_header}
use Rattle.ni_model.specs.Lists.{fits, Index}
use Rattle.ni_model.specs.Ready.{Fires, done, fired, fired_op, fires, posted_at, without_number}
use Rattle.ni_model.specs.State.{Delivers, Posted, State, home_of, target, after_answer, after_request, delivers, parts_of}
use Rattle.ni_model.specs.declared.Linked.{Linked}
use Rattle.op_laws.specs.Combining.{CombineStarts}
use Rattle.ni_model.specs.Counts.{successes}
use Rattle.ni_model.specs.Headers.{UnexpectedList}
use Rattle.ni_model.specs.Refusals.{ct_inc_fault}
use Rattle.ptl_types.specs.Messages.{message, Sent}
use Rattle.ptl_types.specs.declared.calls.Outcome.TheVariants.{Answered, Dropped}
use Rattle.ptl_types.specs.declared.calls.TriggeredOp.{TriggeredOp}
use Rattle.ptl_types.specs.declared.calls.TriggeredOp.TheVariants.{Put as PutAction, Get as GetAction, Atomic as AtomicAction}
use Rattle.ptl_types.specs.declared.calls.TriggeredOp.TheVariants.{FetchAtomic as FetchAtomicAction, Swap as SwapAction, Inc as IncAction}
use Rattle.ptl_types.specs.declared.calls.TriggeredOp.TheVariants.{Set as SetAction}
use Rattle.plan_core.proofs.Lists.{length-map', Distinct_left, In-append_left, In-append_right, In-map_cases}
use Rattle.plan_core.specs.Plan.{from_to, own, Plan, link}
use Rattle.cuts.proofs.start.Starting.{length-from_to, IsEarly, start_is}
use Rattle.plan_core.specs.calls.Areas.{has_class, links_to, longest_to, area_length, area_start, classes, link_class, region_length}
use Rattle.cuts.specs.histories.Plans.{start_of}
use Rattle.plan_core.specs.calls.Calls.{own_cell}
use Rattle.cuts.specs.start.Start.{AreAccepted, cells_started}
use Rattle.cuts.specs.view.Slots.{counter_at, Slots}
use Rattle.cuts.proofs.view.StepArrive.{one-index, delivered-pair, more-min, none-chosen, part-place, put-no-answer, step_ack}
use Rattle.cuts.specs.view.View.{md_of, view}
use Rattle.cuts.specs.machine.Seen.{reached_count, Came, Seen}
use Rattle.std.proofs.lemmas.List.Sums.{count_by-le-length, length-filter}
use Rattle.plan_core.proofs.Flat.{part-append_right, part_parts, within_flat}
use Rattle.plan_core.specs.Members.{Distinct, In}
use Rattle.plan_core.specs.Places.{start_by}
use Rattle.plan_core.specs.Sound.{SoundPlan}
use Rattle.plan_core.specs.Values.{Inputs}
use Rattle.cuts.proofs.histories.Simulate.{stray-parts}
use Rattle.cuts.specs.histories.Cut.{is_stray}
use Rattle.cuts.proofs.start.Areas.{MayLie, area-part, classes-small, filled-fits, filled-push, length-area, link-class}
use Rattle.cuts.specs.start.Waiting.{Early, annex_of, area, area_linked, early_all, early_came, early_from, early_of, filled, waiting_view}
use Rattle.cuts.specs.start.Waiting.{stored}
use Rattle.cuts.specs.machine.Machine.{link_of, note, note_work, seen}
use Rattle.cuts.specs.machine.Machine.Move.{Began, Heard, Strayed, Took}
use Rattle.plan_core.specs.calls.RankOps.{RankOp}
use Rattle.cuts.proofs.view.MatchBits.{top_bits, top_match-true}
use Rattle.cuts.proofs.view.StepFire.{IsReady, step_fire}
use Rattle.cuts.proofs.view.Tables.{find-none}
use Rattle.plan_core.specs.calls.Bits.{bits_above}
use Rattle.cuts.specs.view.Steps.{IsAckHere, IsQuiet, Sized, sent_message}
use Rattle.ptl_types.specs.Elements.{part}
use Rattle.ptl_types.specs.Handles.{top}
use Rattle.ptl_types.specs.Kinds.{is_answer}
use Rattle.ptl_types.specs.Matching.{is_match}

-- ---- a step that looks at no entry and no header
abbrev pub framed : State → List (Option Index) → UnexpectedList → ℕ → State
framed v is hs n = record v { indices = is; headers = hs; entries_given = n }

abbrev pub framed_delivers : Delivers → List (Option Index) → UnexpectedList → ℕ → Delivers
framed_delivers d is hs n = delivers (framed d.state is hs n) d.delivered.outcome d.delivered.answer

abbrev pub framed_fires : Fires → List (Option Index) → UnexpectedList → ℕ → Fires
framed_fires d is hs n = fires (framed d.state is hs n) d.message

pub answer_framed : (v : State) (is : List (Option Index)) (hs : UnexpectedList) (n : ℕ) (m : Sent) → is_answer m.header.kind ≡ true →
    target (framed v is hs n) m ≡ framed_delivers (target v m) is hs n
unfolding target
answer_framed v is hs n m e =
    ap (λ b. cond b (after_answer (framed v is hs n) (answered (home_of v) m))
    (after_request (framed v is hs n) (request (parts_of (framed v is hs n)) m))) e
    ∙ told (answered (home_of v) m)
    ∙ ap (λ b. framed_delivers (cond b (after_answer v (answered (home_of v) m)) (after_request v (request (parts_of v) m))) is hs n)
    (sym e)
  where
    told : (r : Returned) → after_answer (framed v is hs n) r ≡ framed_delivers (after_answer v r) is hs n
    told r = refl

done_framed : (v : State) (is : List (Option Index)) (hs : UnexpectedList) (n : ℕ) (d : TriggeredOp) →
    done (framed v is hs n) d ≡ framed_fires (done v d) is hs n
done_framed v is hs n (PutAction a) = refl
done_framed v is hs n (GetAction g) = refl
done_framed v is hs n (AtomicAction a o t) = refl
done_framed v is hs n (FetchAtomicAction g a o t) = refl
done_framed v is hs n (SwapAction g a w t x) = refl
done_framed v is hs n (IncAction c b) = refl
done_framed v is hs n (SetAction c t) = refl

pub fire_framed : (v : State) (is : List (Option Index)) (hs : UnexpectedList) (n : ℕ) (t : ℕ) →
    fired (framed v is hs n) t ≡ framed_fires (fired v t) is hs n
unfolding fired
fire_framed v is hs n t = at (posted_at t v.pending)
  where
    at : (o : Option Posted) → fired_op (framed v is hs n) o ≡ framed_fires (fired_op v o) is hs n
    at None = refl
    at (Some q) = done_framed (record v { pending = without_number q.number v.pending }) is hs n q.action

-- ---- messages that may lie: those in front
pub lie-front : (p : Plan) (r : ℕ) (front later : List Came) → MayLie p r (front ++ later) → MayLie p r front
lie-front p r front later h = record {
  here = λ a i. h.here a (In-append_left a front later i);
  size = λ a i. h.size a (In-append_left a front later i);
  once = Distinct_left (map link_of front) (map link_of later) (subst Distinct (map-append link_of front later) h.once);
}

pub came-early_from : (p : Plan) (s : Slots) (r : ℕ) (senders : ℕ → Slots) (front xs : List Came) →
    map early_came (early_from p s r senders front xs) ≡ xs
came-early_from p s r senders front [] = refl
came-early_from p s r senders front (a ∷ xs) = ap (λ v. a ∷ v) (came-early_from p s r senders (front ++ a ∷ []) xs)

module _ (p : Plan) (inputs : Inputs) (sound : SoundPlan p (length inputs)) (s : Slots) (r : ℕ) (senders : ℕ → Slots) where
  -- ---- the annex is quiet
  pub annex-quiet : (early : List Came) → IsQuiet (annex_of p s r early)
  annex-quiet early = record {
    ours = λ x i m e. let q = In-map_cases (area_linked p s r early) x (classes p r) i in
        subst (λ (y : Linked). is_match y.entry m ≡ false) q.2
        (false_from_ne_true _ (λ t. eqb-false _ _ e (job_of m.match_bits q.0 (classes-small p inputs sound r q.0 q.1)
        (top_match-true _ _ (and_parts _ _ t).0))));
  }
    where
      job_of : (b k : ℕ) → k < 81 → top_bits b ≡ top_bits (bits_above k 0 * 2 ^ 16) → b / 2 ^ 48 % 2 ^ 16 ≡ 1
      job_of b k h q = omega arith

  -- ---- what lies where
  lies_at : (front : List Came) (a : Came) (later : List Came) → MayLie p r (front ++ a ∷ later) → (cells : List ℕ) →
      length cells ≡ region_length p r
      → part (early_of p s r senders front a).place (link p a.link).length (cells ++ (annex_of p s r (front ++ a ∷ later)).tail) ≡ stored
      p a
  lies_at front a later h cells e =
      let total = front ++ a ∷ later in
      let n = (link p a.link).length in
      let k = link_class p a.link in
      let here = h.here a (In-append_right a front (a ∷ later) (inl refl)) in
      let in_k = link-class p inputs sound r a.link here in
      let base = start_by (area_length p r) (classes p r) (link_class p a.link) in
      let off = filled p (link_class p a.link) front in
      let tail = flat_map (area p r (front ++ a ∷ later)) (classes p r) in
      let lens : (j : ℕ) → In j (classes p r) → length (area p r (front ++ a ∷ later) j) ≡ area_length p r j =
      (λ j i. length-area p inputs sound r j (front ++ a ∷ later) h) in
      let hf = lie-front p r front (a ∷ later) h in
      let h1 = lie-front p r (front ++ a ∷ []) later (subst (MayLie p r) (sym (append_assoc front (a ∷ []) later)) h) in
      let room = filled-fits p inputs sound r (link_class p a.link) (front ++ a ∷ []) h1 in
      let push = filled-push p inputs sound r (link_class p a.link) front a refl in
      let inside = within_flat (area_length p r) (area p r (front ++ a ∷ later)) (classes p r) lens (link_class p a.link) in_k in
      let fit : off + n ≤ area_length p r (link_class p a.link) = omega (arith, room, push) in
      let sum : area_start p r (link_class p a.link) + off ≡ region_length p r + (base + off) = omega arith in
      part-place n (area_start p r (link_class p a.link) + off) (cells ++ tail)
      ∙ ap (λ v. part v n (cells ++ tail)) sum
      ∙ part-append_right (base + off) (region_length p r) n cells tail (sym e) (omega (arith, inside, fit))
      ∙ part_parts (area_length p r) (area p r (front ++ a ∷ later)) (classes p r) lens (link_class p a.link) off n in_k fit
      ∙ area-part p inputs sound r (link_class p a.link) front a later h hf refl

  -- its place lies in the areas
  lies_inside : (front : List Came) (a : Came) (later : List Came) → MayLie p r (front ++ a ∷ later) →
      (early_of p s r senders front a).place + (link p a.link).length ≤ region_length p r + length
      (annex_of p s r (front ++ a ∷ later)).tail
  lies_inside front a later h =
      let n = (link p a.link).length in
      let here = h.here a (In-append_right a front (a ∷ later) (inl refl)) in
      let in_k = link-class p inputs sound r a.link here in
      let base = start_by (area_length p r) (classes p r) (link_class p a.link) in
      let off = filled p (link_class p a.link) front in
      let lens : (j : ℕ) → In j (classes p r) → length (area p r (front ++ a ∷ later) j) ≡ area_length p r j =
      (λ j i. length-area p inputs sound r j (front ++ a ∷ later) h) in
      let h1 = lie-front p r (front ++ a ∷ []) later (subst (MayLie p r) (sym (append_assoc front (a ∷ []) later)) h) in
      let room = filled-fits p inputs sound r (link_class p a.link) (front ++ a ∷ []) h1 in
      let push = filled-push p inputs sound r (link_class p a.link) front a refl in
      let inside = within_flat (area_length p r) (area p r (front ++ a ∷ later)) (classes p r) lens (link_class p a.link) in_k in
      place_fits (link p a.link).length (area_start p r (link_class p a.link) + filled p (link_class p a.link) front)
      (region_length p r + length (flat_map (area p r (front ++ a ∷ later)) (classes p r))) (omega (arith, room, push, inside))
    where
      place_fits : (n q m : ℕ) → q + n ≤ m → (if n == 0 then 0 else q) + n ≤ m
      place_fits zero q m h = omega arith
      place_fits (suc n) q m h = let z : (suc n == 0) ≡ false = ne_eqb (suc n) 0 (λ i. absurd (omega arith)) in
          subst (λ b. (if b then 0 else q) + suc n ≤ m) (sym z) h

  pub early_facts : (front later : List Came) → MayLie p r (front ++ later) → (x : Early) → In x (early_from p s r senders front later) →
      IsEarly (annex_of p s r (front ++ later)) p r x
  early_facts front [] h x i = absurd i
  early_facts front (a ∷ later) h x (inl e) =
      let at_a = In-append_right a front (a ∷ later) (inl refl) in
      subst (IsEarly (annex_of p s r (front ++ a ∷ later)) p r) e
      (record {
        here = h.here a at_a;
        size = h.size a at_a;
        lies = λ cells q. lies_at front a later h cells q;
        inside =
            lies_inside front a later h;
      })
  early_facts front (a ∷ later) h x (inr i) =
      let q = append_assoc front (a ∷ []) later in
      subst (λ v. IsEarly (annex_of p s r v) p r x) q (early_facts (front ++ a ∷ []) later (subst (MayLie p r) (sym q) h) x i)

  -- ---- the start
  few_areas : (early : List Came) → length (annex_of p s r early).before ≤ 81
  few_areas early =
      let a = length-map' (area_linked p s r early) (classes p r) in
      let f = length-filter (λ k. has_class p k (links_to p r)) (from_to 0 81) in
      let g = count_by-le-length (λ k. has_class p k (links_to p r)) (from_to 0 81) in
      let k = length-from_to 0 81 in
      omega (arith, a, f, g, k)

  -- what a start does to the interface to which these messages came
  pub record Starts (early : List Came) (g : Seen) : Type 0 where
    pub appends : AreAccepted (longest_to p r) s (own p r) (map (own_cell p r) (own p r)) (waiting_view p inputs s r senders early g)
    pub raises : ct_inc_fault (counter_at s (own p r) r) (successes 1)
        (cells_started (longest_to p r) s (own p r) (map (own_cell p r) (own p r)) (waiting_view p inputs s r senders early g)).cts ≡ None
    pub next : (start_of p s r).by (waiting_view p inputs s r senders early g) ≡ view (annex_of p s r early) p inputs s r
        (seen p g (Began ∷ map (λ a. Took a.link a.bytes) early))

  pub step_run_start : CombineStarts → r < p.ranks → (early : List Came) → MayLie p r early → (g : Seen) → Sized p inputs g →
      g.started ≡ false → reached_count p g r r ≡ 0 → Starts early g
  step_run_start starts in_range early h g sized fresh unraised =
      let all = start_is starts (annex_of p s r early) p inputs sound s r (few_areas early) in_range (early_all p s r senders early)
      (λ x i. early_facts [] early h x i) g sized fresh unraised in
      record {
        appends = all.appends;
        raises = all.raises;
        next = all.next ∙ ap (λ cs. view (annex_of p s r early) p inputs s r (seen p g (Began ∷ map (λ a. Took a.link a.bytes) cs)))
            (came-early_from p s r senders [] early);
      }

  -- ---- before the start
  pub waiting_fire : (early : List Came) (g : Seen) (t : ℕ) (w : RankOp) → Sized p inputs g →
      IsReady (annex_of p s r early) p inputs s r g t w
      → fired (waiting_view p inputs s r senders early g) t ≡ fires (waiting_view p inputs s r senders early (note_work p g w))
      (sent_message p inputs s g w)
  waiting_fire early g t w sized h =
      let v = view (annex_of p s r early) p inputs s r g in
      let u = waiting_view p inputs s r senders early g in
      fire_framed v u.indices u.headers u.entries_given t
      ∙ ap (λ f. framed_fires f u.indices u.headers u.entries_given) (step_fire (annex_of p s r early) p inputs sound s r g t w sized h)

  pub waiting_ack : (early : List Came) (g : Seen) (m : Sent) → IsAckHere s m →
      is_due m.header (md_of (annex_of p s r early) p s r g.awaits) ≡ true
      → target (waiting_view p inputs s r senders early g) m ≡ delivers
      (waiting_view p inputs s r senders early (note p g (Heard m.header.ok))) Answered None
  waiting_ack early g m h due =
      let v = view (annex_of p s r early) p inputs s r g in
      let u = waiting_view p inputs s r senders early g in
      answer_framed v u.indices u.headers u.entries_given m (ap is_answer h.kind)
      ∙ ap (λ d. framed_delivers d u.indices u.headers u.entries_given) (step_ack (annex_of p s r early) p inputs s r g m h due)

  pub waiting_stray : (early : List Came) (g : Seen) (m : Sent) → is_stray m ≡ true
      → target (waiting_view p inputs s r senders early g) m ≡ delivers (waiting_view p inputs s r senders early (note p g Strayed))
      Dropped None
  unfolding target request answered
  waiting_stray early g m e =
      let q = stray-parts m e in
      let u = waiting_view p inputs s r senders early g in
      let none : find (fits m.header) (annex_of p s r early).before ≡ None = find-none (fits m.header) (annex_of p s r early).before
      (λ x i. and_left _ _ ((annex-quiet early).ours x i m.header q.2)) in
      ap (λ b. cond b (after_answer u (answered (home_of u) m)) (after_request u (request (parts_of u) m)))
      (put-no-answer m.header.kind q.0)
      ∙ ap (λ f. after_request u (judged (parts_of u) m f))
      (one-index m.header _ m.header.pt (none-chosen m.header
      (record { eq = None; priority = []; overflow = (annex_of p s r early).before }) refl none))
      ∙ delivered-pair _ _ Dropped _ _
      (ap (λ n. record (waiting_view p inputs s r senders early g) { drops = n }) (more-min g.strays top))
      (ap₂ (λ t a. if t then (if a then None else Some (message (ack_header false 0 m.header) [])) else Some
      (message (reply_header false 0 m.header) [])) q.0 q.1)
