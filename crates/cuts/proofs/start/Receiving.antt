-- A message of a link that comes to an interface before its start lies in its class's area.
use Rattle.std.proofs.Common.{if◌then◌else◌, ℕ, suc, true, false, cond, ◌+◌, ◌-◌, ◌*◌, ◌^◌, ◌≡◌, ◌≤◌, ◌<◌, ◌⊎◌, ◌==◌, nat_le, nat_lt, List}
use Rattle.std.proofs.Common.{[], ◌∷◌, ◌++◌, refl, length, ap, ap₂, ◌∙◌, sym, subst, inl, inr, arith, map, flat_map, Option, Some, None}
use Rattle.std.proofs.Common.{eqb-true, eq-eqb, append-nil, append_assoc, sum_by, length-append, take, take_all, le-leb}
use Rattle.std.proofs.lemmas.Bool.{ne_eqb, and_from, and_parts, cases_eq, false_from_ne_true, leb-true}
use Rattle.ni_model.specs.Arrive.{accepted, chosen, delivered, entries_after, headers_after, judged, memory_after, new_bytes, old_bytes}
use Rattle.ni_model.specs.Arrive.{place, refused, request, running_after, as_found, events_after, is_over, received}
use Rattle.ni_model.specs.Headers.{allows, UnexpectedList, unexpected_list}
use Rattle.ni_model.specs.Lists.{advance_one, fits, unlinked}
use Rattle.ni_model.specs.State.{State, home_of, target, after_answer, after_request, delivers, parts_of}
use Rattle.ni_model.specs.declared.Linked.{Linked}
use Rattle.ni_model.specs.Answers.{answered}
use Rattle.ni_model.specs.Events.{unlink_event}
use Rattle.ni_model.specs.Queues.{Waiting, raised}
use Rattle.ni_model.specs.Tables.{Table}
use Rattle.ni_model.specs.declared.Found.{Found}
use Rattle.ptl_types.specs.Matching.{bits_match}
use Rattle.ptl_types.specs.declared.calls.Outcome.TheVariants.{Dropped, Overflow, Violation}
use Rattle.ptl_types.specs.declared.entries.List.TheVariants.{Overflow as InOverflow}
use Rattle.ptl_types.specs.declared.entries.TheConstants.HiddenEntryEvents as hidden_entry_events
use Rattle.ptl_types.specs.declared.headers.AckRequest.TheVariants.{CtAck}
use Rattle.cuts.proofs.view.StepArrive.{ack_as, writes-for, ack-as, atomic-whole, delivered-pair, header_as, is_put, not_answer, part-place}
use Rattle.cuts.proofs.view.StepArrive.{whole-by, written-place}
use Rattle.std.proofs.lemmas.List.{map-append}
use Rattle.std.specs.Prelude.{Bool}
use Rattle.plan_core.proofs.Flat.{part-append_right, part_parts, within_flat, write_parts, written-append_right}
use Rattle.plan_core.proofs.Links.{own-In}
use Rattle.plan_core.proofs.Lists.{In-append_right, length-map'}
use Rattle.plan_core.specs.Members.{In}
use Rattle.plan_core.specs.Places.{place_in, start_by}
use Rattle.plan_core.specs.Plan.{Plan, cell, link, own}
use Rattle.plan_core.specs.Sound.{SoundPlan}
use Rattle.plan_core.specs.Values.{Inputs, initial}
use Rattle.cuts.proofs.start.Areas.{Distinct-classes, MayLie, area-old, area-push, class-kept, class-small, class_op-of, class_type-of}
use Rattle.cuts.proofs.start.Areas.{classes-small, at_most-early, filled-fits, filled-push, length-area, length-stored, link-class}
use Rattle.cuts.proofs.start.Starting.{flat-length}
use Rattle.plan_core.specs.calls.Areas.{area_length, area_start, blank_area, blank_as, classes, link_class, links_to, region_length}
use Rattle.cuts.specs.start.Waiting.{annex_of, area, area_linked, area_me, arrived_of, early_all, early_from, early_of, filled}
use Rattle.cuts.specs.start.Waiting.{waiting_view, stored, stored_as}
use Rattle.cuts.specs.machine.Machine.{came}
use Rattle.cuts.specs.machine.Seen.{Came, Seen, content}
use Rattle.cuts.proofs.view.MatchBits.{top_bits, top_match-from, top_match-true}
use Rattle.cuts.proofs.view.Tables.{find-one, place_in-one, same_handle-refl}
use Rattle.cuts.specs.view.Slots.{Slots}
use Rattle.cuts.specs.view.TriggeredOps.{ack_of, kind_for, link_header, link_message}
use Rattle.plan_core.specs.calls.Bits.{bits_above, class_of}
use Rattle.cuts.specs.view.View.{view}
use Rattle.cuts.specs.view.Steps.{IsLinkHere, Sized}
use Rattle.ptl_types.specs.Elements.{combined, part, starting, written}
use Rattle.ptl_types.specs.Handles.{same_handle}
use Rattle.ptl_types.specs.declared.elements.AtomicOp.{AtomicOp}
use Rattle.ptl_types.specs.declared.elements.ElemType.{ElemType}

-- ---- match bits: job and class
area_bits : ℕ → ℕ
area_bits k = bits_above k 0 * 2 ^ 16

top-area : (k : ℕ) → k < 81 → top_bits (bits_above k 0 * 2 ^ 16) ≡ 2 ^ 8 + k
top-area k h = omega arith

top-link : (k c s : ℕ) → k < 81 → c < 2 ^ 24 → s < 2 ^ 16 → top_bits (bits_above k c * 2 ^ 16 + s) ≡ 2 ^ 8 + k
top-link k c s h i j = omega arith

less_one : (k m : ℕ) → 2 ^ 8 + k ≡ 2 ^ 8 + m → k ≡ m
less_one k m e = omega arith

module _ (p : Plan) (inputs : Inputs) (sound : SoundPlan p (length inputs)) (s : Slots) (r : ℕ) where
  bits-area : (k : Slots) (l : ℕ) → IsLinkHere p r l → (j : ℕ) → j < 81 → bits_match (2 ^ 40 - 1) (link_header p k l).match_bits
      (bits_above j 0 * 2 ^ 16) ≡ (link_class p l == j)
  bits-area k l h j i = at (cases_eq (link_class p l) j)
    where
      small : link_class p l < 81
      small = class-small (cell p (link p l).target).op (cell p (link p l).target).ty

      top_is : top_bits (link_header p k l).match_bits ≡ 2 ^ 8 + link_class p l
      top_is =
          let w = sound.links_sound l h.known in
          let up = w.rising in
          let t = w.cells in
          let at_most = sound.few_cells in
          let a = sound.ranks_known (link p l).source (omega arith) in
          let b = sound.few_ranks in
          top-link (link_class p l) (link p l).target (cell p (link p l).source).rank small (omega arith) (omega arith)

      at : (link_class p l ≡ j) ⊎ (link_class p l ≡ j → ⊥) → bits_match (2 ^ 40 - 1) (link_header p k l).match_bits
          (bits_above j 0 * 2 ^ 16) ≡ (link_class p l == j)
      at (inl e) = top_match-from _ _ (top_is ∙ ap (λ v. 2 ^ 8 + v) e ∙ sym (top-area j i)) ∙ sym (eq-eqb _ _ e)
      at (inr n) = false_from_ne_true _ (λ m. n (less_one (link_class p l) j (sym top_is ∙ top_match-true _ _ m ∙ top-area j i)))
          ∙ sym (ne_eqb _ _ n)

  -- ---- the overflow entry that it finds
  module _ (early : List Came) (l : ℕ) (bs : List ℕ) (lie : MayLie p r early) (more : MayLie p r (early ++ came l bs ∷ [])) where
    abbrev kl : ℕ
    kl = link_class p l

    abbrev a : Came
    a = came l bs

    at_end : In (came l bs) (early ++ came l bs ∷ [])
    at_end = In-append_right (came l bs) early (came l bs ∷ []) (inl refl)

    here : IsLinkHere p r l
    here = more.here (came l bs) at_end

    size : length bs ≡ (link p l).length
    size = more.size (came l bs) at_end

    room : filled p (link_class p l) early + (link p l).length ≤ area_length p r (link_class p l)
    room = subst (λ n. n ≤ area_length p r (link_class p l)) (filled-push p inputs sound r (link_class p l) early (came l bs) refl)
        (filled-fits p inputs sound r (link_class p l) (early ++ came l bs ∷ []) more)

    fits-area : (k : Slots) (j : ℕ) → In j (classes p r) → fits (link_header p k l) (area_linked p s r early j) ≡ true → j ≡ link_class p l
    fits-area k j i e =
        let m = (and_parts _ _ (and_parts _ _ e).0).0 in
        sym (eqb-true _ _ (sym (bits-area k l here j (classes-small p inputs sound r j i)) ∙ m))

    found-area : (k : Slots) → fits (link_header p k l) (area_linked p s r early (link_class p l)) ≡ true
    found-area k =
        and_from _ _ (and_from _ _ (bits-area k l here (link_class p l)
        (classes-small p inputs sound r (link_class p l) (link-class p inputs sound r l here)) ∙ eq-eqb _ _ refl) refl)
        (le-leb _ _ (let q = room in omega arith))

    abbrev found_area_of : Found
    found_area_of = record { list = InOverflow; linked = area_linked p s r early (link_class p l) }

    chosen-area : (k : Slots) → chosen (link_header p k l) (Some
        (record { eq = None; priority = []; overflow = map (area_linked p s r early) (classes p r) }) ∷ []) ≡ Some found_area_of
    chosen-area k =
        ap₂ (λ b (o : Option Linked). let x : Option Found = if b then as_found InOverflow o else None in x)
        (is_put (cell p (link p l).target).op)
        (find-one (fits (link_header p k l)) (area_linked p s r early) (classes p r) (link_class p l) (link-class p inputs sound r l here)
        (found-area k) (λ j i e. fits-area k j i e))

    delivered-area : (k : Slots) → delivered (area_linked p s r early (link_class p l)) (link_header p k l) ≡ (link p l).length
    delivered-area k = whole-by (cell p (link p l).target).op (cell p (link p l).target).ty (link p l).length
        (filled p (link_class p l) early) (area_length p r (link_class p l)) room (atomic-whole p inputs sound r l here)

    -- ---- memory
    same_new : (k : Slots) (o : Option AtomicOp) (t : ElemType) → (cell p (link p l).target).op ≡ o → (cell p (link p l).target).ty ≡ t
        → new_bytes (kind_for o) (header_as p k l o) (blank_area (class_of o t) (length bs)) bs ≡ stored_as o t bs
    same_new k None t e f = refl
    same_new k (Some v) t e f =
        ap (λ x. combined v (cell p (link p l).target).ty x bs)
        (ap₂ (λ (o : Option AtomicOp) u. blank_as o u (length bs)) (class_op-of (Some v) t) (class_type-of v t))
        ∙ ap (λ u. combined v u (starting v t (length bs)) bs) f

    memory-area : (k : Slots) (g : Seen) → Sized p inputs g
        → memory_after (area_linked p s r early (link_class p l)) (link_message p k l bs)
        (view (annex_of p s r early) p inputs s r g).memory ≡ (view (annex_of p s r (early ++ came l bs ∷ [])) p inputs s r g).memory
    memory-area k g sized =
        let o = (cell p (link p l).target).op in
        let t = (cell p (link p l).target).ty in
        let n = (link p l).length in
        let flat = flat_map (λ d. content p g.came d (initial p inputs d)) (own p r) in
        let tail = flat_map (area p r early) (classes p r) in
        let tail' = flat_map (area p r (early ++ came l bs ∷ [])) (classes p r) in
        let mem = (view (annex_of p s r early) p inputs s r g).memory in
        let base = start_by (area_length p r) (classes p r) (link_class p l) in
        let off = filled p (link_class p l) early in
        let q = area_start p r (link_class p l) + off in
        let fl = flat-length p (λ d. content p g.came d (initial p inputs d)) (own p r) (λ d i. sized d (own-In p r d i).0) in
        let lens : (j : ℕ) → In j (classes p r) → length (area p r early j) ≡ area_length p r j =
        (λ j i. length-area p inputs sound r j early lie) in
        let in_k = link-class p inputs sound r l here in
        let inside = within_flat (area_length p r) (area p r early) (classes p r) lens (link_class p l) in_k in
        let rm = room in
        let sum : q ≡ region_length p r + (base + off) = omega arith in
        let is_old : part (if n == 0 then 0 else q) n mem ≡ blank_area (link_class p l) (length bs) =
        part-place n q mem
        ∙ ap (λ v. part v n mem) sum
        ∙ part-append_right (base + off) (region_length p r) n flat tail (sym fl) (omega arith)
        ∙ part_parts (area_length p r) (area p r early) (classes p r) lens (link_class p l) off n in_k rm
        ∙ area-old p inputs sound r (link_class p l) early (came l bs) more lie here refl
        ∙ ap (blank_area (link_class p l)) (sym size) in
        let new_is : new_bytes (kind_for o) (header_as p k l o) (blank_area (link_class p l) (length bs)) bs ≡ stored p (came l bs) =
        same_new k o t refl refl in
        let new_length = length-stored p inputs sound r (came l bs) here size in
        ap (λ b. cond b (written (place (area_linked p s r early (link_class p l)) (link_header p k l))
        (new_bytes (kind_for o) (link_header p k l) (old_bytes (area_linked p s r early (link_class p l)) (link_header p k l) mem)
        (take (delivered (area_linked p s r early (link_class p l)) (link_header p k l)) bs)) mem) mem) (writes-for o)
        ∙ ap (λ m. written (if m == 0 then 0 else q) (new_bytes (kind_for o) (header_as p k l o) (part (if m == 0 then 0 else q) m mem)
        (take m bs)) mem) (delivered-area k)
        ∙ ap₂ (λ x y. written (if n == 0 then 0 else q) (new_bytes (kind_for o) (header_as p k l o) x y) mem) is_old
        (take_all n bs (omega (arith, size)))
        ∙ ap (λ x. written (if n == 0 then 0 else q) x mem) new_is
        ∙ written-place n q (stored p (came l bs)) mem new_length
        ∙ ap (λ v. written v (stored p (came l bs)) mem) sum
        ∙ written-append_right (base + off) (region_length p r) (stored p (came l bs)) flat tail (sym fl)
        (omega (arith, new_length, inside, rm))
        ∙ ap (λ v. flat ++ v)
        (write_parts (area_length p r) (area p r early) (area p r (early ++ came l bs ∷ [])) (classes p r)
        (Distinct-classes p inputs sound r) lens (link_class p l) off (stored p (came l bs)) in_k (omega (arith, new_length, rm))
        (area-push p inputs sound r (link_class p l) early (came l bs) more lie here size refl)
        (λ j i m. ap (λ cs. flat_map (stored p) cs ++ blank_area j (area_length p r j - sum_by (λ b. (link p b.link).length) cs))
        (class-kept p inputs sound r j early (came l bs) (λ e. m (sym e)))))

    -- ---- entries
    area_handle : (i j : ℕ) → In i (classes p r) → In j (classes p r) → (i ≡ j → ⊥) →
        same_handle (area_me p s r i) (area_me p s r j) ≡ false
    area_handle i j h k n = let e : (place_in (classes p r) i == place_in (classes p r) j) ≡ false =
        ne_eqb _ _ (λ q. n (place_in-one (classes p r) i j h k q)) in rw e refl

    entries-area : (k : Slots) → entries_after (area_linked p s r early (link_class p l)) (link_header p k l)
        (map (area_linked p s r early) (classes p r)) ≡ map (area_linked p s r (early ++ came l bs ∷ [])) (classes p r)
    entries-area k =
        ap (λ b. cond b (unlinked (area_me p s r (link_class p l)) (map (area_linked p s r early) (classes p r)))
        (map (advance_one (area_me p s r (link_class p l))
        (running_after (area_linked p s r early (link_class p l)) (link_header p k l))) (map (area_linked p s r early) (classes p r))))
        (stays (area_length p r (link_class p l) - running_after (area_linked p s r early (link_class p l)) (link_header p k l)))
        ∙ ap (λ n. map (advance_one (area_me p s r (link_class p l)) (filled p (link_class p l) early + n))
        (map (area_linked p s r early) (classes p r))) (delivered-area k)
        ∙ go (classes p r) (λ j i. i)
      where
        stays : (x : ℕ) → nat_lt x 0 ≡ false
        stays x = false_from_ne_true (nat_le (suc x) 0) (λ e. let h = leb-true (suc x) 0 e in absurd (omega arith))

        one : (j : ℕ) → In j (classes p r) → ((j ≡ link_class p l) ⊎ (j ≡ link_class p l → ⊥)) →
            advance_one (area_me p s r (link_class p l)) (filled p (link_class p l) early + (link p l).length) (area_linked p s r early j)
            ≡ area_linked p s r (early ++ came l bs ∷ []) j
        one j i (inl e) = subst (λ v. advance_one (area_me p s r v) (filled p v early + (link p l).length) (area_linked p s r early j)
            ≡ area_linked p s r (early ++ came l bs ∷ []) j) e
            (ap (λ b. cond b (record (area_linked p s r early j) { running = filled p j early + (link p l).length })
            (area_linked p s r early j)) (same_handle-refl (area_me p s r j))
            ∙ ap (λ n. record (area_linked p s r early j) { running = n }) (sym (filled-push p inputs sound r j early (came l bs) (sym e))))
        one j i (inr n) =
            ap (λ b. cond b (record (area_linked p s r early j) { running = filled p (link_class p l) early + (link p l).length })
            (area_linked p s r early j)) (area_handle j (link_class p l) i (link-class p inputs sound r l here) n)
            ∙ ap (λ cs. record (area_linked p s r early j) { running = sum_by (λ b. (link p b.link).length) cs })
            (sym (class-kept p inputs sound r j early (came l bs) (λ e. n (sym e))))

        go : (js : List ℕ) → ((j : ℕ) → In j js → In j (classes p r)) →
            map (advance_one (area_me p s r (link_class p l)) (filled p (link_class p l) early + (link p l).length))
            (map (area_linked p s r early) js) ≡ map (area_linked p s r (early ++ came l bs ∷ [])) js
        go [] sub = refl
        go (j ∷ js) sub = ap₂ (λ x y. x ∷ y) (one j (sub j (inl refl)) (cases_eq j (link_class p l))) (go js (λ i h. sub i (inr h)))

    -- ---- headers
    early_from-push : (senders : ℕ → Slots) (front xs : List Came) → early_from p s r senders front (xs ++ came l bs ∷ []) ≡ early_from p
        s r senders front xs ++ early_of p s r senders (front ++ xs) (came l bs) ∷ []
    early_from-push senders front [] = ap (λ v. early_of p s r senders v (came l bs) ∷ []) (sym (append-nil front))
    early_from-push senders front (b ∷ xs) = ap (λ v. early_of p s r senders front b ∷ v) (early_from-push senders (front ++ b ∷ []) xs
        ∙ ap (λ v. early_from p s r senders (front ++ b ∷ []) xs ++ early_of p s r senders v (came l bs) ∷ [])
        (append_assoc front (b ∷ []) xs))

    length-early_from : (senders : ℕ → Slots) (front xs : List Came) → length (early_from p s r senders front xs) ≡ length xs
    length-early_from senders front [] = refl
    length-early_from senders front (b ∷ xs) = ap suc (length-early_from senders (front ++ b ∷ []) xs)

    headers-area : (senders : ℕ → Slots) → let k = senders (cell p (link p l).source).rank in
        headers_after found_area_of (link_header p k l) (unexpected_list (map (arrived_of p) (early_all p s r senders early))
        (length (links_to p r))) ≡ unexpected_list (map (arrived_of p) (early_all p s r senders (early ++ came l bs ∷ [])))
        (length (links_to p r))
    headers-area senders =
        let k = senders (cell p (link p l).source).rank in
        ap (λ n. unexpected_list (map (arrived_of p) (early_all p s r senders early) ++
        (record {
          pt = 0;
          header = record {
            entry = area_me p s r (link_class p l);
            place =
                if n == 0 then 0 else area_start p r (link_class p l) + filled p (link_class p l) early;
            delivered = n;
            header =
                link_header p k l;
          };
          hidden = hidden_entry_events.NONE;
        }) ∷ []) (length (links_to p r))) (delivered-area k)
        ∙ ap (λ v. unexpected_list v (length (links_to p r)))
        (sym (map-append (arrived_of p) (early_all p s r senders early) (early_of p s r senders early (came l bs) ∷ []))
        ∙ ap (map (arrived_of p)) (sym (early_from-push senders [] early)))

    -- ---- the step
    abbrev state_as : Seen → List ℕ → List Linked → UnexpectedList → Table Waiting → ℕ → State
    state_as g m es hs q n = record (view (annex_of p s r early) p inputs s r g) {
      limits = record (view (annex_of p s r early) p inputs s r g).limits { entries = n + length (own p r) };
      memory = m;
      indices = Some (record { eq = None; priority = []; overflow = es }) ∷ [];
      headers = hs;
      eqs = q;
      entries_given = n;
    }

    -- no queue hears of it
    untold : (k : Slots) (eqs : Table Waiting) → events_after found_area_of (link_header p k l) None eqs ≡ eqs
    untold k eqs = either (is_over (area_linked p s r early (link_class p l)) (link_header p k l))
      where
        either : (b : Bool) → cond b (raised None (unlink_event 0 (bits_above (link_class p l) 0 * 2 ^ 16)) eqs) eqs ≡ eqs
        either true = refl
        either false = refl

    not_full : (senders : ℕ → Slots) → nat_le (length (links_to p r)) (length (map (arrived_of p) (early_all p s r senders early))) ≡ false
    not_full senders =
        let a = length-map' (arrived_of p) (early_all p s r senders early) in
        let b = length-early_from senders [] early in
        let c = at_most-early p inputs sound r (early ++ came l bs ∷ []) more in
        let d = length-append early (came l bs ∷ []) in
        false_from_ne_true _ (λ e. let h = leb-true _ _ e in absurd (omega (arith, a, b, c, d, h)))

    area_allows : (j : ℕ) (o : Option AtomicOp) → allows (area_linked p s r early j).entry (kind_for o) ≡ true
    area_allows j None = refl
    area_allows j (Some v) = refl

    pub step_early : (senders : ℕ → Slots) (g : Seen) → Sized p inputs g → let k = senders (cell p (link p l).source).rank in
        target (waiting_view p inputs s r senders early g) (link_message p k l bs) ≡ delivers
        (waiting_view p inputs s r senders (early ++ came l bs ∷ []) g) Overflow (ack_of p k l)
    unfolding target request answered
    step_early senders g sized =
        let k = senders (cell p (link p l).source).rank in
        let v = waiting_view p inputs s r senders early g in
        let x = area_linked p s r early (link_class p l) in
        let o = (cell p (link p l).target).op in
        let before = map (area_linked p s r early) (classes p r) in
        ap (λ b. cond b (after_answer v (answered (home_of v) (link_message p k l bs)))
        (after_request v (request (parts_of v) (link_message p k l bs)))) (not_answer o)
        ∙ ap (λ f. after_request v (judged (parts_of v) (link_message p k l bs) f)) (chosen-area k)
        ∙ ap₂ (λ b f. after_request v (cond b (cond f (received (parts_of v) (refused Dropped (link_header p k l)))
        (accepted (parts_of v) (link_message p k l bs) found_area_of))
        (received (parts_of v) (refused Violation (link_header p k l))))) (area_allows (link_class p l) o) (not_full senders)
        ∙ delivered-pair _ _ Overflow _ _
        (λ d. state_as g (memory-area k g sized d) (entries-area k d) (headers-area senders d) (untold k v.eqs d)
        ((length-map' (area_linked p s r early) (classes p r)
        ∙ sym (length-map' (area_linked p s r (early ++ came l bs ∷ [])) (classes p r))) d))
        (ack-as p.remote (delivered x (link_header p k l)) (old_bytes x (link_header p k l) v.memory) (link_header p k l) (is_put o) refl
        ∙ ap (λ n. if p.remote then ack_as n (link_header p k l) CtAck else None) (delivered-area k))
