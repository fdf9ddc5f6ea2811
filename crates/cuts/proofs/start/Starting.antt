-- A start is, to the plan's machine, the start and the landing of each message that came before.
use Rattle.std.proofs.Common.{ℕ, suc, Bool, true, false, cond, not, ◌&&◌, ◌+◌, ◌-◌, ◌*◌, ◌%◌, ◌^◌, ◌≡◌, ◌≤◌, ◌<◌, ◌⊎◌, ◌==◌}
use Rattle.std.proofs.Common.{List, [], ◌∷◌, ◌++◌, refl, length, ap, ap₂, ◌∙◌, sym, subst, inl, inr, arith, map, filter, flat_map, Option}
use Rattle.std.proofs.Common.{Some, None, eqb-true, eq-eqb, count_by, append-nil, append_assoc, le-leb, if◌then◌else◌, add-zero, zero-add}
use Rattle.std.proofs.Common.{min}
use Rattle.std.proofs.lemmas.Bool.{ne_eqb, and_from, cases_eq, not-true, and_parts}
use Rattle.std.proofs.lemmas.List.Elements.{filter-append}
use Rattle.ni_model.specs.Append.{each_counted, append, append_fault, each_gone, frees, is_within, need}
use Rattle.ni_model.specs.Counts.{bump, successes, plus}
use Rattle.ni_model.specs.Headers.{allows, finds, found_in, left_in, UnexpectedList, unexpected_list}
use Rattle.ni_model.specs.Tables.{Live, change, Table, change_one, changed, handle, is_live}
use Rattle.ni_model.specs.declared.Linked.{Linked}
use Rattle.ni_model.specs.declared.IndexedHeader.{IndexedHeader}
use Rattle.op_laws.proofs.Bytes.{length-combined, length-part}
use Rattle.op_laws.specs.Combining.{CombineStarts}
use Rattle.plan_core.proofs.Flat.{flat-same, part_flat, write_flat, within_flat}
use Rattle.plan_core.proofs.Links.{Distinct-own, In-from_to, In-own, Lands, own-In, In-in_links}
use Rattle.plan_core.proofs.Lists.{In-filter, In-filter_cases, count-append, count-cons, In-map_cases}
use Rattle.plan_core.specs.Members.{In}
use Rattle.plan_core.specs.Places.{cell_length, place_in, start_in}
use Rattle.plan_core.specs.Plan.{Plan, all_links, cell, is_bump, link, own, all_cells}
use Rattle.plan_core.specs.Sound.{SoundPlan}
use Rattle.plan_core.specs.Values.{Inputs, initial, land, land_as}
use Rattle.plan_core.specs.declared.Cell.{Cell}
use Rattle.plan_core.specs.declared.LinkKind.{LinkKind}
use Rattle.plan_core.specs.declared.LinkKind.TheVariants.{Atomic, Bump, Put}
use Rattle.cuts.proofs.start.Sized.{sized_took}
use Rattle.plan_core.specs.calls.Areas.{comes_to, links_to, longest_to, longest, region_length}
use Rattle.cuts.specs.start.Waiting.{Early, arrived_of, early_came, partly, stored, stored_as, took}
use Rattle.plan_core.specs.calls.Calls.{own_cell}
use Rattle.cuts.specs.start.Start.{AllUsed, AreAccepted, bring, bring_all, brought, brought_by, cell_started, cells_started, fits_elements}
use Rattle.cuts.specs.start.Start.{go_raised, is_used, lies_in, rank_started, with_brought, entry_of as started_entry}
use Rattle.cuts.specs.view.Slots.{counter_at, Slots, cell_ct, done_ct}
use Rattle.ni_model.specs.Calls.{ends_by, me_append}
use Rattle.ni_model.specs.Lists.{entries_in}
use Rattle.ni_model.specs.Queues.{Waiting}
use Rattle.ni_model.specs.Refusals.{ct_inc_fault, inc_passes}
use Rattle.ni_model.specs.State.{State, parts_of, side_of, with_parts}
use Rattle.ptl_types.specs.declared.calls.NiFault.TheVariants.{CountFull, NoSpace, OutOfRegion, Stale}
use Rattle.ptl_types.specs.declared.entries.List.TheVariants.{Priority}
use Rattle.ptl_types.specs.declared.entries.TheConstants.HiddenEntryEvents as hidden_entry_events
use Rattle.ptl_types.specs.declared.handles.Handle.{Handle}
use Rattle.ptl_types.specs.Handles.{same_handle, top}
use Rattle.cuts.proofs.view.Installed.{placed_step, map-same, placed, placed-own, placed-shift, sum_step}
use Rattle.cuts.proofs.view.StepFire.{lookup_counter, cts_rise, step_start}
use Rattle.cuts.proofs.view.Tables.{place_in-one}
use Rattle.cuts.specs.view.View.{entry_of, Annex, counter_of, raise_go, view}
use Rattle.std.proofs.lemmas.List.{length-append}
use Rattle.std.proofs.lemmas.List.Sums.{count_by-le-length, length-filter, sum_by-cons}
use Rattle.std.specs.Prelude.{is_some, sum_by}
use Rattle.cuts.specs.machine.Machine.{came, note, seen}
use Rattle.cuts.specs.machine.Machine.Move.{Began, Took}
use Rattle.cuts.specs.machine.Seen.{Came, Seen, bumps, content, reached_count, to_cell}
use Rattle.cuts.proofs.view.StepArrive.{Lands-here, atomic-whole, came-counted, content-push}
use Rattle.plan_core.specs.calls.Bits.{cell_bits}
use Rattle.cuts.specs.view.TriggeredOps.{kind_for, link_header}
use Rattle.cuts.specs.view.Steps.{IsLinkHere, Sized}
use Rattle.ptl_types.specs.Elements.{combined, part, written}
use Rattle.ptl_types.specs.Matching.{bits_match}
use Rattle.ptl_types.specs.Operations.{bytes_of}
use Rattle.ptl_types.specs.declared.elements.AtomicOp.{AtomicOp}
use Rattle.ptl_types.specs.declared.elements.ElemType.{ElemType}
use Rattle.ptl_types.specs.declared.handles.Count.{Count}
pub use Rattle.cuts.proofs.start.Facts.{above, length-from_to, need4, none_of, room}
pub use Rattle.cuts.proofs.start.Finding.{appended_entry, entry-started}
use Rattle.cuts.proofs.start.Finding.{bits-cell, allows_link, with_true}

-- ---- the facts of an early message
pub record IsEarly (annex : Annex) (p : Plan) (r : ℕ) (x : Early) : Type 0 where
  pub here : IsLinkHere p r x.came.link
  pub size : length x.came.bytes ≡ (link p x.came.link).length
  -- its bytes lie after the cells, at its place
  pub lies : (cells : List ℕ) → length cells ≡ region_length p r → part x.place (link p x.came.link).length (cells ++ annex.tail) ≡ stored
      p x.came
  pub inside : x.place + (link p x.came.link).length ≤ region_length p r + length annex.tail

abbrev pub goes : Plan → ℕ → Early → Bool
goes p c x = (link p x.came.link).target == c

pub finds-cell : (p : Plan) (inputs : Inputs) → SoundPlan p (length inputs) → (s : Slots) (r : ℕ) (x : Early) →
    IsLinkHere p r x.came.link → (c : ℕ) → c < length p.cells → finds 0 (appended_entry p s c) (arrived_of p x) ≡ goes p c x
finds-cell p inputs sound s r x h c i =
    with_true (bits_match (2 ^ 16 - 1) (link_header p x.slots x.came.link).match_bits (cell_bits p c * 2 ^ 16))
    (allows (appended_entry p s c) (kind_for (cell p (link p x.came.link).target).op))
    (allows_link p s c (cell p (link p x.came.link).target).op)
    ∙ bits-cell p inputs sound x.slots r x.came.link h c i

-- ---- the bytes
brought_stored : CombineStarts → (o : Option AtomicOp) (ty : ElemType) (old bs : List ℕ) → length old ≡ length bs →
    brought_by o ty old (stored_as o ty bs) ≡ brought_by o ty old bs
brought_stored starts None ty old bs e = refl
brought_stored starts (Some v) ty old bs e = starts v ty old bs e

length-brought : (o : Option AtomicOp) (ty : ElemType) (old bs : List ℕ) → length old ≡ length bs →
    ((v : AtomicOp) → o ≡ Some v → length bs % bytes_of ty ≡ 0) → length (brought_by o ty old bs) ≡ length bs
length-brought None ty old bs e w = refl
length-brought (Some v) ty old bs e w = length-combined v ty old bs (rw e (w v refl)) ∙ e

land-brought : (k : Cell) (a : LinkKind) (o : Option AtomicOp) (at : ℕ) (bs x : List ℕ) → k.op ≡ o → Lands k a at bs → is_bump a ≡ false →
    written at (brought_by o k.ty (part at (length bs) x) bs) x ≡ land_as a k at bs x
land-brought k Bump o at bs x e h b = cc
land-brought k Put None at bs x e h b = refl
land-brought k Put (Some v) at bs x e h b = let q = h.here v e in cc
land-brought k Atomic None at bs x e h b = absurd (h.no_op e refl)
land-brought k Atomic (Some v) at bs x e h b = ap (λ u. written at u x)
    (sym (ap (λ (w : Option AtomicOp). elim w [ Some z ↦ combined z k.ty (part at (length bs) x) bs | None ↦ part at (length bs) x ]) e))

in-longest : (p : Plan) (ls : List ℕ) (l : ℕ) → In l ls → (link p l).length ≤ longest p ls
in-longest p [] l i = absurd i
in-longest p (m ∷ ls) l (inl e) = let q = ap (λ v. (link p v).length) e in omega arith
in-longest p (m ∷ ls) l (inr i) = let q = in-longest p ls l i in omega arith

elements-fit : (ty : ElemType) (n : ℕ) (o : Option AtomicOp) → ((v : AtomicOp) → o ≡ Some v → n % bytes_of ty ≡ 0) →
    fits_elements o ty n ≡ true
elements-fit ty n None w = refl
elements-fit ty n (Some v) w = eq-eqb _ _ (w v refl)

pub flat-length : (p : Plan) (f : ℕ → List ℕ) (cs : List ℕ) → ((d : ℕ) → In d cs → length (f d) ≡ (cell p d).length) →
    length (flat_map f cs) ≡ sum_by (λ c. (cell p c).length) cs
flat-length p f [] h = refl
flat-length p f (c ∷ cs) h =
    length-append (f c) (flat_map f cs)
    ∙ ap₂ (λ a b. a + b) (h c (inl refl)) (flat-length p f cs (λ d i. h d (inr i)))
    ∙ sym (sum_by-cons (λ c. (cell p c).length) c cs)

-- ---- the order between cells doesn't matter
content-filter : (p : Plan) (as_came : List Came) (c : ℕ) (x : List ℕ) → content p (filter (to_cell p c) as_came) c x ≡ content p as_came
    c x
content-filter p [] c x = refl
content-filter p (a ∷ later) c x = at (to_cell p c a) refl (λ y. content-filter p later c y)
  where
    at : (b : Bool) → to_cell p c a ≡ b → ((y : List ℕ) → content p (filter (to_cell p c) later) c y ≡ content p later c y)
        → content p (cond b (a ∷ filter (to_cell p c) later) (filter (to_cell p c) later)) c x ≡ content p later c
        (cond b (land p a.link a.bytes x) x)
    at true e rest = ap (λ t. content p (filter (to_cell p c) later) c (cond t (land p a.link a.bytes x) x)) e
        ∙ rest (land p a.link a.bytes x)
    at false e rest = rest x

pub content-append : (p : Plan) (xs ys : List Came) (c : ℕ) (x : List ℕ) → content p (xs ++ ys) c x ≡ content p ys c (content p xs c x)
content-append p [] ys c x = refl
content-append p (a ∷ xs) ys c x = content-append p xs ys c (cond (to_cell p c a) (land p a.link a.bytes x) x)

count-filter : (p : Plan) (c : ℕ) (xs : List Came) → count_by (to_cell p c) (filter (to_cell p c) xs) ≡ count_by (to_cell p c) xs
count-filter p c [] = refl
count-filter p c (a ∷ xs) = at (to_cell p c a) refl (count-filter p c xs) ∙ sym (count-cons (to_cell p c) a xs)
  where
    at : (b : Bool) → to_cell p c a ≡ b → count_by (to_cell p c) (filter (to_cell p c) xs) ≡ count_by (to_cell p c) xs
        → count_by (to_cell p c) (cond b (a ∷ filter (to_cell p c) xs) (filter (to_cell p c) xs)) ≡ cond (to_cell p c a) 1 0 + count_by
        (to_cell p c) xs
    at true e rest = count-cons (to_cell p c) a (filter (to_cell p c) xs) ∙ ap (λ n. cond (to_cell p c a) 1 0 + n) rest
    at false e rest = rest ∙ sym (zero-add (count_by (to_cell p c) xs)) ∙ ap (λ t. cond t 1 0 + count_by (to_cell p c) xs) (sym e)

pub view-same : (annex : Annex) (p : Plan) (inputs : Inputs) (s : Slots) (r : ℕ) (g : Seen) (xs ys : List Came) →
    ((c : ℕ) → In c (own p r) → filter (to_cell p c) xs ≡ filter (to_cell p c) ys)
    → view annex p inputs s r (took g xs) ≡ view annex p inputs s r (took g ys)
view-same annex p inputs s r g xs ys h =
    ap₂ (λ m k. record (view annex p inputs s r (took g ys)) {
      memory = m ++ annex.tail;
      cts =
          record (view annex p inputs s r (took g ys)).cts { live = record { handle = done_ct s; value = g.done } ∷ k };
    })
    (flat-same (λ c. content p (g.came ++ xs) c (initial p inputs c)) (λ c. content p (g.came ++ ys) c (initial p inputs c)) (own p r)
    (λ c i. bytes c (h c i)))
    (map-same (counter_of p s r (took g xs)) (counter_of p s r (took g ys)) (own p r)
    (λ c i. ap (λ n. record { handle = cell_ct p s c; value = successes (min n top) }) (counts c (h c i))))
  where
    bytes : (c : ℕ) → filter (to_cell p c) xs ≡ filter (to_cell p c) ys → content p (g.came ++ xs) c (initial p inputs c) ≡ content p
        (g.came ++ ys) c (initial p inputs c)
    bytes c e =
        let x = content p g.came c (initial p inputs c) in
        content-append p g.came xs c (initial p inputs c) ∙ sym (content-filter p xs c x) ∙ ap (λ v. content p v c x) e
        ∙ content-filter p ys c x ∙ sym (content-append p g.came ys c (initial p inputs c))

    counts : (c : ℕ) → filter (to_cell p c) xs ≡ filter (to_cell p c) ys → reached_count p (took g xs) r c ≡ reached_count p (took g ys) r c
    counts c e =
        let a = count-append (to_cell p c) g.came xs in
        let b = count-append (to_cell p c) g.came ys in
        let d : count_by (to_cell p c) xs ≡ count_by (to_cell p c) ys = sym (count-filter p c xs) ∙ ap (count_by (to_cell p c)) e
        ∙ count-filter p c ys in
        ap (λ n. cond ((c == r) && g.started) 1 0 + (n + count_by (bumps p c) g.fired)) (a ∙ ap (λ n. count_by (to_cell p c) g.came + n) d
        ∙ sym b)

pub seen_took : (p : Plan) (g : Seen) (xs : List Came) → seen p g (map (λ a. Took a.link a.bytes) xs) ≡ took g xs
seen_took p g [] = ap (λ v. record g { came = v }) (sym (append-nil g.came))
seen_took p g (a ∷ xs) = seen_took p (note p g (Took a.link a.bytes)) xs ∙ ap (λ v. record g { came = v }) (append_assoc g.came (a ∷ []) xs)

-- ---- one header's bytes
module _ (starts : CombineStarts) (annex : Annex) (p : Plan) (inputs : Inputs) (sound : SoundPlan p (length inputs)) (s : Slots) (r : ℕ)
  where
    is_used-early : (x : Early) → IsLinkHere p r x.came.link → is_used (longest_to p r) (own_cell p r (link p x.came.link).target)
        (arrived_of p x).header ≡ true
    is_used-early x h =
        let l = x.came.link in
        let w = sound.links_sound l h.known in
        let i : In x.came.link (links_to p r) = In-filter (comes_to p r) x.came.link (all_links p)
        (In-from_to 0 (length p.links) x.came.link (omega arith) (let k = h.known in omega arith))
        (and_from _ _ (ap not h.sends) (eq-eqb _ _ h.here)) in
        and_from _ _ (le-leb _ _ w.within_target)
        (and_from _ _ (le-leb _ _ (in-longest p (links_to p r) x.came.link i))
        (elements-fit (cell p (link p x.came.link).target).ty (link p x.came.link).length (cell p (link p x.came.link).target).op
        (atomic-whole p inputs sound r x.came.link h)))

    -- an early message's bytes lie in the region
    lies-early : (x : Early) → IsEarly annex p r x → (g : Seen) → Sized p inputs g → lies_in (own_cell p r (link p x.came.link).target)
        (arrived_of p x).header (length (view annex p inputs s r g).memory) ≡ true
    lies-early x f g sized =
        let w = sound.links_sound x.came.link f.here.known in
        let own_c : In (link p x.came.link).target (own p r) = In-own p r (link p x.came.link).target w.cells f.here.here in
        let flat_size = flat-length p (λ d. content p g.came d (initial p inputs d)) (own p r) (λ d i. sized d (own-In p r d i).0) in
        let inside = within_flat (cell_length p) (λ d. content p g.came d (initial p inputs d)) (own p r)
        (λ d i. sized d (own-In p r d i).0) (link p x.came.link).target own_c in
        let far = f.inside in
        let total = length-append (flat_map (λ d. content p g.came d (initial p inputs d)) (own p r)) annex.tail in
        and_from _ _
        (le-leb (start_in p (own p r) (link p x.came.link).target + (cell p (link p x.came.link).target).length)
        (length (view annex p inputs s r g).memory) (omega (arith, inside, total)))
        (le-leb (x.place + (link p x.came.link).length) (length (view annex p inputs s r g).memory) (omega (arith, far, total, flat_size)))

    bring-memory : (x : Early) → IsEarly annex p r x → (g : Seen) → Sized p inputs g
        → bring (longest_to p r) (own_cell p r (link p x.came.link).target) (arrived_of p x).header (view annex p inputs s r g).memory
        ≡ (view annex p inputs s r (note p g (Took x.came.link x.came.bytes))).memory
    unfolding bring
    bring-memory x f g sized =
        let l = x.came.link in
        let h = f.here in
        let e = f.size in
        let bs = x.came.bytes in
        let c = (link p x.came.link).target in
        let k = cell p (link p x.came.link).target in
        let off = (link p x.came.link).target_offset in
        let n = (link p x.came.link).length in
        let w = sound.links_sound x.came.link f.here.known in
        let own_c : In (link p x.came.link).target (own p r) = In-own p r (link p x.came.link).target w.cells f.here.here in
        let mem = (view annex p inputs s r g).memory in
        let flat = flat_map (λ d. content p g.came d (initial p inputs d)) (own p r) in
        let now = content p g.came (link p x.came.link).target (initial p inputs (link p x.came.link).target) in
        let size_c = sized (link p x.came.link).target w.cells in
        let fit = w.within_target in
        let flat_size = flat-length p (λ d. content p g.came d (initial p inputs d)) (own p r) (λ d i. sized d (own-In p r d i).0) in
        let lies = lies-early x f g sized in
        let is_old : part (start_in p (own p r) (link p x.came.link).target + off) n mem ≡ part off (length bs) now =
        part_flat (cell_length p) (λ d. content p g.came d (initial p inputs d)) (own p r) (λ d i. sized d (own-In p r d i).0)
        (link p x.came.link).target off n own_c fit annex.tail
        ∙ ap (λ m. part off m now) (sym e) in
        let old_length : length (part off (length bs) now) ≡ length bs = length-part off (length bs) now (omega arith) in
        let new = brought_by k.op k.ty (part off (length bs) now) bs in
        let new_length : length new ≡ length bs = length-brought k.op k.ty (part off (length bs) now) bs old_length
        (λ v i. rw e (atomic-whole p inputs sound r x.came.link f.here v i)) in
        ap (λ b. cond b (brought (own_cell p r (link p x.came.link).target) (arrived_of p x).header mem) mem)
        (and_from _ _ (is_used-early x f.here) lies)
        ∙ ap₂ (λ u v. written (start_in p (own p r) (link p x.came.link).target + off) (brought_by k.op k.ty u v) mem) is_old
        (f.lies flat flat_size)
        ∙ ap (λ v. written (start_in p (own p r) (link p x.came.link).target + off) v mem)
        (brought_stored starts k.op k.ty (part off (length bs) now) bs old_length)
        ∙ write_flat (cell_length p) (λ d. content p g.came d (initial p inputs d))
        (λ d. content p (g.came ++ came l bs ∷ []) d (initial p inputs d)) (own p r) (Distinct-own p r)
        (λ d i. sized d (own-In p r d i).0)
        (link p x.came.link).target off new own_c (omega arith)
        (content-push p g.came (came l bs) (link p x.came.link).target (initial p inputs (link p x.came.link).target)
        ∙ ap (λ t. cond t (land p l bs now) now) (eq-eqb (link p x.came.link).target (link p x.came.link).target refl)
        ∙ sym (land-brought k (link p x.came.link).kind k.op off bs now refl (Lands-here p inputs sound r x.came.link f.here bs e)
        f.here.sends))
        (λ d i m. content-push p g.came (came l bs) d (initial p inputs d)
        ∙ ap (λ t. cond t (land p l bs (content p g.came d (initial p inputs d))) (content p g.came d (initial p inputs d)))
        (ne_eqb (link p x.came.link).target d (λ j. m (sym j))))
        annex.tail

    one_more : (x : Early) → IsEarly annex p r x → (g : Seen) → changed (cell_ct p s (link p x.came.link).target) (bump (successes 1))
        (view annex p inputs s r g).cts ≡ (view annex p inputs s r (note p g (Took x.came.link x.came.bytes))).cts
    one_more x f g =
        ap (λ v. record (view annex p inputs s r g).cts { live = v })
        (cts_rise annex p inputs s r g (note p g (Took x.came.link x.came.bytes)) (link p x.came.link).target
        (In-own p r (link p x.came.link).target (sound.links_sound x.came.link f.here.known).cells f.here.here) refl
        (came-counted p r g (came x.came.link x.came.bytes) (link p x.came.link).target true (eq-eqb _ _ refl))
        (λ d n. came-counted p r g (came x.came.link x.came.bytes) d false (ne_eqb (link p x.came.link).target d (λ i. n (sym i)))))

    -- ---- the headers of one cell
    pub record Brings (c : ℕ) (g : Seen) (xs : List Early) : Type 0 where
      pub memory : bring_all (longest_to p r) (own_cell p r c) (map (arrived_of p) xs) (view annex p inputs s r g).memory
          ≡ (view annex p inputs s r (took g (map early_came xs))).memory
      pub cts : each_counted (Some (cell_ct p s c)) (map (arrived_of p) xs) (view annex p inputs s r g).cts
          ≡ (view annex p inputs s r (took g (map early_came xs))).cts
      pub sized : Sized p inputs (took g (map early_came xs))

    pub brings : (c : ℕ) (xs : List Early) → ((x : Early) → In x xs → IsEarly annex p r x) →
        ((x : Early) → In x xs → (link p x.came.link).target ≡ c) → (g : Seen) → Sized p inputs g → Brings c g xs
    brings c [] facts here g sized =
        let q : took g [] ≡ g = ap (λ v. record g { came = v }) (append-nil g.came) in
        record {
          memory = ap (λ v. (view annex p inputs s r v).memory) (sym q);
          cts = ap (λ v. (view annex p inputs s r v).cts) (sym q);
          sized = subst (Sized p inputs) (sym q) sized;
        }
    brings c (x ∷ xs) facts here g sized =
        let f = facts x (inl refl) in
        let t = here x (inl refl) in
        let g' = note p g (Took x.came.link x.came.bytes) in
        let rest = brings c xs (λ y i. facts y (inr i)) (λ y i. here y (inr i)) (note p g (Took x.came.link x.came.bytes))
        (sized_took p inputs sound r x.came.link g f.here sized x.came.bytes f.size) in
        let q : took g' (map early_came xs) ≡ took g (map early_came (x ∷ xs)) =
        ap (λ v. record g { came = v }) (append_assoc g.came (x.came ∷ []) (map early_came xs)) in
        record {
          memory = ap (bring_all (longest_to p r) (own_cell p r c) (map (arrived_of p) xs))
              (subst (λ d. bring (longest_to p r) (own_cell p r d) (arrived_of p x).header (view annex p inputs s r g).memory
              ≡ (view annex p inputs s r (note p g (Took x.came.link x.came.bytes))).memory) t (bring-memory x f g sized))
              ∙ rest.memory ∙ ap (λ v. (view annex p inputs s r v).memory) q;
          cts = ap (each_counted (Some (cell_ct p s c)) (map (arrived_of p) xs))
              (subst (λ d. changed (cell_ct p s d) (bump (successes 1)) (view annex p inputs s r g).cts
              ≡ (view annex p inputs s r (note p g (Took x.came.link x.came.bytes))).cts) t (one_more x f g))
              ∙ rest.cts ∙ ap (λ v. (view annex p inputs s r v).cts) q;
          sized = subst (Sized p inputs) q rest.sized;
        }

    -- ---- one cell
    abbrev pub cell_linked : ℕ → ℕ → Linked
    cell_linked n c = record { handle = handle (s.me n) n; running = 0; entry = appended_entry p s c }

    abbrev pub here_of : ℕ → List Early → List Early
    here_of c xs = filter (goes p c) xs

    abbrev pub left_of : ℕ → List Early → List Early
    left_of c xs = filter (λ x. not (goes p c x)) xs

    pub taken-is : (c : ℕ) → c < length p.cells → (xs : List Early) → ((x : Early) → In x xs → IsEarly annex p r x) →
        found_in 0 (appended_entry p s c) (map (arrived_of p) xs) ≡ map (arrived_of p) (here_of c xs)
    taken-is c i [] facts = refl
    taken-is c i (x ∷ xs) facts =
        ap₂ (λ b ys. cond b (arrived_of p x ∷ ys) ys) (finds-cell p inputs sound s r x (facts x (inl refl)).here c i)
        (taken-is c i xs (λ y j. facts y (inr j)))
        ∙ at (goes p c x)
      where
        at : (b : Bool) → cond b (arrived_of p x ∷ map (arrived_of p) (here_of c xs)) (map (arrived_of p) (here_of c xs)) ≡ map
            (arrived_of p) (cond b (x ∷ here_of c xs) (here_of c xs))
        at true = refl
        at false = refl

    left-is : (c : ℕ) → c < length p.cells → (xs : List Early) → ((x : Early) → In x xs → IsEarly annex p r x) →
        left_in 0 (appended_entry p s c) (map (arrived_of p) xs) ≡ map (arrived_of p) (left_of c xs)
    left-is c i [] facts = refl
    left-is c i (x ∷ xs) facts =
        ap₂ (λ b ys. cond (not b) (arrived_of p x ∷ ys) ys) (finds-cell p inputs sound s r x (facts x (inl refl)).here c i)
        (left-is c i xs (λ y j. facts y (inr j)))
        ∙ at (not (goes p c x))
      where
        at : (b : Bool) → cond b (arrived_of p x ∷ map (arrived_of p) (left_of c xs)) (map (arrived_of p) (left_of c xs)) ≡ map
            (arrived_of p) (cond b (x ∷ left_of c xs) (left_of c xs))
        at true = refl
        at false = refl

    pub of_here : (c : ℕ) (xs : List Early) (x : Early) → In x (here_of c xs) → In x xs × ((link p x.came.link).target ≡ c)
    of_here c xs x i = let q = In-filter_cases (goes p c) x xs i in (q.0, eqb-true _ _ q.1)

    -- the headers go, and no queue hears of it
    none-gone : (rank limit given : ℕ) (es : List Linked) (hs : UnexpectedList) (stay : List IndexedHeader) (xs : List Early)
        (eqs : Table Waiting)
        → each_gone hidden_entry_events.NONE (record {
          rank = rank;
          limit = limit;
          indices = Some (record { eq = None; priority = es; overflow = annex.before })
              ∷ [];
          given = given;
          headers = hs;
        }) stay (map (arrived_of p) xs) eqs ≡ eqs
    none-gone rank limit given es hs stay [] eqs = refl
    none-gone rank limit given es hs stay (x ∷ xs) eqs =
        ap (each_gone hidden_entry_events.NONE (record {
          rank = rank;
          limit = limit;
          indices = Some (record { eq = None; priority = es; overflow = annex.before })
              ∷ [];
          given = given;
          headers = hs;
        }) stay (map (arrived_of p) xs))
        (either (frees (record {
          rank = rank;
          limit = limit;
          indices = Some (record { eq = None; priority = es; overflow = annex.before })
              ∷ [];
          given = given;
          headers = hs;
        }) (stay ++ map (arrived_of p) xs) (arrived_of p x)) eqs)
        ∙ none-gone rank limit given es hs stay xs eqs
      where
        either : (b : Bool) (e : Table Waiting) → cond b e e ≡ e
        either true e = refl
        either false e = refl

    -- the state in which cell c is appended, once its bytes are there
    abbrev filled_by : Seen → List IndexedHeader → List Linked → ℕ → List ℕ → State
    filled_by g hs es n m = record (view annex p inputs s r g) {
      memory = m;
      headers = unexpected_list hs annex.unexpected;
      indices = Some (record { eq = None; priority = es; overflow = annex.before }) ∷ [];
      entries_given = n;
    }

    -- the part of cell c lies in the region
    in_region : (c : ℕ) → In c (own p r) → (g : Seen) → Sized p inputs g → start_in p (own p r) c + (cell p c).length ≤ length
        (view annex p inputs s r g).memory
    in_region c own_c g sized =
        let inside = within_flat (cell_length p) (λ d. content p g.came d (initial p inputs d)) (own p r)
        (λ d i. sized d (own-In p r d i).0) c own_c in
        let whole = length-append (flat_map (λ d. content p g.came d (initial p inputs d)) (own p r)) annex.tail in
        omega (arith, inside, whole)

    -- the append isn't refused
    fault_at : (c : ℕ) → In c (own p r) → (g : Seen) (hs : List IndexedHeader) (es : List Linked) (n : ℕ) (m : List ℕ) →
        start_in p (own p r) c + (cell p c).length ≤ length m
        → length es < length (own p r) → n < top → append_fault 0 (appended_entry p s c) (parts_of (filled_by g hs es n m)) ≡ None
    fault_at c own_c g hs es n m fits at_most stamps =
        need4 true (is_live (cell_ct p s c) (view annex p inputs s r g).cts) _
        (is_within (start_in p (own p (cell p c).rank) c) (cell p c).length (length m)) Stale Stale NoSpace OutOfRegion
        refl (ap is_some (lookup_counter annex p inputs s r g c own_c))
        (room (length annex.before + length (own p r)) (sum_by entries_in
        (Some (record { eq = None; priority = es; overflow = annex.before }) ∷ [])) n (let a = linked_is in omega (arith, a, at_most))
        stamps)
        (ap (λ v. is_within (start_in p (own p v) c) (cell p c).length (length m)) (own-In p r c own_c).1 ∙ le-leb _ _ fits)
      where
        linked_is : sum_by entries_in (Some (record { eq = None; priority = es; overflow = annex.before }) ∷ []) ≡ length es + length
            annex.before
        linked_is = sum_by-cons entries_in (Some (record { eq = None; priority = es; overflow = annex.before })) []
            ∙ (let q : length es + length annex.before + 0 ≡ length es + length annex.before = omega arith in q)

    -- one cell: its bytes are brought, and its append isn't refused
    pub record StepsCell (c : ℕ) (g : Seen) (xs : List Early) (es : List Linked) (n : ℕ) : Type 0 where
      pub used : AllUsed (longest_to p r) (own_cell p r c) (length (view annex p inputs s r g).memory)
          (found_in 0 (started_entry (counter_at s (own p r) c) (own_cell p r c)) (map (arrived_of p) xs))
      pub accepted : append_fault 0 (started_entry (counter_at s (own p r) c) (own_cell p r c))
          (parts_of (with_brought (longest_to p r) (counter_at s (own p r) c) (own_cell p r c)
          (partly annex p inputs s r g xs es n))) ≡ None
      pub next : cell_started (longest_to p r) s.me (counter_at s (own p r) c) (own_cell p r c) (partly annex p inputs s r g xs es n)
          ≡ partly annex p inputs s r (took g (map early_came (here_of c xs))) (left_of c xs) (es ++ cell_linked n c ∷ []) (n + 1)
      pub sized : Sized p inputs (took g (map early_came (here_of c xs)))

    all_used : (c : ℕ) (xs : List Early) → ((x : Early) → In x xs → IsEarly annex p r x) →
        ((x : Early) → In x xs → (link p x.came.link).target ≡ c) → (g : Seen) → Sized p inputs g
        → AllUsed (longest_to p r) (own_cell p r c) (length (view annex p inputs s r g).memory) (map (arrived_of p) xs)
    all_used c [] facts here g sized = tt
    all_used c (x ∷ xs) facts here g sized =
        let f = facts x (inl refl) in
        let t = here x (inl refl) in (
          subst (λ d. is_used (longest_to p r) (own_cell p r d) (arrived_of p x).header ≡ true) t (is_used-early x f.here),
          subst (λ d. lies_in (own_cell p r d) (arrived_of p x).header (length (view annex p inputs s r g).memory) ≡ true) t
              (lies-early x f g sized),
          all_used c xs (λ y i. facts y (inr i)) (λ y i. here y (inr i)) g sized,
        )

    pub step_cell : (c : ℕ) → In c (own p r) → (xs : List Early) → ((x : Early) → In x xs → IsEarly annex p r x) → (g : Seen) →
        Sized p inputs g → (es : List Linked) (n : ℕ)
        → length es < length (own p r) → n < top → StepsCell c g xs es n
    unfolding cell_started append
    step_cell c own_c xs facts g sized es n at_most stamps =
        let i = (own-In p r c own_c).0 in
        let b = brings c (here_of c xs) (λ x j. facts x (of_here c xs x j).0) (λ x j. (of_here c xs x j).1) g sized in
        let hs = map (arrived_of p) xs in
        let e = entry-started p s r c (own-In p r c own_c).1 in
        let found = taken-is c i xs facts in
        let bytes : bring_all (longest_to p r) (own_cell p r c) (found_in 0 (appended_entry p s c) (map (arrived_of p) xs))
        (view annex p inputs s r g).memory ≡ (view annex p inputs s r (took g (map early_came (here_of c xs)))).memory =
        ap (λ t. bring_all (longest_to p r) (own_cell p r c) t (view annex p inputs s r g).memory) found ∙ b.memory in
        let fits = in_region c own_c (took g (map early_came (here_of c xs))) b.sized in
        let fault = fault_at c own_c g (map (arrived_of p) xs) es n
        (view annex p inputs s r (took g (map early_came (here_of c xs)))).memory fits at_most stamps in
        record {
          used = subst (λ a. AllUsed (longest_to p r) (own_cell p r c) (length (view annex p inputs s r g).memory)
              (found_in 0 a (map (arrived_of p) xs))) (sym e)
              (subst (λ t. AllUsed (longest_to p r) (own_cell p r c) (length (view annex p inputs s r g).memory) t) (sym found)
              (all_used c (here_of c xs) (λ x j. facts x (of_here c xs x j).0) (λ x j. (of_here c xs x j).1) g sized));
          accepted =
              ap (λ a. append_fault 0 a (parts_of (filled_by g (map (arrived_of p) xs) es n
              (bring_all (longest_to p r) (own_cell p r c) (found_in 0 a (map (arrived_of p) xs)) (view annex p inputs s r g).memory)))) e
              ∙ ap (λ m. append_fault 0 (appended_entry p s c) (parts_of (filled_by g (map (arrived_of p) xs) es n m))) bytes
              ∙ fault;
          next =
              ap (λ a. (me_append (s.me n) 0 Priority a (filled_by g (map (arrived_of p) xs) es n
              (bring_all (longest_to p r) (own_cell p r c) (found_in 0 a (map (arrived_of p) xs))
              (view annex p inputs s r g).memory))).state) e
              ∙ ap (λ m. (me_append (s.me n) 0 Priority (appended_entry p s c) (filled_by g (map (arrived_of p) xs) es n m)).state) bytes
              ∙ ap (λ o. (ends_by o (filled_by g (map (arrived_of p) xs) es n
              (view annex p inputs s r (took g (map early_came (here_of c xs)))).memory)
              (with_parts (append (s.me n) 0 Priority (appended_entry p s c)
              (parts_of (filled_by g (map (arrived_of p) xs) es n
              (view annex p inputs s r (took g (map early_came (here_of c xs)))).memory))).parts
              (filled_by g (map (arrived_of p) xs) es n (view annex p inputs s r (took g (map early_came (here_of c xs)))).memory))
              (append (s.me n) 0 Priority (appended_entry p s c)
              (parts_of (filled_by g (map (arrived_of p) xs) es n
              (view annex p inputs s r (took g (map early_came (here_of c xs)))).memory))).appended).state) fault
              ∙ ap₂ (λ t u. record (filled_by g u (es ++ cell_linked n c ∷ []) (n + 1)
              (view annex p inputs s r (took g (map early_came (here_of c xs)))).memory) {
                cts = each_counted (Some (cell_ct p s c)) t (view annex p inputs s r g).cts;
                eqs = each_gone hidden_entry_events.NONE (side_of (filled_by g (map (arrived_of p) xs) es n
                    (view annex p inputs s r (took g (map early_came (here_of c xs)))).memory)) u t (view annex p inputs s r g).eqs;
              }) found (left-is c i xs facts)
              ∙ ap₂ (λ k q. record (filled_by g (map (arrived_of p) (left_of c xs)) (es ++ cell_linked n c ∷ []) (n + 1)
              (view annex p inputs s r (took g (map early_came (here_of c xs)))).memory) { cts = k; eqs = q })
              b.cts (none-gone r (length annex.before + length (own p r)) n es (unexpected_list (map (arrived_of p) xs) annex.unexpected)
              (map (arrived_of p) (left_of c xs)) (here_of c xs) (view annex p inputs s r g).eqs);
          sized = b.sized;
        }

    -- ---- all cells
    abbrev in_cells : List ℕ → List Early → List Came
    in_cells [] xs = []
    in_cells (c ∷ cs) xs = map early_came (here_of c xs) ++ in_cells cs (left_of c xs)

    abbrev left_over : List ℕ → List Early → List Early
    left_over [] xs = xs
    left_over (c ∷ cs) xs = left_over cs (left_of c xs)

    pub of_left : (c : ℕ) (xs : List Early) (x : Early) → In x (left_of c xs) → In x xs
    of_left c xs x i = (In-filter_cases (λ y. not (goes p c y)) x xs i).0

    pub record StepsCells (cs : List ℕ) (g : Seen) (xs : List Early) (es : List Linked) (n : ℕ) : Type 0 where
      pub accepted : AreAccepted (longest_to p r) s (own p r) (map (own_cell p r) cs) (partly annex p inputs s r g xs es n)
      pub next : cells_started (longest_to p r) s (own p r) (map (own_cell p r) cs) (partly annex p inputs s r g xs es n)
          ≡ partly annex p inputs s r (took g (in_cells cs xs)) (left_over cs xs) (es ++ placed cell_linked n cs) (n + length cs)

    step_cells : (cs : List ℕ) → ((c : ℕ) → In c cs → In c (own p r)) → (xs : List Early) → ((x : Early) → In x xs → IsEarly annex p r x) →
        (g : Seen) → Sized p inputs g → (es : List Linked) (n : ℕ)
        → length es + length cs ≤ length (own p r) → n + length cs ≤ top → StepsCells cs g xs es n
    step_cells [] ours xs facts g sized es n at_most stamps = record {
      accepted = tt;
      next = λ d. partly annex p inputs s r (record g { came = sym (append-nil g.came) d }) xs (sym (append-nil es) d) (sym (add-zero n) d);
    }
    step_cells (c ∷ cs) ours xs facts g sized es n at_most stamps =
        let one = step_cell c (ours c (inl refl)) xs facts g sized es n (omega arith) (omega arith) in
        let l = length-append es (cell_linked n c ∷ []) in
        let rest = step_cells cs (λ d i. ours d (inr i)) (left_of c xs) (λ x i. facts x (of_left c xs x i))
        (took g (map early_came (here_of c xs))) one.sized (es ++ cell_linked n c ∷ []) (n + 1) (omega (arith, l)) (omega arith) in
        record {
          accepted = (
            one.used,
            one.accepted,
            subst (AreAccepted (longest_to p r) s (own p r) (map (own_cell p r) cs)) (sym one.next)
                rest.accepted,
          );
          next =
              ap (cells_started (longest_to p r) s (own p r) (map (own_cell p r) cs)) one.next
              ∙ rest.next
              ∙ (λ d. partly annex p inputs s r (record g {
                came = append_assoc g.came (map early_came (here_of c xs))
                    (in_cells cs (left_of c xs)) d;
              }) (left_over cs (left_of c xs)) (placed_step cell_linked es n c cs d)
              (sum_step n (length cs) d));
        }

    -- every header is taken
    none_left : (cs : List ℕ) (xs : List Early) → ((x : Early) → In x xs → In (link p x.came.link).target cs) → left_over cs xs ≡ []
    none_left [] [] h = refl
    none_left [] (x ∷ xs) h = absurd (h x (inl refl))
    none_left (c ∷ cs) xs h = none_left cs (left_of c xs) (λ x i. let q = In-filter_cases (λ y. not (goes p c y)) x xs i in elim (h x q.0) [
      | inl e ↦ absurd (both (not-true _ q.1) (eq-eqb _ _ (sym e)))
      | inr j ↦ j
    ])
      where
        both : {b : Bool} → b ≡ false → b ≡ true → ⊥
        both e i = cc

    -- what came to one cell, in the order of arrival
    none_to : (c : ℕ) (cs : List ℕ) (xs : List Early) → ((x : Early) → In x xs → goes p c x ≡ false) →
        filter (to_cell p c) (in_cells cs xs) ≡ []
    none_to c [] xs h = refl
    none_to c (d ∷ cs) xs h =
        filter-append (to_cell p c) (map early_came (here_of d xs)) (in_cells cs (left_of d xs))
        ∙ ap₂ (λ a b. a ++ b) (none_first (here_of d xs) (λ x i. h x (of_here d xs x i).0))
        (none_to c cs (left_of d xs) (λ x i. h x (of_left d xs x i)))
      where
        none_first : (ys : List Early) → ((x : Early) → In x ys → goes p c x ≡ false) → filter (to_cell p c) (map early_came ys) ≡ []
        none_first [] h = refl
        none_first (y ∷ ys) h = ap (λ b. cond b (y.came ∷ filter (to_cell p c) (map early_came ys))
            (filter (to_cell p c) (map early_came ys))) (h y (inl refl)) ∙ none_first ys (λ x i. h x (inr i))

    same_to : (c : ℕ) (cs : List ℕ) → In c cs → (xs : List Early) → filter (to_cell p c) (in_cells cs xs) ≡ filter (to_cell p c)
        (map early_came xs)
    same_to c [] i xs = absurd i
    same_to c (d ∷ cs) i xs =
        filter-append (to_cell p c) (map early_came (here_of d xs)) (in_cells cs (left_of d xs))
        ∙ at (cases_eq d c) i (λ j. same_to c cs j (left_of d xs))
      where
        first : (ys : List Early) → filter (to_cell p d) (map early_came (here_of d ys)) ≡ filter (to_cell p d) (map early_came ys)
        first [] = refl
        first (y ∷ ys) = one (goes p d y) refl (first ys)
          where
            one : (b : Bool) → goes p d y ≡ b → filter (to_cell p d) (map early_came (here_of d ys)) ≡ filter (to_cell p d)
                (map early_came ys)
                → filter (to_cell p d) (map early_came (cond b (y ∷ here_of d ys) (here_of d ys))) ≡ cond (goes p d y)
                (y.came ∷ filter (to_cell p d) (map early_came ys)) (filter (to_cell p d) (map early_came ys))
            one true e rest = ap₂ (λ t v. cond t (y.came ∷ v) v) refl rest
            one false e rest = rest ∙ ap (λ t. cond t (y.came ∷ filter (to_cell p d) (map early_came ys))
                (filter (to_cell p d) (map early_came ys))) (sym e)

        none_here : (d ≡ c → ⊥) → (ys : List Early) → filter (to_cell p c) (map early_came (here_of d ys)) ≡ []
        none_here n [] = refl
        none_here n (y ∷ ys) = one (goes p d y) refl (none_here n ys)
          where
            one : (b : Bool) → goes p d y ≡ b → filter (to_cell p c) (map early_came (here_of d ys)) ≡ [] →
                filter (to_cell p c) (map early_came (cond b (y ∷ here_of d ys) (here_of d ys))) ≡ []
            one true e rest = ap (λ t. cond t (y.came ∷ filter (to_cell p c) (map early_came (here_of d ys)))
                (filter (to_cell p c) (map early_came (here_of d ys)))) (ne_eqb _ _ (λ q. n (sym (eqb-true _ _ e) ∙ q))) ∙ rest
            one false e rest = rest

        left_same : (d ≡ c → ⊥) → (ys : List Early) → filter (to_cell p c) (map early_came (left_of d ys)) ≡ filter (to_cell p c)
            (map early_came ys)
        left_same n [] = refl
        left_same n (y ∷ ys) = one (goes p d y) refl (left_same n ys)
          where
            one : (b : Bool) → goes p d y ≡ b → filter (to_cell p c) (map early_came (left_of d ys)) ≡ filter (to_cell p c)
                (map early_came ys)
                → filter (to_cell p c) (map early_came (cond (not b) (y ∷ left_of d ys) (left_of d ys))) ≡ cond (goes p c y)
                (y.came ∷ filter (to_cell p c) (map early_came ys)) (filter (to_cell p c) (map early_came ys))
            one true e rest = rest ∙ ap (λ t. cond t (y.came ∷ filter (to_cell p c) (map early_came ys))
                (filter (to_cell p c) (map early_came ys))) (sym (ne_eqb _ _ (λ q. n (sym (eqb-true _ _ e) ∙ q))))
            one false e rest = ap (λ v. cond (goes p c y) (y.came ∷ v) v) rest

        at : ((d ≡ c) ⊎ (d ≡ c → ⊥)) → In c (d ∷ cs) → (In c cs → filter (to_cell p c) (in_cells cs (left_of d xs)) ≡ filter (to_cell p c)
            (map early_came (left_of d xs))) → filter (to_cell p c) (map early_came (here_of d xs)) ++ filter (to_cell p c)
            (in_cells cs (left_of d xs)) ≡ filter (to_cell p c) (map early_came xs)
        at (inl e) i rest = subst (λ v. filter (to_cell p v) (map early_came (here_of d xs)) ++ filter (to_cell p v)
            (in_cells cs (left_of d xs)) ≡ filter (to_cell p v) (map early_came xs)) e
            (ap₂ (λ a b. a ++ b) (first xs) (none_to d cs (left_of d xs)
            (λ x j. not-true _ (In-filter_cases (λ y. not (goes p d y)) x xs j).1))
            ∙ append-nil (filter (to_cell p d) (map early_came xs)))
        at (inr n) (inl e) rest = absurd (n e)
        at (inr n) (inr j) rest = ap₂ (λ a b. a ++ b) (none_here n xs) (rest j ∙ left_same n xs)

    -- ---- the entries
    entries_are : placed cell_linked (length annex.before) (own p r) ≡ map (entry_of annex p s) (own p r)
    entries_are =
        ap (λ n. placed cell_linked n (own p r)) (sym (add-zero (length annex.before)))
        ∙ placed-shift cell_linked (length annex.before) 0 (own p r)
        ∙ placed-own (λ j. cell_linked (length annex.before + j)) (own p r) (Distinct-own p r)
        ∙ map-same _ _ (own p r) (λ c i. ap (λ v. cell_linked (length annex.before + place_in (own p v) c) c) (sym (own-In p r c i).1))

    few_own : length (own p r) ≤ length p.cells
    few_own =
        let f = length-filter (λ c. (cell p c).rank == r) (all_cells p) in
        let g = count_by-le-length (λ c. (cell p c).rank == r) (all_cells p) in
        let k = length-from_to 0 (length p.cells) in
        omega arith

    -- ---- the law: a start takes every early message, and leaves the interface in which all of them landed
    pub record IsTaken (xs : List Early) (g : Seen) : Type 0 where
      pub accepted : AreAccepted (longest_to p r) s (own p r) (map (own_cell p r) (own p r))
          (partly annex p inputs s r g xs [] (length annex.before))
      pub next : cells_started (longest_to p r) s (own p r) (map (own_cell p r) (own p r))
          (partly annex p inputs s r g xs [] (length annex.before)) ≡ view annex p inputs s r (took g (map early_came xs))

    pub cells_are : length annex.before ≤ 81 → (xs : List Early) → ((x : Early) → In x xs → IsEarly annex p r x) → (g : Seen) →
        Sized p inputs g → IsTaken xs g
    cells_are little xs facts g sized =
        let at_most = few_own in
        let cells = sound.few_cells in
        let all = step_cells (own p r) (λ c i. i) xs facts g sized [] (length annex.before) (omega arith) (omega arith) in
        record {
          accepted = all.accepted;
          next =
              all.next
              ∙ ap₂ (λ (ys : List Early) (es : List Linked). partly annex p inputs s r (took g (in_cells (own p r) xs)) ys es
              (length annex.before + length (own p r)))
              (none_left (own p r) xs (λ x i. let h = (facts x i).here in
              In-own p r (link p x.came.link).target (sound.links_sound x.came.link h.known).cells h.here))
              entries_are
              ∙ view-same annex p inputs s r g (in_cells (own p r) xs) (map early_came xs) (λ c i. same_to c (own p r) i xs);
        }

    -- ---- the go counter, which nothing has raised
    go_cell : r < p.ranks → In r (own p r)
    go_cell in_range = In-own p r r (let q = sound.all_go in omega arith) (sound.go_needs r in_range).2

    go_at : r < p.ranks → (counter_at s (own p r) r) ≡ cell_ct p s r
    go_at in_range = ap (λ v. counter_at s (own p v) r) (sym (sound.go_needs r in_range).2)

    change-same : (h : Handle) (f k : Count → Count) (xs : List (Live Count)) →
        ((x : Live Count) → In x xs → same_handle x.handle h ≡ true → f x.value ≡ k x.value) → change h f xs ≡ change h k xs
    change-same h f k [] e = refl
    change-same h f k (x ∷ xs) e = ap₂ (λ a b. a ∷ b) (one (same_handle x.handle h) refl) (change-same h f k xs (λ y i. e y (inr i)))
      where
        one : (b : Bool) → same_handle x.handle h ≡ b → change_one h f x ≡ change_one h k x
        one true q = ap (λ v. record { handle = x.handle; value = if same_handle x.handle h then v else x.value }) (e x (inl refl) q)
        one false q = ap (λ b. record { handle = x.handle; value = if b then f x.value else x.value }) q
            ∙ sym (ap (λ b. record { handle = x.handle; value = if b then k x.value else x.value }) q)

    -- only the go cell's counter has that handle
    the_go : (g : Seen) → r < p.ranks → (x : Live Count) → In x (view annex p inputs s r g).cts.live →
        same_handle x.handle (cell_ct p s r) ≡ true → x.value ≡ successes (min (reached_count p g r r) top)
    the_go g in_range x (inl e) q = absurd (apart (ap (λ (y : Live Count). same_handle y.handle (cell_ct p s r)) e ∙ q))
      where
        apart : same_handle (done_ct s) (cell_ct p s r) ≡ true → ⊥
        apart q = let z : 0 ≡ suc (place_in (own p (cell p r).rank) r) = eqb-true _ _ (and_parts _ _ q).0 in absurd (omega arith)
    the_go g in_range x (inr i) q =
        let k = In-map_cases (counter_of p s r g) x (own p r) i in
        let h : same_handle (cell_ct p s k.0) (cell_ct p s r) ≡ true = ap (λ (y : Live Count). same_handle y.handle (cell_ct p s r)) k.2
        ∙ q in
        let z : suc (place_in (own p (cell p k.0).rank) k.0) ≡ suc (place_in (own p (cell p r).rank) r) =
        eqb-true _ _ (and_parts _ _ h).0 in
        let y : place_in (own p r) k.0 ≡ place_in (own p r) r =
        subst (λ v. place_in (own p v) k.0 ≡ place_in (own p r) r) (own-In p r k.0 k.1).1
        (subst (λ v. place_in (own p (cell p k.0).rank) k.0 ≡ place_in (own p v) r) (sound.go_needs r in_range).2 (omega arith)) in
        sym (ap (λ (y : Live Count). y.value) k.2) ∙ ap (λ c. successes (min (reached_count p g r c) top))
        (place_in-one (own p r) k.0 r k.1 (go_cell in_range) y)

    pub record GoRises (g : Seen) : Type 0 where
      pub accepted : ct_inc_fault (counter_at s (own p r) r) (successes 1) (view annex p inputs s r g).cts ≡ None
      pub next : go_raised (counter_at s (own p r) r) (view annex p inputs s r g) ≡ raise_go (cell_ct p s r) (view annex p inputs s r g)

    pub go_rises : r < p.ranks → (g : Seen) → reached_count p g r r ≡ 0 → GoRises g
    go_rises in_range g zero_count =
        let fault : ct_inc_fault (cell_ct p s r) (successes 1) (view annex p inputs s r g).cts ≡ None =
        ap (λ o. need (is_some o) Stale (need (not (inc_passes o (successes 1))) CountFull None))
        (lookup_counter annex p inputs s r g r (go_cell in_range) ∙ ap (λ n. Some (successes (min n top))) zero_count) in
        record {
          accepted = ap (λ h. ct_inc_fault h (successes 1) (view annex p inputs s r g).cts) (go_at in_range) ∙ fault;
          next =
              ap (λ h. go_raised h (view annex p inputs s r g)) (go_at in_range)
              ∙ ap (λ o. (ends_by {A = Unit {0}} o (view annex p inputs s r g)
              (record (view annex p inputs s r g) {
                cts = changed (cell_ct p s r) (plus (successes 1)) (view annex p inputs s r g).cts;
              }) tt).state) fault
              ∙ ap (λ v. record (view annex p inputs s r g) { cts = record (view annex p inputs s r g).cts { live = v } })
              (change-same (cell_ct p s r) (plus (successes 1)) (bump (successes 1)) (view annex p inputs s r g).cts.live
              (λ x i q. ap (λ v. plus (successes 1) v) (the_go g in_range x i q ∙ ap (λ n. successes (min n top)) zero_count)
              ∙ sym (ap (λ v. bump (successes 1) v) (the_go g in_range x i q ∙ ap (λ n. successes (min n top)) zero_count))));
        }

    -- what came to a link's target didn't come to a go cell
    none_to_go : r < p.ranks → (xs : List Came) → ((a : Came) → In a xs → IsLinkHere p r a.link) → count_by (to_cell p r) xs ≡ 0
    none_to_go in_range [] h = refl
    none_to_go in_range (a ∷ xs) h =
        let q : to_cell p r a ≡ false = ne_eqb _ _ (λ e. subst (λ v. In a.link v) (sound.go_needs r in_range).1
        (In-in_links p r a.link (h a (inl refl)).known e)) in
        count-cons (to_cell p r) a xs ∙ ap₂ (λ b n. cond b 1 0 + n) q (none_to_go in_range xs (λ b i. h b (inr i)))

    came_to : (xs : List Early) → ((x : Early) → In x xs → IsEarly annex p r x) → (a : Came) → In a (map early_came xs) →
        IsLinkHere p r a.link
    came_to xs facts a i = let q = In-map_cases early_came a xs i in subst (λ (v : Came). IsLinkHere p r v.link) q.2 (facts q.0 q.1).here

    pub record IsStarted (xs : List Early) (g : Seen) : Type 0 where
      pub appends : AreAccepted (longest_to p r) s (own p r) (map (own_cell p r) (own p r))
          (partly annex p inputs s r g xs [] (length annex.before))
      pub raises : ct_inc_fault (counter_at s (own p r) r) (successes 1)
          (cells_started (longest_to p r) s (own p r) (map (own_cell p r) (own p r))
          (partly annex p inputs s r g xs [] (length annex.before))).cts ≡ None
      pub next : rank_started (longest_to p r) s (own p r) r (map (own_cell p r) (own p r))
          (partly annex p inputs s r g xs [] (length annex.before)) ≡ view annex p inputs s r
          (seen p g (Began ∷ map (λ a. Took a.link a.bytes) (map early_came xs)))

    pub start_is : length annex.before ≤ 81 → r < p.ranks → (xs : List Early) → ((x : Early) → In x xs → IsEarly annex p r x) → (g : Seen) →
        Sized p inputs g → g.started ≡ false → reached_count p g r r ≡ 0 → IsStarted xs g
    start_is little in_range xs facts g sized fresh unraised =
        let all = cells_are little xs facts g sized in
        let still : reached_count p (took g (map early_came xs)) r r ≡ 0 =
        ap (λ n. cond ((r == r) && g.started) 1 0 + (n + count_by (bumps p r) g.fired))
        (count-append (to_cell p r) g.came (map early_came xs)
        ∙ ap (λ n. count_by (to_cell p r) g.came + n) (none_to_go in_range (map early_came xs) (came_to xs facts))
        ∙ add-zero (count_by (to_cell p r) g.came)) ∙ unraised in
        let go = go_rises in_range (took g (map early_came xs)) still in
        record {
          appends = all.accepted;
          raises = ap (λ (v : State). ct_inc_fault (counter_at s (own p r) r) (successes 1) v.cts) all.next ∙ go.accepted;
          next =
              ap (go_raised (counter_at s (own p r) r)) all.next
              ∙ go.next
              ∙ step_start annex p inputs sound s r in_range (took g (map early_came xs)) fresh
              ∙ ap (view annex p inputs s r) (sym (seen_took p (note p g Began) (map early_came xs)));
        }
