-- None of the calls of a preparation is refused.
use Rattle.std.proofs.Common.{ℕ, suc, Bool, true, false, not, ◌&&◌, ◌||◌, ◌+◌, ◌-◌, ◌*◌, ◌^◌, ◌≡◌, ◌≤◌, ◌<◌, ◌==◌, nat_le, List, [], ◌∷◌}
use Rattle.std.proofs.Common.{◌++◌, refl, length, ap, ap₂, ◌∙◌, sym, subst, inl, inr, arith, map, Option, Some, None, zero-add}
use Rattle.std.proofs.Common.{if◌then◌else◌, flat_map, le-leb, is_some, sum_by, length-append, append-nil, append_assoc, ◌%◌}
use Rattle.std.proofs.lemmas.List.Sums.{sum_by-cons, length-filter, count_by-le-length}
use Rattle.ptl_types.specs.declared.elements.AtomicOp.{AtomicOp}
use Rattle.ptl_types.specs.declared.calls.TriggeredOp.{TriggeredOp}
use Rattle.ptl_types.specs.declared.calls.TriggeredOp.TheVariants.{Inc}
use Rattle.ptl_types.specs.declared.calls.NiFault.TheVariants.{Stale, NoSpace, OutOfRegion, CountFull}
use Rattle.ptl_types.specs.declared.handles.Count.{Count}
use Rattle.ni_model.specs.declared.Linked.{Linked}
use Rattle.ni_model.specs.Tables.{Live, lookup, is_live_or_none}
use Rattle.ni_model.specs.Counts.{successes}
use Rattle.ni_model.specs.Lists.{entries_in}
use Rattle.ni_model.specs.Append.{append_fault, need, is_within}
use Rattle.ni_model.specs.Refusals.{put_fits, holds_part, alloc_fault, bind_fault, triggered_fault, action_fits, action_is_live}
use Rattle.ni_model.specs.Refusals.{counts_on_live}
use Rattle.ni_model.specs.Refusals.{action_passes}
use Rattle.ni_model.specs.State.{State, parts_of}
use Rattle.ni_model.specs.Calls.{with_counter, with_bound, bound, with_index}
use Rattle.plan_core.specs.Members.{In}
use Rattle.plan_core.specs.declared.LinkKind.{LinkKind}
use Rattle.plan_core.specs.declared.LinkKind.TheVariants.{Put, Atomic, Bump}
use Rattle.plan_core.specs.Plan.{Plan, cell, link, own, out_links, is_bump, all_cells, all_links, from_to}
use Rattle.plan_core.specs.Places.{start_in, cell_length}
use Rattle.plan_core.specs.Sound.{SoundPlan, AreInputsOf}
use Rattle.plan_core.specs.Values.{Inputs, initial}
use Rattle.plan_core.proofs.Links.{own-In, In-own, out_links-In}
use Rattle.plan_core.proofs.Lists.{In-append_left}
use Rattle.plan_core.proofs.Values.{length-initial}
use Rattle.plan_core.proofs.Flat.{within_flat}
use Rattle.plan_core.specs.calls.RankOps.{RankOp, rank_ops, cell_of}
use Rattle.cuts.specs.machine.Seen.{nothing_seen}
use Rattle.plan_core.specs.calls.RankOps.RankOp.{ForLink, ForDone}
use Rattle.cuts.proofs.machine.RankOps.{rank_ops-along}
use Rattle.cuts.specs.view.Slots.{Slots, cell_ct, done_ct, the_md}
use Rattle.plan_core.specs.calls.Bits.{bits_above}
use Rattle.cuts.specs.view.View.{counter_of, Annex}
use Rattle.cuts.specs.view.TriggeredOps.{action_of, send_action, send_args}
use Rattle.plan_core.specs.calls.Areas.{region_length, area_length, area_start, areas_length, blank_area, blank_areas, classes, has_class}
use Rattle.plan_core.specs.calls.Areas.{links_to, longest}
use Rattle.cuts.specs.view.Calls.{AllPass, MayMake, area_entry, call_fault, call_made, calls_made, action_at, fresh}
use Rattle.cuts.proofs.view.Installed.{named, calls-append, placed, new_ct, new_op, cts_with, operations_with, after_counters}
use Rattle.cuts.proofs.view.Installed.{after_operations, cts_are}
use Rattle.cuts.proofs.start.Prepared.{bind, whole, areas_are, new_area, with_areas}
use Rattle.plan_core.specs.calls.Calls.{act_of, area_call, prepare_calls, trigger}
use Rattle.std.proofs.lemmas.List.{map-append}
use Rattle.plan_core.specs.calls.Limits.{limits_for}
use Rattle.ni_model.specs.Conditions.{MayStart}
use Rattle.std.proofs.Math.Nat.{le-max_left, le-max_right}
use Rattle.ptl_types.specs.Operations.{bytes_of}
use Rattle.ptl_types.specs.declared.steps.Call.{Call}
use Rattle.ptl_types.specs.declared.steps.Call.TheVariants.{CtCell, CtDone}
use Rattle.cuts.proofs.view.StepFire.{lookup_counter, cell_of-own}
use Rattle.cuts.proofs.view.Tables.{same_handle-refl}
use Rattle.cuts.proofs.start.Areas.{length-blank, length-links}
use Rattle.cuts.proofs.start.Starting.{flat-length, length-from_to, need4, room, none_of, above}

abbrev nothing_beside : Annex
nothing_beside = record { tail = []; after = 0; before = []; unexpected = 0 }

-- ---- small facts
length-placed : {X Y : Type 0} (f : ℕ → X → Y) (i : ℕ) (xs : List X) → length (placed f i xs) ≡ length xs
length-placed f i [] = refl
length-placed f i (x ∷ xs) = ap suc (length-placed f (suc i) xs)

few_own : (p : Plan) (r : ℕ) → length (own p r) ≤ length p.cells
few_own p r =
    let f = length-filter (λ c. (cell p c).rank == r) (all_cells p) in
    let g = count_by-le-length (λ c. (cell p c).rank == r) (all_cells p) in
    let k = length-from_to 0 (length p.cells) in
    omega arith

few_out : (p : Plan) (r : ℕ) → length (out_links p r) ≤ length p.links
few_out p r =
    let f = length-filter (λ l. (cell p (link p l).source).rank == r) (all_links p) in
    let g = count_by-le-length (λ l. (cell p (link p l).source).rank == r) (all_links p) in
    let k = length-from_to 0 (length p.links) in
    omega arith

few_classes : (p : Plan) (r : ℕ) → length (classes p r) ≤ 81
few_classes p r =
    let f = length-filter (λ k. has_class p k (links_to p r)) (from_to 0 81) in
    let g = count_by-le-length (λ k. has_class p k (links_to p r)) (from_to 0 81) in
    let k = length-from_to 0 81 in
    omega arith

length-split : {X : Type 0} (front : List X) (x : X) (back : List X) → length front < length (front ++ x ∷ back)
length-split [] x back = omega arith
length-split (y ∷ front) x back = let q = length-split front x back in omega arith

In-split : {X : Type 0} (front : List X) (x : X) (back : List X) → In x (front ++ x ∷ back)
In-split [] x back = inl refl
In-split (y ∷ front) x back = inr (In-split front x back)

pub length-rank_ops : (p : Plan) (r : ℕ) → length (rank_ops p r) ≡ length (out_links p r) + length (own p r)
length-rank_ops p r = sum (out_links p r)
  where
    mapped : (cs : List ℕ) → length (map ForDone cs) ≡ length cs
    mapped [] = refl
    mapped (c ∷ cs) = ap suc (mapped cs)

    sum : (ls : List ℕ) → length (map ForLink ls ++ map ForDone (own p r)) ≡ length ls + length (own p r)
    sum [] = mapped (own p r) ∙ sym (zero-add (length (own p r)))
    sum (l ∷ ls) = let q = sum ls in omega arith

need2 : (a b : Bool) → a ≡ true → b ≡ true → need a Stale (need b OutOfRegion None) ≡ None
need2 a b e f = ap₂ (λ x y. need x Stale (need y OutOfRegion None)) e f

-- ---- the interface after so many of the calls

-- portal table index 0, and the entries of these areas
abbrev entered_for : Plan → Inputs → Slots → ℕ → List ℕ → State
entered_for p inputs k r front = calls_made k (own p r) (map (area_call p r) front) (with_index 0 None (fresh p inputs r))

-- then the done counter, and a counter for each of these cells
abbrev counted_for : Plan → Inputs → Slots → ℕ → List ℕ → State
counted_for p inputs k r front = calls_made k (own p r) (map CtCell front) (with_counter (k.ct 0) (entered_for p inputs k r (classes p r)))

-- then the whole region as a descriptor, and these operations
abbrev triggered_for : Plan → Inputs → Slots → ℕ → List RankOp → State
triggered_for p inputs k r front = calls_made k (own p r) (map (trigger p) front)
    (with_bound k.md (whole p k r) (counted_for p inputs k r (own p r)))

module _ (p : Plan) (inputs : Inputs) (sound : SoundPlan p (length inputs)) (fit : AreInputsOf p inputs) (k : Slots) (r : ℕ) where
  sized : (d : ℕ) → In d (own p r) → length (initial p inputs d) ≡ cell_length p d
  sized d i = length-initial p inputs sound fit d (own-In p r d i).0

  region_is : length (flat_map (initial p inputs) (own p r)) ≡ region_length p r
  region_is = flat-length p (initial p inputs) (own p r) sized

  blank_sized : (a : ℕ) → In a (classes p r) → length (blank_area a (area_length p r a)) ≡ area_length p r a
  blank_sized a i = length-blank a (area_length p r a) (length-links p inputs sound r a)

  areas_are_long : length (blank_areas p r) ≡ areas_length p r
  areas_are_long = go (classes p r) (λ a i. i)
    where
      go : (as_ : List ℕ) → ((a : ℕ) → In a as_ → In a (classes p r)) → length (flat_map (λ k. blank_area k (area_length p r k)) as_)
          ≡ sum_by (area_length p r) as_
      go [] sub = refl
      go (a ∷ as_) sub =
          length-append (blank_area a (area_length p r a)) (flat_map (λ k. blank_area k (area_length p r k)) as_)
          ∙ ap₂ (λ x y. x + y) (blank_sized a (sub a (inl refl))) (go as_ (λ b i. sub b (inr i)))
          ∙ sym (sum_by-cons (area_length p r) a as_)

  longest-le : (ls : List ℕ) (l : ℕ) → In l ls → (link p l).length ≤ longest p ls
  longest-le [] l i = absurd i
  longest-le (m ∷ ls) l (inl e) = let q = ap (λ n. (link p n).length) e in let top = le-max_left (link p m).length (longest p ls) in
      omega arith
  longest-le (m ∷ ls) l (inr i) = let q = longest-le ls l i in let top = le-max_right (link p m).length (longest p ls) in omega arith

  -- ---- the areas' entries
  abbrev areas : List ℕ → List Linked
  areas front = placed (new_area p inputs k r (λ n. k)) 0 front

  entered_is : (front : List ℕ) → entered_for p inputs k r front ≡ with_areas p inputs k r (λ n. k) (areas front) (0 + length front)
  entered_is front = areas_are p inputs k r (λ n. k) front [] 0

  pub area_made : (front : List ℕ) (a : ℕ) (back : List ℕ) → classes p r ≡ front ++ a ∷ back
      → append_fault 0 (area_entry (area_start p r a) (area_length p r a) (bits_above a 0 * 2 ^ 16) (2 ^ 40 - 1))
      (parts_of (entered_for p inputs k r front)) ≡ None
  area_made front a back e =
      let i : In a (classes p r) = subst (λ v. In a v) (sym e) (In-split front a back) in
      let less : length front < length (classes p r) = subst (λ v. length front < length v) (sym e) (length-split front a back) in
      let at_most = few_classes p r in
      let w = within_flat (area_length p r) (λ k. blank_area k (area_length p r k)) (classes p r) blank_sized a i in
      let whole = length-append (flat_map (initial p inputs) (own p r)) (blank_areas p r) in
      let cells = region_is in
      ap (λ s. append_fault 0 (area_entry (area_start p r a) (area_length p r a) (bits_above a 0 * 2 ^ 16) (2 ^ 40 - 1)) (parts_of s))
      (entered_is front)
      ∙ need4 true true _ (is_within (area_start p r a) (area_length p r a)
      (length (flat_map (initial p inputs) (own p r) ++ blank_areas p r))) Stale Stale NoSpace OutOfRegion
      refl refl
      (room (length (classes p r) + length (own p r)) (linked (areas front)) (0 + length front) (let x = linked_is (areas front) in
      let y = length-placed (new_area p inputs k r (λ n. k)) 0 front in omega (arith, x, y, less)) (omega arith))
      (le-leb _ _ (omega (arith, w, whole, cells)))
    where
      linked : List Linked → ℕ
      linked xs = sum_by entries_in (Some (record { eq = None; priority = []; overflow = xs }) ∷ [])

      linked_is : (xs : List Linked) → linked xs ≡ length xs
      linked_is xs = sum_by-cons entries_in (Some (record { eq = None; priority = []; overflow = xs })) []
          ∙ (let q : 0 + length xs + 0 ≡ length xs = omega arith in q)

  -- ---- the counters
  abbrev entered_all : State
  entered_all = with_areas p inputs k r (λ n. k) (areas (classes p r)) (0 + length (classes p r))

  pub done_made : alloc_fault (entered_for p inputs k r (classes p r)).cts ≡ None
  done_made = ap (λ (s : State). alloc_fault s.cts) (entered_is (classes p r))
      ∙ ap (λ b. need b NoSpace None) (room (length (own p r) + 1) 0 0 (omega arith) (omega arith))

  pub counter_made : (front : List ℕ) → length front < length (own p r) → alloc_fault (counted_for p inputs k r front).cts ≡ None
  counter_made front h =
      let at_most = few_own p r in
      let cells = sound.few_cells in
      ap (λ s. alloc_fault (calls_made k (own p r) (map CtCell front) (with_counter (k.ct 0) s)).cts) (entered_is (classes p r))
      ∙ ap (λ (s : State). alloc_fault s.cts) (after_counters k (own p r) front (with_counter (k.ct 0) entered_all))
      ∙ ap (λ b. need b NoSpace None) (room (length (own p r) + 1) (suc (length (placed (new_ct k) 1 front))) (1 + length front)
      (let q = length-placed (new_ct k) 1 front in omega (arith, q, h)) (omega arith))

  -- ---- the state with all counters and the descriptor
  abbrev counters : List (Live Count)
  counters = record { handle = done_ct k; value = successes 0 } ∷ map (counter_of p k r nothing_seen) (own p r)

  abbrev based : State
  based = with_bound k.md (whole p k r) (cts_with (with_counter (k.ct 0) entered_all) counters (1 + length (own p r)))

  counted_is : counted_for p inputs k r (own p r) ≡ cts_with (with_counter (k.ct 0) entered_all) counters (1 + length (own p r))
  counted_is =
      ap (λ s. calls_made k (own p r) (map CtCell (own p r)) (with_counter (k.ct 0) s)) (entered_is (classes p r))
      ∙ after_counters k (own p r) (own p r) (with_counter (k.ct 0) entered_all)
      ∙ ap (λ xs. cts_with (with_counter (k.ct 0) entered_all) (record { handle = done_ct k; value = successes 0 } ∷ xs)
      (1 + length (own p r))) (cts_are p k r)

  live_cell : (c : ℕ) → In c (own p r) → is_some (lookup (cell_ct p k c) counters) ≡ true
  live_cell c i = ap is_some (lookup_counter nothing_beside p inputs k r nothing_seen c i)

  live_done : is_some (lookup (done_ct k) counters) ≡ true
  live_done = ap (λ b. is_some (if b then Some (successes 0) else lookup (done_ct k) (map (counter_of p k r nothing_seen) (own p r))))
      (same_handle-refl (done_ct k))

  live_md : is_some (lookup (the_md k) based.mds.live) ≡ true
  live_md = ap (λ b. is_some (if b then Some (bound (whole p k r)) else None)) (same_handle-refl (the_md k))

  -- ---- the descriptor
  pub descriptor_made : bind_fault (whole p k r) (length (counted_for p inputs k r (own p r)).memory)
      (counted_for p inputs k r (own p r)).cts (counted_for p inputs k r (own p r)).eqs (counted_for p inputs k r (own p r)).mds ≡ None
  descriptor_made =
      ap (λ (s : State). bind_fault (whole p k r) (length s.memory) s.cts s.eqs s.mds) counted_is
      ∙ ap₂ (λ a b. need a Stale (need b OutOfRegion None)) (live_ct p.remote)
      (le-leb _ _ (let q = region_is in let a = areas_are_long in let w = length-append (flat_map (initial p inputs) (own p r))
      (blank_areas p r) in omega (arith, q, a, w)))
    where
      live_ct : (b : Bool) → is_live_or_none (if b then Some (done_ct k) else None) based.cts ≡ true
      live_ct true = live_done
      live_ct false = refl

  -- ---- the operations
  triggered_is : (front : List RankOp) → ((w : RankOp) → In w front → In w (rank_ops p r)) →
      triggered_for p inputs k r front ≡ operations_with based (placed (new_op p k) 0 front) (0 + length front)
  triggered_is front sub =
      ap (λ s. calls_made k (own p r) (map (trigger p) front) (with_bound k.md (whole p k r) s)) counted_is
      ∙ after_operations p k (own p r) front (λ w i. named p (length inputs) sound k r w (sub w i)) based

  -- a part of a cell of this rank lies in the descriptor
  part_fits : (c at n : ℕ) → In c (own p r) → at + n ≤ (cell p c).length → is_within (start_in p (own p (cell p c).rank) c + at) n
      (region_length p r + areas_length p r) ≡ true
  part_fits c at n i h =
      let w = within_flat (cell_length p) (initial p inputs) (own p r) sized c i in
      let q = region_is in
      ap (λ v. is_within (start_in p (own p v) c + at) n (region_length p r + areas_length p r)) (own-In p r c i).1
      ∙ le-leb _ _ (omega arith)

  send_fits : (l : ℕ) → In l (out_links p r) → put_fits (send_args p k l) based.mds ≡ true
  send_fits l i =
      let q = out_links-In p r l i in
      let w = sound.links_sound l q.0 in
      let up = w.rising in
      let top = w.cells in
      ap (λ b. holds_part (if b then Some (bound (whole p k r)) else None) (send_args p k l).local_offset (link p l).length)
      (same_handle-refl (the_md k))
      ∙ part_fits (link p l).source (link p l).source_offset (link p l).length (In-own p r (link p l).source (omega arith) q.1)
      w.within_source

  -- what an action of this rank needs
  record MayPost (w : RankOp) : Type 0 where
    live : (counts_on_live (action_of p k w) based.cts && action_is_live (action_of p k w) based.mds) ≡ true
    fits : action_fits (action_of p k w) based.mds ≡ true
    small : not (action_passes (action_of p k w)) ≡ true

  may_send : (l : ℕ) → In l (out_links p r) → (o : Option AtomicOp) →
      ((counts_on_live (send_action p k l o) based.cts && action_is_live (send_action p k l o) based.mds) ≡ true) ×
      (action_fits (send_action p k l o) based.mds ≡ true) × (not (action_passes (send_action p k l o)) ≡ true)
  may_send l i None = (live_md, send_fits l i, refl)
  may_send l i (Some o) = (live_md, send_fits l i, refl)

  may_post : (w : RankOp) → In w (rank_ops p r) → MayPost w
  may_post (ForDone c) i = record { live = ap (λ b. b && true) live_done; fits = refl; small = refl }
  may_post (ForLink l) i = at (is_bump (link p l).kind) refl
    where
      along : Bool → TriggeredOp
      along b = if b then Inc (cell_ct p k (link p l).target) (successes 1) else send_action p k l (cell p (link p l).target).op

      at : (b : Bool) → is_bump (link p l).kind ≡ b → MayPost (ForLink l)
      at true e =
          let q = out_links-In p r l (rank_ops-along p r l i) in
          let s = sound.links_sound l q.0 in
          let t : In (link p l).target (own p r) = In-own p r (link p l).target s.cells (sym (s.bump_stays (bump_kind (link p l).kind e))
          ∙ q.1) in
          record {
            live = ap (λ b. counts_on_live (along b) based.cts && action_is_live (along b) based.mds) e
                ∙ ap (λ b. b && true) (live_cell (link p l).target t);
            fits = ap (λ b. action_fits (along b) based.mds) e;
            small = ap (λ b. not (action_passes (along b))) e;
          }
        where
          bump_kind : (a : LinkKind) → is_bump a ≡ true → a ≡ Bump
          bump_kind Bump e = refl
          bump_kind Put e = cc
          bump_kind Atomic e = cc
      at false e =
          let m = may_send l (rank_ops-along p r l i) (cell p (link p l).target).op in
          record {
            live = ap (λ b. counts_on_live (along b) based.cts && action_is_live (along b) based.mds) e ∙ m.0;
            fits = ap (λ b. action_fits (along b) based.mds) e ∙ m.1;
            small = ap (λ b. not (action_passes (along b))) e ∙ m.2;
          }

  pub operation_made : (front : List RankOp) (w : RankOp) (back : List RankOp) → rank_ops p r ≡ front ++ w ∷ back
      → triggered_fault (action_of p k w) (cell_ct p k (cell_of p w)) (triggered_for p inputs k r front).cts
      (triggered_for p inputs k r front).mds (triggered_for p inputs k r front).pending ≡ None
  operation_made front w back e =
      let i : In w (rank_ops p r) = subst (λ v. In w v) (sym e) (In-split front w back) in
      let may = may_post w i in
      let less : length front < length (rank_ops p r) = subst (λ v. length front < length v) (sym e) (length-split front w back) in
      let size = length-rank_ops p r in
      let a = few_own p r in
      let b = few_out p r in
      let at_most = sound.few_together in
      ap (λ (s : State). triggered_fault (action_of p k w) (cell_ct p k (cell_of p w)) s.cts s.mds s.pending)
      (triggered_is front (λ v j. subst (λ vs. In v vs) (sym e) (In-append_left v front (w ∷ back) j)))
      ∙ need4 _ _ _ _ Stale NoSpace OutOfRegion CountFull
      (ap₂ (λ x y. x && y) (live_cell (cell_of p w) (cell_of-own p (length inputs) sound r w i)) may.live)
      (numbers (length (out_links p r) + length (own p r)) (length (placed (new_op p k) 0 front)) (0 + length front)
      (let q = length-placed (new_op p k) 0 front in omega (arith, q, less, size)) (omega (arith, less, size, a, b, at_most)))
      may.fits
      may.small
    where
      numbers : (limit n given : ℕ) → n < limit → given < 2 ^ 32 - 1 → not (nat_le limit n || nat_le (2 ^ 32 - 1) given) ≡ true
      numbers limit n given h k = none_of (nat_le limit n) (nat_le (2 ^ 32 - 1) given) (above n limit h) (above given (2 ^ 32 - 1) k)

  -- ---- what is sent may be sent
  may-start : (l : ℕ) → In l (out_links p r) → (o : Option AtomicOp) → (cell p (link p l).target).op ≡ o →
      MayStart (send_action p k l o) p.ranks (limits_for p r)
  may-start l i None e =
      let q = out_links-In p r l i in
      let known = sound.ranks_known (link p l).target (sound.links_sound l q.0).cells in
      let short = longest-le (out_links p r) l i in
      record { target_known = omega arith; short = omega arith }
  may-start l i (Some o) e =
      let q = out_links-In p r l i in
      let s = sound.links_sound l q.0 in
      let known = sound.ranks_known (link p l).target s.cells in
      let short = longest-le (out_links p r) l i in
      let same : (link p l).length ≡ (cell p (link p l).target).length = (s.atomic_whole (s.atomic_here o e)).1 in (
        record { target_known = omega arith; short = omega arith },
        record {
          whole = ap (λ n. n % bytes_of (cell p (link p l).target).ty) same ∙ sound.whole (link p l).target s.cells;
          at_most =
              omega arith;
        },
      )

  may-make : (w : RankOp) → In w (rank_ops p r) → MayStart (action_of p k w) p.ranks (limits_for p r)
  may-make (ForDone c) i = tt
  may-make (ForLink l) i = at (is_bump (link p l).kind)
    where
      at : (b : Bool) → MayStart (if b then Inc (cell_ct p k (link p l).target) (successes 1) else send_action p k l
          (cell p (link p l).target).op) p.ranks (limits_for p r)
      at true = tt
      at false = may-start l (rank_ops-along p r l i) (cell p (link p l).target).op refl

  -- ---- all calls, one after the other

  -- calls that are made for the members of a list: each passes after those of the members before it
  pass-list : {X : Type 0} (f : X → Call) (s : State) (front back : List X) (ys : List Call)
      → ((before : List X) (x : X) (after : List X) → front ++ back ≡ before ++ x ∷ after →
      MayMake k (own p r) (f x) (calls_made k (own p r) (map f before) s) ×
      (call_fault k (own p r) (f x) (calls_made k (own p r) (map f before) s) ≡ None))
      → AllPass k (own p r) ys (calls_made k (own p r) (map f (front ++ back)) s)
      → AllPass k (own p r) (map f back ++ ys) (calls_made k (own p r) (map f front) s)
  pass-list f s front [] ys each rest = subst (λ xs. AllPass k (own p r) ys (calls_made k (own p r) (map f xs) s)) (append-nil front) rest
  pass-list f s front (x ∷ back) ys each rest =
      let one = each front x back refl in
      let e = append_assoc front (x ∷ []) back in
      let more = pass-list f s (front ++ x ∷ []) back ys (λ before y after q. each before y after (sym e ∙ q))
      (subst (λ xs. AllPass k (own p r) ys (calls_made k (own p r) (map f xs) s)) (sym e) rest) in (
        one.0,
        one.1,
        subst (λ v. AllPass k (own p r) (map f back ++ ys) v)
            (ap (λ xs. calls_made k (own p r) xs s) (map-append f front (x ∷ []))
            ∙ calls-append k (own p r) (map f front) (f x ∷ []) s) more,
      )

  abbrev operations : List Call
  operations = map (trigger p) (rank_ops p r)

  pass_operations : AllPass k (own p r) operations (with_bound k.md (whole p k r) (counted_for p inputs k r (own p r)))
  pass_operations =
      subst (λ xs. AllPass k (own p r) xs (with_bound k.md (whole p k r) (counted_for p inputs k r (own p r)))) (append-nil operations)
      (pass-list (trigger p) (with_bound k.md (whole p k r) (counted_for p inputs k r (own p r))) [] (rank_ops p r) [] each tt)
    where
      each : (before : List RankOp) (w : RankOp) (after : List RankOp) → rank_ops p r ≡ before ++ w ∷ after
          → MayMake k (own p r) (trigger p w) (triggered_for p inputs k r before) ×
          (call_fault k (own p r) (trigger p w) (triggered_for p inputs k r before) ≡ None)
      each before w after e =
          let i : In w (rank_ops p r) = subst (λ v. In w v) (sym e) (In-split before w after) in
          let n = named p (length inputs) sound k r w i in
          let is = triggered_is before (λ v j. subst (λ vs. In v vs) (sym e) (In-append_left v before (w ∷ after) j)) in (
            subst (λ (v : State). MayStart (action_at k (own p r) (act_of p w)) v.ranks v.limits) (sym is)
                (subst (λ d. MayStart d p.ranks (limits_for p r)) (sym n.action) (may-make w i)),
            ap₂ (λ d h. triggered_fault d h (triggered_for p inputs k r before).cts (triggered_for p inputs k r before).mds
                (triggered_for p inputs k r before).pending) n.action n.ct ∙ operation_made before w after e,
          )

  pass_bound : AllPass k (own p r) (bind p r ∷ operations) (counted_for p inputs k r (own p r))
  unfolding call_made
  pass_bound = (tt, descriptor_made, pass_operations)

  pass_counters : AllPass k (own p r) (map CtCell (own p r) ++ (bind p r ∷ operations))
      (with_counter (k.ct 0) (entered_for p inputs k r (classes p r)))
  pass_counters = pass-list CtCell (with_counter (k.ct 0) (entered_for p inputs k r (classes p r))) [] (own p r) (bind p r ∷ operations)
      (λ before c after e. (tt, counter_made before (subst (λ v. length before < length v) (sym e) (length-split before c after))))
      pass_bound

  pass_done : AllPass k (own p r) (CtDone ∷ (map CtCell (own p r) ++ (bind p r ∷ operations))) (entered_for p inputs k r (classes p r))
  unfolding call_made
  pass_done = (
    tt,
    done_made,
    subst (λ v. AllPass k (own p r) (map CtCell (own p r) ++ (bind p r ∷ operations)) v) (sym (given_is k))
        pass_counters,
  )
    where
      given_is : (s : Slots) → with_counter (s.ct (entered_for p inputs k r (classes p r)).cts.given)
          (entered_for p inputs k r (classes p r)) ≡ with_counter (s.ct 0) (entered_for p inputs k r (classes p r))
      given_is s = ap (λ (v : State). with_counter (s.ct v.cts.given) (entered_for p inputs k r (classes p r))) (entered_is (classes p r))

  pub all_pass : AllPass k (own p r) (prepare_calls p r) (fresh p inputs r)
  unfolding call_made
  all_pass = (
    tt,
    refl,
    pass-list (area_call p r) (with_index 0 None (fresh p inputs r)) [] (classes p r)
        (CtDone ∷ (map CtCell (own p r) ++ (bind p r ∷ operations)))
        (λ before a after e. (tt, area_made before a after e)) pass_done,
  )
