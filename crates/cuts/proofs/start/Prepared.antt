-- The prepared interface of a plan is the closed form to which nothing came.
use Rattle.std.proofs.Common.{ℕ, suc, ◌+◌, ◌-◌, ◌*◌, ◌^◌, ◌≡◌, List, [], ◌∷◌, ◌++◌, length, map, flat_map, refl, ap, ap₂, ◌∙◌, sym, arith}
use Rattle.std.proofs.Common.{Some, None, append-nil, add-zero}
use Rattle.ptl_types.specs.declared.handles.Count.{Count}
use Rattle.ni_model.specs.declared.Linked.{Linked}
use Rattle.ni_model.specs.Tables.{Live, handle}
use Rattle.ni_model.specs.Counts.{successes}
use Rattle.ni_model.specs.Append.{append}
use Rattle.ni_model.specs.State.{State, Posted}
use Rattle.ni_model.specs.Calls.{with_index, with_counter}
use Rattle.plan_core.specs.Members.{Distinct}
use Rattle.plan_core.specs.Plan.{Plan, own, out_links, from_to}
use Rattle.plan_core.specs.Values.{Inputs, initial}
use Rattle.plan_core.proofs.Links.{Distinct-from_to}
use Rattle.plan_core.proofs.Lists.{Distinct-filter, length-map'}
use Rattle.cuts.specs.machine.Seen.{nothing_seen}
use Rattle.plan_core.specs.calls.RankOps.{rank_ops}
use Rattle.cuts.specs.view.Slots.{Slots, done_ct}
use Rattle.plan_core.specs.calls.Bits.{bits_above}
use Rattle.cuts.specs.view.Calls.{area_entry, call_made, calls_made, fresh, prepare, whole_region}
use Rattle.cuts.proofs.view.Installed.{placed, placed-own, placed_step, sum_step, after_counters, after_operations, cts_are, pending_are}
use Rattle.cuts.proofs.view.Installed.{calls-append, named}
use Rattle.plan_core.specs.calls.Areas.{area_length, area_start, blank_area, blank_areas, classes, has_class, links_to, areas_length}
use Rattle.plan_core.specs.calls.Areas.{region_length}
use Rattle.plan_core.specs.calls.Limits.{limits_for}
use Rattle.cuts.specs.start.Waiting.{area, area_linked, waiting_view}
use Rattle.plan_core.specs.Sound.{SoundPlan}
use Rattle.plan_core.specs.calls.Calls.{area_call, trigger}
use Rattle.ptl_types.specs.declared.entries.Descriptor.{Descriptor}
use Rattle.ptl_types.specs.declared.steps.Call.{Call}
use Rattle.ptl_types.specs.declared.steps.Call.TheVariants.{CtCell, CtDone, MdBind}

flat-same : (f g : ℕ → List ℕ) (xs : List ℕ) → ((x : ℕ) → f x ≡ g x) → flat_map f xs ≡ flat_map g xs
flat-same f g [] e = refl
flat-same f g (x ∷ xs) e = ap₂ (λ a b. a ++ b) (e x) (flat-same f g xs e)

-- the descriptor, as its call names it and as it is bound
abbrev pub bind : Plan → ℕ → Call
bind p r = MdBind (region_length p r + areas_length p r) p.remote

abbrev pub whole : Plan → Slots → ℕ → Descriptor
whole p k r = whole_region (done_ct k) (region_length p r + areas_length p r) p.remote

module _ (p : Plan) (inputs : Inputs) (s : Slots) (r : ℕ) (senders : ℕ → Slots) where
  Distinct-classes : Distinct (classes p r)
  Distinct-classes = Distinct-filter (λ k. has_class p k (links_to p r)) (from_to 0 81) (Distinct-from_to 0 81)

  abbrev pub new_area : ℕ → ℕ → Linked
  new_area n k = record {
    handle = handle (s.me n) n;
    running = 0;
    entry = area_entry (area_start p r k) (area_length p r k)
        (bits_above k 0 * 2 ^ 16) (2 ^ 40 - 1);
  }

  -- the state while the areas are appended
  abbrev pub with_areas : List Linked → ℕ → State
  with_areas es n = record (with_index 0 None (fresh p inputs r)) {
    indices = Some (record { eq = None; priority = []; overflow = es }) ∷ [];
    entries_given = n;
  }

  pub areas_are : (ks : List ℕ) (es : List Linked) (n : ℕ) → calls_made s (own p r) (map (area_call p r) ks) (with_areas es n)
      ≡ with_areas (es ++ placed new_area n ks) (n + length ks)
  unfolding append call_made
  areas_are [] es n = ap₂ with_areas (sym (append-nil es)) (sym (add-zero n))
  areas_are (k ∷ ks) es n = areas_are ks (es ++ new_area n k ∷ []) (n + 1) ∙ ap₂ with_areas (placed_step new_area es n k ks)
      (sum_step n (length ks))

  abbrev made : List ℕ → List (Live Count) → List Linked → List Posted → ℕ → ℕ → ℕ → ℕ → State
  made m cs es ps a b c n = record (waiting_view p inputs s r senders [] nothing_seen) {
    limits = record (limits_for p r) { entries = n + length (own p r) };
    memory = flat_map (initial p inputs) (own p r) ++ m;
    cts = record { live = record { handle = done_ct s; value = successes 0 } ∷ cs; given = a; limit = length (own p r) + 1 };
    indices = Some (record { eq = None; priority = []; overflow = es }) ∷ [];
    entries_given = b;
    pending = record { waiting = ps; given = c; limit = length (out_links p r) + length (own p r) };
  }

  minus_zero : (n : ℕ) → n ≡ n - 0
  minus_zero n = omega arith

  pub prepared : (n : ℕ) → SoundPlan p n → prepare p inputs s r ≡ waiting_view p inputs s r senders [] nothing_seen
  unfolding call_made
  prepared n sound =
      let size = length-map' (area_linked p s r []) (classes p r) in
      let m : blank_areas p r ≡ flat_map (area p r []) (classes p r) = flat-same (λ k. blank_area k (area_length p r k)) (area p r [])
      (classes p r) (λ k. ap (blank_area k) (minus_zero (area_length p r k))) in
      let es : placed new_area 0 (classes p r) ≡ map (area_linked p s r []) (classes p r) =
      placed-own new_area (classes p r) Distinct-classes in
      let n1 : 1 + length (own p r) ≡ suc (length (own p r)) = omega arith in
      let n2 : 0 + length (classes p r) ≡ length (map (area_linked p s r []) (classes p r)) = omega (arith, size) in
      let n3 : 0 + length (rank_ops p r) ≡ length (rank_ops p r) = omega arith in
      calls-append s (own p r) (map (area_call p r) (classes p r))
      (CtDone ∷ (map CtCell (own p r) ++ (bind p r ∷ map (trigger p) (rank_ops p r)))) (with_areas [] 0)
      ∙ ap (calls_made s (own p r) (CtDone ∷ (map CtCell (own p r) ++ (bind p r ∷ map (trigger p) (rank_ops p r)))))
      (areas_are (classes p r) [] 0)
      ∙ calls-append s (own p r) (map CtCell (own p r)) (bind p r ∷ map (trigger p) (rank_ops p r))
      (with_counter (s.ct 0) (with_areas (placed new_area 0 (classes p r)) (0 + length (classes p r))))
      ∙ ap (calls_made s (own p r) (bind p r ∷ map (trigger p) (rank_ops p r)))
      (after_counters s (own p r) (own p r) (with_counter (s.ct 0)
      (with_areas (placed new_area 0 (classes p r)) (0 + length (classes p r)))))
      ∙ after_operations p s (own p r) (rank_ops p r) (named p n sound s r) _
      ∙ (λ d. made (m d) (cts_are p s r d) (es d) (pending_are p s r d) (n1 d) (n2 d) (n3 d) (sym size d))
