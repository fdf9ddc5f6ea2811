-- The laws of a cut in terms of counters and regions.
use Rattle.cuts.specs.histories.System.{Histories, state_at}
use Rattle.cuts.specs.histories.Plans.{CounterReached, system_of}
use Rattle.cuts.specs.histories.Cut.{IsCut}
use Rattle.cuts.specs.view.Slots.{Slots, cell_ct}
use Rattle.std.proofs.Common.{ℕ, ◌+◌, ◌≡◌, ◌<◌, ◌≤◌, List, refl, length, ap, ◌∙◌, sym, arith, min, Some, None, flat_map, add-zero, Option}
use Rattle.std.proofs.Common.{◌++◌}
use Rattle.ni_model.specs.Tables.{Table, lookup}
use Rattle.ni_model.specs.Counts.{successes}
use Rattle.op_laws.proofs.Bytes.{part_all}
use Rattle.op_laws.specs.Combining.{CombineStarts, CombineSwaps}
use Rattle.plan_core.proofs.Flat.{part_flat}
use Rattle.plan_core.proofs.Links.{In-own, own-In}
use Rattle.plan_core.specs.Places.{cell_length, start_in}
use Rattle.plan_core.specs.Plan.{Plan, cell, own}
use Rattle.plan_core.specs.Sound.{AreInputsOf, SoundPlan}
use Rattle.plan_core.specs.Values.{Inputs, initial, value}
use Rattle.cuts.proofs.histories.Told.{needs_small}
use Rattle.cuts.proofs.histories.FromCut.{moves_at, machine_cut, simulation}
use Rattle.cuts.proofs.histories.Shape.{shape}
use Rattle.cuts.proofs.machine.Ancestors.{ancestors_reached}
use Rattle.cuts.proofs.machine.Central.{cut_holds}
use Rattle.cuts.specs.machine.Machine.{HasReached, Leads, all_seen}
use Rattle.cuts.specs.machine.Seen.{content, reached_count}
use Rattle.cuts.proofs.view.StepFire.{lookup_counter}
use Rattle.ptl_types.specs.Elements.{part}
use Rattle.ptl_types.specs.Handles.{top}
use Rattle.ptl_types.specs.declared.handles.Count.{Count}

same_count : (a : ℕ) (b : Count) → Some (successes a) ≡ Some b → a + 0 ≡ b.success + b.failure
same_count a b e = ap (λ (o : Option Count). elim o [ Some c ↦ c.success + c.failure | None ↦ 0 ]) e

module _ (starts : CombineStarts) (p : Plan) (inputs : Inputs) (sound : SoundPlan p (length inputs)) (fit : AreInputsOf p inputs)
    (slots : ℕ → Slots) (w : Histories) (cut : IsCut (system_of p inputs slots) w) where
  counter_is : (c : ℕ) → c < length p.cells → lookup (cell_ct p (slots (cell p c).rank) c)
      (state_at (system_of p inputs slots) w (cell p c).rank).cts.live ≡ Some
      (successes (min (reached_count p (all_seen p (moves_at p w) (cell p c).rank) (cell p c).rank c) top))
  counter_is c h =
      ap (λ (t : Table Count). lookup (cell_ct p (slots (cell p c).rank) c) t.live)
      (shape starts p inputs sound fit slots w cut (cell p c).rank (sound.ranks_known c h)).cts
      ∙ lookup_counter (shape starts p inputs sound fit slots w cut (cell p c).rank (sound.ranks_known c h)).annex p inputs
      (slots (cell p c).rank) (cell p c).rank (all_seen p (moves_at p w) (cell p c).rank) c (In-own p (cell p c).rank c h refl)

  to_machine : (c : ℕ) → c < length p.cells → CounterReached p inputs slots w c → HasReached p (moves_at p w) c
  to_machine c h k =
      let e = same_count _ _ (sym (counter_is c h) ∙ k.counter) in
      let m = k.enough in
      omega (arith, e, m)

  from_machine : (c : ℕ) → c < length p.cells → HasReached p (moves_at p w) c → CounterReached p inputs slots w c
  from_machine c h n = record {
    count = successes (min (reached_count p (all_seen p (moves_at p w) (cell p c).rank) (cell p c).rank c)
        top);
    counter = counter_is c h;
    enough = let s = needs_small p (length inputs) sound c h in omega (arith, s, n);
  }

  pub reached_holds : CombineSwaps → (c : ℕ) → c < length p.cells → CounterReached p inputs slots w c →
      part (start_in p (own p (cell p c).rank) c) (cell p c).length (state_at (system_of p inputs slots) w (cell p c).rank).memory ≡ value
      p inputs c
  reached_holds swaps c h k =
      let r = (cell p c).rank in
      let in_range = sound.ranks_known c h in
      let sh = shape starts p inputs sound fit slots w cut (cell p c).rank in_range in
      let sim = simulation starts p inputs sound fit slots w cut (cell p c).rank in_range in
      ap (λ (m : List ℕ). part (start_in p (own p (cell p c).rank) c) (cell p c).length m) sh.memory
      ∙ ap (λ n. part n (cell p c).length (flat_map (λ d. content p (all_seen p (moves_at p w) (cell p c).rank).came d
      (initial p inputs d)) (own p (cell p c).rank) ++ sh.annex.tail)) (sym (add-zero (start_in p (own p (cell p c).rank) c)))
      ∙ part_flat (cell_length p) (λ d. content p (all_seen p (moves_at p w) (cell p c).rank).came d (initial p inputs d))
      (own p (cell p c).rank) (λ d j. sim.sized d (own-In p (cell p c).rank d j).0) c 0 (cell p c).length
      (In-own p (cell p c).rank c h refl) (let q : 0 + (cell p c).length ≤ (cell p c).length = omega arith in q) sh.annex.tail
      ∙ part_all (cell p c).length (content p (all_seen p (moves_at p w) (cell p c).rank).came c (initial p inputs c)) (sim.sized c h)
      ∙ cut_holds swaps p inputs sound fit (moves_at p w) (machine_cut starts p inputs sound fit slots w cut) (cell p c).rank c in_range h
      (to_machine c h k)

  pub ancestor_reached : (b c : ℕ) → b < length p.cells → c < length p.cells → Leads p b c → CounterReached p inputs slots w c →
      CounterReached p inputs slots w b
  ancestor_reached b c i h path k = from_machine b i (ancestors_reached p inputs sound (moves_at p w)
      (machine_cut starts p inputs sound fit slots w cut) b c h path (to_machine c h k))
